use Rattle.std.proofs.Common.{◌≡◌, ◌≤◌, length, map, take}
use Rattle.mf_list.specs.Asked.{grant_of}
use Rattle.mf_list.proofs.ask.grants.Given as goal

abbrev pub invariant-loop-place : goal.invariant-loop-place
invariant-loop-place g l = record {
  room : length l.grants ≡ 8;
  few : length l.listed ≤ 8;
  so_far : take l.place l.grants ≡ map (grant_of l.item.privilege l.item.subject.cred) (take l.place l.listed);
}
