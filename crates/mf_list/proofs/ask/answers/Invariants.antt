use Rattle.std.proofs.Common.{◌≡◌, ◌≤◌, length, take}
use Rattle.mf_list.specs.Asked as spec
use Rattle.mf_list.proofs.ask.answers.Given as goal

abbrev pub invariant-loop-place : goal.invariant-loop-place
invariant-loop-place g l = record {
  room : length l.answers ≡ 8;
  few : length l.listed ≤ 8;
  so_far : take l.place l.answers ≡ spec.answers (take l.place l.listed) l.item;
}
