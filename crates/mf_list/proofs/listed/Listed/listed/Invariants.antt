use Rattle.std.proofs.Common.{◌≡◌, ◌≤◌, length, map, take}
use Rattle.mf_policy.specs.Registration.{Entry}
use Rattle.mf_list.proofs.listed.Listed.listed.Given as goal

abbrev pub invariant-loop-place : goal.invariant-loop-place
invariant-loop-place g l = record {
  few : length l.self ≤ 8;
  so_far : l.registrations ≡ map (λ (entry : Entry). entry.0) (take l.place l.self);
}
