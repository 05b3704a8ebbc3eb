use Rattle.std.proofs.Common.{◌≡◌, false, take}
use Rattle.std.specs.List.{list_any}
use Rattle.mf_policy.specs.Registration.{Entry}
use Rattle.mf_why.specs.Ruled.{has_rules}
use Rattle.mf_why.proofs.calls.is_ruled.Given as goal

abbrev pub invariant-loop-place : goal.invariant-loop-place
invariant-loop-place l = list_any (λ (entry : Entry). has_rules entry.1) (take l.place l.listed) ≡ false
