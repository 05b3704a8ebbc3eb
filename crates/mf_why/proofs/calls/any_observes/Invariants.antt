use Rattle.std.proofs.Common.{◌≡◌, false, take}
use Rattle.mf_why.specs.Ruled.{any_observes}
use Rattle.mf_why.proofs.calls.any_observes.Given as goal

abbrev pub invariant-loop-check : goal.invariant-loop-check
invariant-loop-check l = any_observes (take l.check-index l.checks) ≡ false
