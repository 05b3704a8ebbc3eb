use Rattle.std.proofs.Common.{◌≡◌, take}
use Rattle.mf_policy.proofs.spec_list.SpecList.copy.Given as goal

abbrev pub invariant-loop-registration : goal.invariant-loop-registration
invariant-loop-registration l = l.copy ≡ take l.registration-index l.registration-items
