use Rattle.std.proofs.Common.{length}
use Rattle.mf_plan.proofs.LookingUp.{IsLookingUp}
use Rattle.mf_plan.proofs.lookup.lookup_along.Given as goal

abbrev pub invariant-loop-name : goal.invariant-loop-name
invariant-loop-name l = IsLookingUp l.objects l.path l.components l.lookups l.target

abbrev pub decreases-loop-name : goal.decreases-loop-name
decreases-loop-name l = length l.components
