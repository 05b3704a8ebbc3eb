use Rattle.mf_plan.proofs.Viewing.{IsFilled}
use Rattle.mf_plan.proofs.views.fill_views.Given as goal

abbrev pub invariant-loop-place : goal.invariant-loop-place
invariant-loop-place l = IsFilled l.objects l.asked l.checks l.place l.subjects l.seen l.last
