use Rattle.mf_plan.proofs.LoweredViews.{IsLowered}
use Rattle.mf_plan.proofs.lowering.lower.Given as goal

abbrev pub invariant-loop-place : goal.invariant-loop-place
invariant-loop-place l = IsLowered l.slot l.caller l.fn.own l.initial.subjects l.initial.checks l.place l.subjects l.checks l.value l.is_lowered
