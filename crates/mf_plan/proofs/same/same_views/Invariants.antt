use Rattle.std.proofs.Common.{◌≡◌, map, take}
use Rattle.mf_plan.specs.Items.{item_with}
use Rattle.mf_plan.proofs.same.same_views.Given as goal

abbrev pub invariant-loop-i : goal.invariant-loop-i
invariant-loop-i l = map (item_with l.subjects) (take l.i l.seen) ≡ map (item_with l.theirs) (take l.i l.others)
