use Rattle.std.proofs.Common.{◌≡◌, map, take}
use Rattle.mf_plan.specs.Outline.{item_asking}
use Rattle.mf_plan.specs.Items.{item_with}
use Rattle.mf_plan.specs.Viewing.{IsFoundAt}
use Rattle.mf_plan.proofs.views.are_views.Given as goal

abbrev pub invariant-loop-i : goal.invariant-loop-i
invariant-loop-i l = (map (item_with l.subjects) (take l.i l.seen) ≡ map (item_asking l.objects l.asked) (take l.i l.checks)) × IsFoundAt l.objects l.subjects l.last l.before
