use Rattle.std.proofs.Common.{◌≡◌, Option, map, take}
use Rattle.std.specs.Prelude.{option_copied}
use Rattle.mf_elem.specs.declared.label.Request.{Request}
use Rattle.mf_policy.specs.Lowering.{after_checks}
use Rattle.mf_plan.specs.Outline.{item_asking}
use Rattle.mf_perform.specs.Held.{with_element}
use Rattle.mf_perform.proofs.lowering.lowered_by.Given as goal

abbrev pub invariant-loop-check : goal.invariant-loop-check
invariant-loop-check l =
    (asked : Option Request) → with_element l.own (option_copied l.lowered)
    ≡ after_checks l.slot l.own (map (item_asking l.objects asked) (take l.check-index l.checks))
