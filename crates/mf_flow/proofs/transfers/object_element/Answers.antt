use Rattle.std.proofs.Common.{◌≡◌, ℕ, Option, Some, option_map, ap, sym, ◌∙◌}
use Rattle.mf_policy.specs.Answer.{object_slot, range_label}
use Rattle.mf_objects.specs.declared.id.Id.{Id}
use Rattle.mf_objects.specs.Live.{Entities}
use Rattle.mf_plan.specs.declared.outline.Check.{Check}
use Rattle.mf_plan.specs.Outline.{item_asking, item_of}
use Rattle.mf_objects.specs.Lives.{view_at}
use Rattle.mf_flow.specs.Rows.{element_numbered}
use Rattle.mf_flow.proofs.transfers.object_element.Goals as goal

object_read : (o : Entities) (slot : ℕ) (check : Check) (id : Id) (n : ℕ) → check.object ≡ Some id → n ≡ id.0
    → element_numbered slot o n ≡ (range_label (object_slot (item_of o check).object slot)).effective
unfolding item_asking
object_read o slot check id n is number =
    ap (element_numbered slot o) number
    ∙ sym (ap (λ (object : Option Id). (range_label (object_slot (option_map (view_at o) object) slot)).effective) is)

pub returns-in-Some : goal.returns-in-Some
returns-in-Some c = c.element_at.ensures ∙ object_read c.args.objects.now c.args.slot c.args.check.now c.in-Some.id c.number.result c.in-Some.is c.number.ensures
