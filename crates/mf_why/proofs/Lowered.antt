-- That a lowering is told exactly where there is one.
use Rattle.std.proofs.Common.{◌≡◌, Bool, true, false, Option, Some, None, refl, ap, sym, ◌∙◌}
use Rattle.std.specs.Prelude.{if◌then◌else◌, slice_index_or}
use Rattle.mf_elem.specs.declared.elem.Elem.{Elem}
use Rattle.mf_elem.specs.declared.label.LabelValue.{LabelValue}
use Rattle.mf_elem.specs.declared.label.LabelValue.TheVariants.{Unset, Range, Number}
use Rattle.mf_elem.specs.declared.label.RangeLabel.{RangeLabel}
use Rattle.mf_elem.specs.Elem.{dominates}
use Rattle.mf_policy.specs.Answer.{object_slot}
use Rattle.mf_policy.specs.Lowering.{lowered_element, lowered_value, observes}
use Rattle.mf_policy.specs.Operations.{row_of}
use Rattle.mf_flow.proofs.Orders.{dominates_itself}
use Rattle.mf_why.specs.Laws.{IsLowered, LoweringsAreTold, element_of}
use Rattle.mf_why.specs.Lowerings.{lowering_by}

by_element : (own : RangeLabel) (o : Option Elem) → own.effective ≡ o → (x : Option Elem)
    → IsLowered (Range own) (Range (record own { effective = lowered_element o x })) (lowering_by o x)
by_element own None is x = ap (λ (e : Option Elem). Range (record own { effective = e })) (sym is)
by_element own (Some s) is None = ap (λ (e : Option Elem). Range (record own { effective = e })) (sym is)
by_element own (Some s) is (Some x) = one (dominates x s) refl
  where
    one : (b : Bool) → dominates x s ≡ b
        → IsLowered (Range own) (Range (record own { effective = Some (if b then s else x) })) (if b then None else Some (record { before = s; left = x }))
    one true above = ap (λ (e : Option Elem). Range (record own { effective = e })) (sym is)
    one false above = (is, refl, λ same. cc (sym (dominates_itself x) ∙ ap (dominates x) (sym same) ∙ above))

by_value : (own seen : LabelValue) → IsLowered own (lowered_value own seen) (lowering_by (element_of own) (element_of seen))
by_value Unset seen = refl
by_value (Range own) seen = by_element own own.effective refl (element_of seen)
by_value (Number n) seen = refl

pub lowerings_are_told : LoweringsAreTold
lowerings_are_told slot item = one (observes (row_of item.op).movement)
  where
    own : LabelValue
    own = slice_index_or item.subject.label slot Unset

    seen : LabelValue
    seen = object_slot item.object slot

    one : (b : Bool) → IsLowered own (if b then lowered_value own seen else own) (if b then lowering_by (element_of own) (element_of seen) else None)
    one true = by_value own seen
    one false = refl
