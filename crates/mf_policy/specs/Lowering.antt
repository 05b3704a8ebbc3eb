-- What a subject becomes by what it observes: mac_lomac(4) lowers it to the element of each object that doesn't dominate it.
use Rattle.std.specs.Prelude.{ℕ, Bool, true, false, if◌then◌else◌, List, fold, Option, Some}
use Rattle.mf_errno.specs.declared.module.Module.TheVariants as modules
use Rattle.mf_elem.specs.declared.elem.Elem.{Elem}
use Rattle.mf_elem.specs.declared.label.LabelValue.{LabelValue}
use Rattle.mf_elem.specs.declared.label.LabelValue.TheVariants.{Range}
use Rattle.mf_elem.specs.Elem.{dominates}
use Rattle.mf_item.specs.Item.{Item}
use Rattle.mf_policy.specs.declared.operations.Movement.{Movement}
use Rattle.mf_policy.specs.declared.operations.Movement.TheVariants.{ToSubject, BothWays}
use Rattle.mf_policy.specs.Answer.{object_slot, range_label}
use Rattle.mf_policy.specs.Operations.{row_of}
use Rattle.mf_policy.specs.Registration.{Entry, slot_in}

-- What remains of a subject's element after it has observed an object of another. What is labelled `equal` is dominated by every element and
-- dominates each: so it isn't lowered, and lowers nothing.
abbrev pub lowered : Elem → Elem → Elem
lowered subject object = if dominates object subject then subject else object

-- the same, where one may have no element; by such an object nothing is lowered
abbrev pub lowered_element : Option Elem → Option Elem → Option Elem
lowered_element (Some subject) (Some object) = Some (lowered subject object)
lowered_element subject object = subject

-- the value of a subject's label slot, after it has observed an object whose slot has the other value
abbrev pub lowered_value : LabelValue → LabelValue → LabelValue
lowered_value (Range own) other = Range (record own { effective = lowered_element own.effective (range_label other).effective })
lowered_value own other = own

-- whether information moves to the subject
abbrev pub observes : Movement → Bool
observes ToSubject = true
observes BothWays = true
observes other = false

-- the value of the subject's slot after a check that passed
abbrev pub after_check : ℕ → LabelValue → Item → LabelValue
after_check slot value item = if observes (row_of item.op).movement then lowered_value value (object_slot item.object slot) else value

-- and after some, one after another
abbrev pub after_checks : ℕ → LabelValue → List Item → LabelValue
after_checks slot value items = fold (after_check slot) value items

-- the label slot of mac_lomac, where it is listed
abbrev pub lomac_slot : List Entry → Option ℕ
lomac_slot = slot_in modules.Lomac
