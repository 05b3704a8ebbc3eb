-- Which checks leave their caller another element of mac_lomac(4): those by which it observes an object whose element doesn't dominate its own.
use Rattle.std.specs.Prelude.{ℕ, if◌then◌else◌, Option, Some, None, slice_index_or}
use Rattle.mf_elem.specs.declared.elem.Elem.{Elem}
use Rattle.mf_elem.specs.declared.label.LabelValue.TheVariants.{Unset}
use Rattle.mf_elem.specs.Elem.{dominates}
use Rattle.mf_item.specs.Item.{Item}
use Rattle.mf_policy.specs.Answer.{object_slot, range_label}
use Rattle.mf_policy.specs.Lowering.{observes}
use Rattle.mf_policy.specs.Operations.{row_of}
use Rattle.mf_why.specs.declared.lowerings.Lowering.{Lowering}

abbrev pub lowering_by : Option Elem → Option Elem → Option Lowering
lowering_by (Some own) (Some seen) = if dominates seen own then None else Some (record { before = own; left = seen })
lowering_by own seen = None

-- how a check that passed lowers its subject, by the label slot of mac_lomac
abbrev pub lowering_of : ℕ → Item → Option Lowering
lowering_of slot item =
    if observes (row_of item.op).movement
    then lowering_by (range_label (slice_index_or item.subject.label slot Unset)).effective (range_label (object_slot item.object slot)).effective
    else None
