-- That the listed policies have label slots that there are.
use Rattle.std.specs.Prelude.{◌<◌, List}
use Rattle.std.specs.List.{AllByRecursion}
use Rattle.mf_elem.specs.declared.label.TheConstants.{SLOTS}
use Rattle.mf_policy.specs.Registration.{Entry}
use Rattle.mf_list.specs.Asked.{slot_of}

-- the slot of the policy is one that labels have
abbrev pub HasLabelSlot : Entry → Type 0
HasLabelSlot entry = slot_of entry.0 < SLOTS

abbrev pub HaveLabelSlots : List Entry → Type 0
HaveLabelSlots listed = AllByRecursion HasLabelSlot listed
