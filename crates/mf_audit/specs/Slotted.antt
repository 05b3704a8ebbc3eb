-- That the label slots of the listed policies are slots that labels have. Inner contracts alone cite this.
use Rattle.std.specs.Prelude.{◌<◌, List}
use Rattle.std.specs.List.{AllByRecursion}
use Rattle.mf_elem.specs.declared.label.TheConstants.{SLOTS}
use Rattle.mf_list.specs.Asked.{slot_of}
use Rattle.mf_policy.specs.Registration.{Entry}

abbrev pub IsSlotted : Entry → Type 0
IsSlotted entry = slot_of entry.0 < SLOTS

-- each has its slot below their number
abbrev pub AreSlotted : List Entry → Type 0
AreSlotted listed = AllByRecursion IsSlotted listed
