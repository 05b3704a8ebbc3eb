-- That the listed policies have the label slots that they want.
use Rattle.std.specs.Prelude.{◌<◌, IsTrue, List}
use Rattle.std.specs.List.{AllByRecursion}
use Rattle.mf_elem.specs.declared.label.TheConstants.{SLOTS}
use Rattle.mf_list.specs.Asked.{slot_of}
use Rattle.mf_policy.specs.Modules.{module_of, wants_slot}
use Rattle.mf_policy.specs.Registration.{Entry}

-- the slot of a policy that wants one is one that labels have
abbrev pub IsSlotted : Entry → Type 0
IsSlotted entry = IsTrue (wants_slot (module_of entry.1)) → slot_of entry.0 < SLOTS

abbrev pub AreSlotted : List Entry → Type 0
AreSlotted listed = AllByRecursion IsSlotted listed
