-- What happened to the parties of each of some policies.
use Rattle.std.specs.Prelude.{◌<◌, List, [], ◌++◌}
use Rattle.mf_elem.specs.declared.label.TheConstants.{SLOTS}
use Rattle.mf_policy.specs.declared.registration.Registration.{Registration}
use Rattle.mf_list.specs.Asked.{slot_of}
use Rattle.mf_chains.specs.declared.happening.Occurrence.{Occurrence}
use Rattle.mf_chains.specs.declared.pasts.Past.{Past}

-- the policy's label slot is one that there is
abbrev pub HasLabelSlot : Past → Type 0
HasLabelSlot p = slot_of p.registration < SLOTS

-- nothing happened yet
abbrev pub no_past : Registration → Past
no_past r = record { registration = r; occurrences = [] }

-- what happens by the policy is behind what happened before
abbrev pub with_more : (Registration → List Occurrence) → Past → Past
with_more happens p = record p { occurrences = p.occurrences ++ happens p.registration }
