-- The policies that are listed in a legal state have the label slots that they want.
use Rattle.std.proofs.Common.{List, [], ◌∷◌}
use Rattle.mf_policy.specs.Registration.{Entry}
use Rattle.mf_calls.specs.declared.script.Script.{Script}
use Rattle.mf_calls.specs.WellFormed.{IsWellFormed}
use Rattle.mf_core.specs.declared.history.History.{History}
use Rattle.mf_core.specs.LegalHistory.{IsLegal, run_state_of}
use Rattle.mf_matrix.specs.Slotted.{AreSlotted}
use Rattle.mf_why.specs.Slots.{HaveLabelSlots}
use Rattle.mf_why.proofs.Slots.{slots_after}

slotted : (es : List Entry) → HaveLabelSlots es → AreSlotted es
slotted [] all = tt
slotted (e ∷ es) all = ((λ wanted. all.0), slotted es all.1)

pub legal_are_slotted : (s : Script) (h : History) → IsWellFormed s → IsLegal s h → AreSlotted (run_state_of s h.events.list).state.specs
legal_are_slotted s h formed legal = slotted (run_state_of s h.events.list).state.specs (slots_after s h.events.list formed)
