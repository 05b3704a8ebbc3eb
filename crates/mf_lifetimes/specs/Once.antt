-- That a label slot is made and ended at most once: this model's own.
use Rattle.std.specs.Prelude.{ℕ, ◌<◌, List, [], ◌∷◌}
use Rattle.mf_elem.specs.declared.label.TheConstants.{SLOTS}
use Rattle.mf_policy.specs.declared.registration.Registration.{Registration}
use Rattle.mf_objects.specs.declared.id.Id.{Id}
use Rattle.mf_calls.specs.declared.script.Script.{Script}
use Rattle.mf_core.specs.declared.history.History.{History}
use Rattle.mf_lifetimes.specs.Marks.{Mark, marks_of}
use Rattle.mf_lifetimes.specs.Marks.Mark.{Made, Ended, Left}

-- The slot was never made; or it was made, and may have ended once, under one and the same registration.
pub data AreOnce : List Mark → Type 0 where
  never : AreOnce []
  made : (r : Registration) → AreOnce (Made r ∷ [])
  ended : (r : Registration) → AreOnce (Made r ∷ Ended r ∷ [])
  left : (r : Registration) → AreOnce (Made r ∷ Left r ∷ [])

-- In this history each label slot of each entity is made at most once and ended at most once.
abbrev pub AreMadeOnce : Script → History → Type 0
AreMadeOnce s h = (id : Id) (slot : ℕ) → slot < SLOTS → AreOnce (marks_of s h.events.list id slot)
