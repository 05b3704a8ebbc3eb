-- How the marks of label slots tell what stands in the slots.
use Rattle.std.specs.Prelude.{◌≡◌, ℕ, ◌<◌, Some}
use Rattle.mf_elem.specs.declared.label.TheConstants.{SLOTS}
use Rattle.mf_objects.specs.declared.id.Id.{Id}
use Rattle.mf_objects.specs.Live.{LiveEntity, live_at, value_in}
use Rattle.mf_calls.specs.declared.script.Script.{Script}
use Rattle.mf_core.specs.declared.history.History.{History}
use Rattle.mf_lifetimes.specs.Marks.{marks_of}
use Rattle.mf_lifetimes.specs.Laws.{state_of, AreMarksOf}

-- At the end of the history a label slot of a live entity is unset exactly where it has no mark, and a set one has been made and hasn't ended.
abbrev pub AreMarked : Script → History → Type 0
AreMarked s h = (id : Id) (e : LiveEntity) (slot : ℕ) → live_at (state_of s h).objects id ≡ Some e → slot < SLOTS → AreMarksOf (value_in slot e) (marks_of s h.events.list id slot)
