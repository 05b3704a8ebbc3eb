-- What is true of the opening state, and of label slots and their marks over every legal history: labels are initialised and destroyed once, as
-- mac(9) asks.
use Rattle.std.specs.Prelude.{◌≡◌, ◌≢◌, ℕ, ◌<◌, ◌+◌, Bool, true, false, ◌&&◌, List, [], ◌∷◌, length, Some, None, is_some, is_none, Contains}
use Rattle.mf_elem.specs.declared.label.TheConstants.{SLOTS}
use Rattle.mf_elem.specs.declared.label.RangeLabel.{RangeLabel}
use Rattle.mf_elem.specs.declared.label.LabelValue.{LabelValue}
use Rattle.mf_elem.specs.declared.label.LabelValue.TheVariants.{Unset, Range, Number}
use Rattle.mf_elem.specs.Label.{is_valid, is_plain_label}
use Rattle.mf_item.specs.declared.view.Kind.{Kind}
use Rattle.mf_item.specs.declared.view.Kind.TheVariants as kinds
use Rattle.mf_policy.specs.declared.modules.Labelling.{Labelling}
use Rattle.mf_policy.specs.declared.modules.Labelling.TheVariants.{Ranges, Elements, Partitions}
use Rattle.mf_policy.specs.Modules.{facts_of}
use Rattle.mf_policy.specs.declared.registration.Registration.{Registration}
use Rattle.mf_objects.specs.declared.id.Id.{Id}
use Rattle.mf_objects.specs.Live.{LiveEntity, kind_of, live_at, value_in}
use Rattle.mf_calls.specs.declared.script.Script.{Script}
use Rattle.mf_calls.specs.WellFormed.{IsWellFormed}
use Rattle.mf_plan.specs.declared.state.State.{State}
use Rattle.mf_core.specs.declared.history.History.{History}
use Rattle.mf_core.specs.Opening.{opening_state}
use Rattle.mf_core.specs.LegalHistory.{run_state_of, IsLegal}
use Rattle.mf_lifetimes.specs.Marks.{Mark, labellers, marks_of}
use Rattle.mf_lifetimes.specs.Marks.Mark.{Made}
use Rattle.mf_lifetimes.specs.Once.{AreMadeOnce}

-- the state at the end of a history
abbrev pub state_of : Script → History → State
state_of s h = (run_state_of s h.events.list).state

-- It is so in every legal history of a well-formed script.
abbrev pub SlotsAreMadeOnce : Type 0
SlotsAreMadeOnce = (s : Script) (h : History) → IsWellFormed s → IsLegal s h → AreMadeOnce s h

-- an unset slot has no mark, and a set one has been made, by some registration, and hasn't ended
abbrev pub AreMarksOf : LabelValue → List Mark → Type 0
AreMarksOf Unset marks = marks ≡ []
AreMarksOf other marks = (r : Registration) × (marks ≡ Made r ∷ [])

-- A slot of a live entity is unset exactly where it has no mark.
abbrev pub SetSlotsAreMarked : Type 0
SetSlotsAreMarked = (s : Script) (h : History) (id : Id) (e : LiveEntity) (slot : ℕ) → IsWellFormed s → IsLegal s h
    → live_at (state_of s h).objects id ≡ Some e → slot < SLOTS → AreMarksOf (value_in slot e) (marks_of s h.events.list id slot)

-- A slot of an entity that has gone isn't left as it was made: it was never made, or it has ended.
abbrev pub GoneSlotsHaveEnded : Type 0
GoneSlotsHaveEnded = (s : Script) (h : History) (id : Id) (slot : ℕ) (r : Registration) → IsWellFormed s → IsLegal s h
    → live_at (state_of s h).objects id ≡ None → slot < SLOTS → marks_of s h.events.list id slot ≢ Made r ∷ []

-- whether the label is as entities of that kind have it: a process's has a range, in which its effective element lies, and another's has an
-- effective element and no range
abbrev pub suits_kind : Kind → RangeLabel → Bool
suits_kind kinds.Process label = is_valid label && is_some label.range
suits_kind other label = is_some label.effective && is_none label.range

-- whether a slot that is labelled so holds a valid label for that kind: by ranges, one that suits the kind; by elements, one without compartments
-- and without a range; by partitions, which no module that stays has, a number
abbrev pub holds_valid : Labelling → Kind → LabelValue → Bool
holds_valid (Ranges process other) kind (Range label) = suits_kind kind label
holds_valid (Elements element) kind (Range label) = is_plain_label label
holds_valid Partitions kind (Number n) = true
holds_valid labels kind value = false

-- The registration alone is listed with this slot, and labels entities of every kind; and the slot of each live entity holds a valid label:
-- where the module labels by ranges or by elements, always with an effective element, and by ranges that of a process with a range too.
pub record LabelsAll (r : Registration) (slot : ℕ) (state : State) : Type 0 where
  pub listed : (kind : Kind) → labellers state.specs kind slot ≡ r ∷ []
  pub valid : (id : Id) (e : LiveEntity) → live_at state.objects id ≡ Some e → holds_valid (facts_of r.module).labels (kind_of e.what) (value_in slot e) ≡ true

-- What was booted for good, with a label slot, labels all entities at any time, each with a valid label.
abbrev pub BootedPoliciesLast : Type 0
BootedPoliciesLast = (s : Script) (h : History) (r : Registration) (slot : ℕ) → IsWellFormed s → IsLegal s h
    → Contains h.boots r → r.fixed ≡ true → r.slot ≡ Some slot → slot < SLOTS → LabelsAll r slot (state_of s h)

-- In the opening state of a well-formed script no file and no task is missing: beside the root directory as many entities live as there
-- are files and tasks.
abbrev pub OpeningIsWhole : Type 0
OpeningIsWhole = (s : Script) → IsWellFormed s → length (opening_state s).objects.live ≡ 1 + length s.files + length s.tasks
