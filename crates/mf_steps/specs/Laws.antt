-- Laws of step runs.
use Rattle.std.specs.Prelude.{◌≡◌, ℕ, List, [], ◌++◌}
use Rattle.std.specs.List.{flat_map}
use Rattle.mf_calls.specs.declared.script.Script.{Script}
use Rattle.mf_core.specs.declared.history.Event.{Event}
use Rattle.mf_core.specs.declared.history.History.{History}
use Rattle.mf_core.specs.LegalHistory.{IsLegal}
use Rattle.mf_hist.specs.HistoryText.{boot_text, event_text, history_text}
use Rattle.mf_steps.specs.Steps.{stale_text, waits_text}
use Rattle.mf_steps.specs.StepText.{AreAllTaken, IsStepRun, IsFirstRefused}

-- the history of a step run is legal
abbrev pub StepRunsAreLegal : Type 0
StepRunsAreLegal = (s : Script) (h : History) (text : List ℕ) → IsStepRun s h text → IsLegal s h

-- two histories have the same registrations and the same events
pub record AreSame (h g : History) : Type 0 where
  pub boots : h.boots ≡ g.boots
  pub events : h.events.list ≡ g.events.list

-- A script has at most one step run; it has at most one first step that is refused; and where it has one, it has not the other.
pub record StepRunsEndOneWay : Type 0 where
  pub one_text : (s : Script) (h g : History) (text other : List ℕ) → IsStepRun s h text → IsStepRun s g other → text ≡ other
  pub one_history : (s : Script) (h g : History) (text other : List ℕ) → IsStepRun s h text → IsStepRun s g other → AreSame h g
  pub one_refused : (s : Script) (n m : ℕ) → IsFirstRefused s n → IsFirstRefused s m → n ≡ m
  pub not_both : (s : Script) (n : ℕ) → AreAllTaken s → ¬ IsFirstRefused s n

-- what is left of some lines without those of stale plans and of changes that wait: the lines of events
pub data Leaves (s : Script) : List ℕ → List ℕ → Type 0 where
  nothing : Leaves s [] []
  event : (e : Event) (text left : List ℕ) → Leaves s text left → Leaves s (event_text s e ++ text) (event_text s e ++ left)
  stale : (t : ℕ) (text left : List ℕ) → Leaves s text left → Leaves s (stale_text s t ++ text) left
  waits : (t n : ℕ) (text left : List ℕ) → Leaves s text left → Leaves s (waits_text s t n ++ text) left

-- The lines of a step run are those of its history, with lines of stale plans and of changes that wait between them.
abbrev pub StepTextsTellHistories : Type 0
StepTextsTellHistories = (s : Script) (h : History) (text : List ℕ) → IsStepRun s h text
    → (printed : List ℕ) × (left : List ℕ) × (text ≡ flat_map boot_text h.boots ++ printed) × (history_text s h ≡ flat_map boot_text h.boots ++ left) × Leaves s printed left
