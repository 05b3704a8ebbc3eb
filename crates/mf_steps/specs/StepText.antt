-- How the steps of a script end, by docs/MANUAL.md (STEPS).
use Rattle.std.specs.Prelude.{◌≡◌, ℕ, ◌+◌, List, ◌∷◌, ◌++◌, length}
use Rattle.std.specs.List.{flat_map}
use Rattle.mf_calls.specs.declared.script.Script.{Script}
use Rattle.mf_calls.specs.declared.script.Step.{Step}
use Rattle.mf_core.specs.declared.history.History.{History}
use Rattle.mf_core.specs.Opening.{boots_of}
use Rattle.mf_hist.specs.HistoryText.{boot_text}
use Rattle.mf_steps.specs.StepRun.{StepRun, step_opening}
use Rattle.mf_steps.specs.Steps.{AreTaken, IsRefused}

-- every step of the script is taken
abbrev pub AreAllTaken : Script → Type 0
AreAllTaken s = (last : StepRun) × (printed : List ℕ) × AreTaken s (step_opening s) s.steps printed last

-- Every step of the script is taken, and this is the history that they make. The text is that of the registrations at boot, and then what each
-- step prints.
pub record IsStepRun (s : Script) (h : History) (text : List ℕ) : Type 0 where
  pub last : StepRun
  pub printed : List ℕ
  pub taken : AreTaken s (step_opening s) s.steps printed last
  pub boots : h.boots ≡ boots_of s
  pub events : h.events.list ≡ last.events
  pub whole : text ≡ flat_map boot_text h.boots ++ printed

-- The step of that number, counted from 1, is the first that is refused: each before it is taken.
pub record IsFirstRefused (s : Script) (number : ℕ) : Type 0 where
  pub last : StepRun
  pub printed : List ℕ
  pub before : List Step
  pub refused : Step
  pub behind : List Step
  pub steps : s.steps ≡ before ++ refused ∷ behind
  pub taken : AreTaken s (step_opening s) before printed last
  pub refuses : IsRefused s last refused
  pub is_next : number ≡ length before + 1
