-- What the functions of a stepper answer; inner contracts alone cite this.
use Rattle.std.specs.Prelude.{◌≡◌, ℕ, Bool, true, false, List, [], ◌∷◌, ◌++◌, Option, Some, None}
use Rattle.std.specs.List.{flat_map}
use Rattle.mf_calls.specs.declared.script.Script.{Script}
use Rattle.mf_calls.specs.declared.script.Step.{Step}
use Rattle.mf_calls.specs.declared.script.StepKind.{StepKind}
use Rattle.mf_core.specs.declared.history.Event.{Event}
use Rattle.mf_core.specs.Opening.{boots_of}
use Rattle.mf_hist.specs.HistoryText.{boot_text, event_text}
use Rattle.mf_steps.specs.StepRun.{StepRun, step_opening}
use Rattle.mf_steps.specs.StepText.{IsFirstRefused}
use Rattle.mf_steps.specs.Stepper.{StepperView, step_run}
use Rattle.mf_steps.specs.Steps.{Does, AreTaken, IsTaken, IsRefused}

-- the step is done, and its text appended
abbrev pub DoesStep : StepperView → StepKind → ℕ → StepperView → List ℕ → List ℕ → Type 0
DoesStep old kind t new before after = (text : List ℕ) × Does old.core.script (step_run old) kind t text (step_run new) × (after ≡ before ++ text)

-- the step is taken and its text appended, or it is refused and nothing changes
abbrev pub StepsOrNot : Bool → StepperView → Step → StepperView → List ℕ → List ℕ → Type 0
StepsOrNot true old x new before after = (text : List ℕ) × IsTaken old.core.script (step_run old) x text (step_run new) × (after ≡ before ++ text)
StepsOrNot false old x new before after = IsRefused old.core.script (step_run old) x × (new ≡ old) × (after ≡ before)

-- the line of the last event is appended
abbrev pub PrintsLast : Script → List Event → List ℕ → List ℕ → Type 0
PrintsLast s events before after = (earlier : List Event) (last : Event) → events ≡ earlier ++ last ∷ [] → after ≡ before ++ event_text s last

-- All steps are taken, and the text is that of the run; or the step of that number is the first that is refused.
abbrev pub TakesSteps : Script → StepRun → List ℕ → Option ℕ → Type 0
TakesSteps s last text None = (printed : List ℕ) × AreTaken s (step_opening s) s.steps printed last × (text ≡ flat_map boot_text (boots_of s) ++ printed)
TakesSteps s last text (Some number) = IsFirstRefused s number
