use Rattle.std.proofs.Common.{◌≡◌, ◌++◌, ℕ, List, take, string_bytes}
use Rattle.std.specs.List.{flat_map}
use Rattle.mf_core.specs.Opening.{boots_of}
use Rattle.mf_hist.specs.HistoryText.{boot_text}
use Rattle.mf_steps.specs.StepRun.{step_opening}
use Rattle.mf_steps.specs.Stepper.{step_run}
use Rattle.mf_steps.specs.Steps.{AreTaken}
use Rattle.mf_steps.proofs.stepping.take_steps.Given as goal

abbrev pub invariant-loop-i : goal.invariant-loop-i
invariant-loop-i g l =
    (printed : List ℕ) × AreTaken l.script (step_opening l.script) (take l.i l.steps) printed (step_run l.stepper) × (l.stepper.core.script ≡ l.script)
    × (string_bytes l.text ≡ flat_map boot_text (boots_of l.script) ++ printed)
