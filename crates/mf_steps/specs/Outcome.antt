-- What a run of a script's steps answers.
use Rattle.std.specs.Prelude.{◌≡◌, string_bytes}
use Rattle.mf_calls.specs.declared.script.Script.{Script}
use Rattle.mf_steps.specs.declared.stepping.Stepped.{Stepped}
use Rattle.mf_steps.specs.declared.stepping.Stepped.TheVariants as stepped
use Rattle.mf_steps.specs.StepText.{IsStepRun, IsFirstRefused}

-- Every step is taken, and this is the text; or the step of that number is the first that is refused.
abbrev pub IsSteppedBy : Script → Stepped → Type 0
IsSteppedBy s (stepped.Taken text core) = IsStepRun s core.history (string_bytes text) × (core.script ≡ s)
IsSteppedBy s (stepped.Refused number) = IsFirstRefused s number
