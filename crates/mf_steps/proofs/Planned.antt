-- The plan that is kept is that of the task's call, with the verdict of the listed policies on it.
use Rattle.std.proofs.Common.{◌≡◌, ℕ, List, [], Option, Some, refl, ap, ◌∙◌}
use Rattle.std.specs.Prelude.{slice_set}
use Rattle.mf_plan.specs.Planned.{Plan}
use Rattle.mf_perform.specs.declared.verdict.Verdict.{Verdict}
use Rattle.mf_perform.specs.Verdict.{verdict_of}
use Rattle.mf_core.specs.CoreView.{run_state, specs_of}
use Rattle.mf_core.specs.Next.{next_plan}
use Rattle.mf_steps.specs.StepRun.{KeptPlan}
use Rattle.mf_steps.specs.Stepper.{StepperView, step_run}
use Rattle.mf_steps.specs.Steps.{KeepsPlan}

pub planned : (old : StepperView) (t : ℕ) (plan : Plan) (verdict : Verdict) (kept : List (Option KeptPlan)) → next_plan old.core.script (run_state old.core) t ≡ Some plan
    → verdict ≡ verdict_of (specs_of old.core) plan → kept ≡ slice_set old.kept t (Some (record { plan = plan; verdict = verdict }))
    → KeepsPlan old.core.script (step_run old) t [] (step_run (record old { kept = kept }))
planned old t plan verdict kept is judged keeps = (
  plan,
  is,
  ap (λ kept. step_run (record old { kept = kept })) (keeps ∙ ap (λ (v : Verdict). slice_set old.kept t (Some (record { plan = plan; verdict = v }))) judged),
  refl,
)
