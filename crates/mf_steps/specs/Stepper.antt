-- A core with the plans that its steps keep; inner contracts alone cite this.
use Rattle.std.specs.Prelude.{◌≡◌, ℕ, ◌≤◌, List, Option, Some, length}
use Rattle.mf_calls.specs.declared.limits.TheConstants.{TASK_LIMIT}
use Rattle.mf_calls.specs.declared.script.Script.{Script}
use Rattle.mf_errno.specs.declared.module.Module.{Module}
use Rattle.mf_policy.specs.Registration.{Entry}
use Rattle.mf_perform.specs.Verdict.{verdict_of}
use Rattle.mf_core.specs.declared.progress.Phase.TheVariants as phase
use Rattle.mf_core.specs.CoreView.{CoreView, specs_of, progress_of}
use Rattle.mf_core.specs.Policies.{AreOf}
use Rattle.mf_core.specs.Progress.{progress_at}
use Rattle.mf_steps.specs.StepRun.{StepRun, kept_at, KeptPlan}

-- a core, and the plan that is kept for each task
pub record StepperView : Type 0 where
  pub core : CoreView
  pub kept : List (Option KeptPlan)

abbrev pub step_run : StepperView → StepRun
step_run f = record { events = f.core.history.events.list; kept = f.kept }

-- the verdict that is kept is that of the policies that are listed now, and the task's call isn't done yet
pub record IsGood (core : CoreView) (t : ℕ) (k : KeptPlan) : Type 0 where
  pub verdict : k.verdict ≡ verdict_of (specs_of core) k.plan
  pub entered : (progress_at (progress_of core) t).phase ≡ phase.Entered

abbrev pub AreGood : CoreView → List (Option KeptPlan) → Type 0
AreGood core kept = (t : ℕ) (k : KeptPlan) → kept_at kept t ≡ Some k → IsGood core t k

-- The script is the core's and within its limits, the policies are those of the core, there is a place for each task, and what is kept is good.
pub record IsSoundStepper (script : Script) (core : CoreView) (fixed list : List Entry) (catalogue : List Module) (kept : List (Option KeptPlan)) : Type 0 where
  pub same : script ≡ core.script
  pub few : length core.script.tasks ≤ TASK_LIMIT
  pub policies : AreOf (specs_of core) fixed list catalogue
  pub places : length kept ≡ length core.script.tasks
  pub good : AreGood core kept
