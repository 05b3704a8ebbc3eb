-- A run whose steps come in the order that the script gives: this model's own.
use Rattle.std.specs.Prelude.{ℕ, List, [], map, Option, Some, None, slice_index_or, slice_set}
use Rattle.mf_calls.specs.declared.script.Script.{Script}
use Rattle.mf_core.specs.declared.history.Event.{Event}
use Rattle.mf_core.specs.LegalHistory.{RunState, run_state_of}
use Rattle.mf_perform.specs.declared.verdict.Verdict.{Verdict}
use Rattle.mf_plan.specs.Planned.{Plan}

-- a plan, with the policies' verdict on it
pub record KeptPlan : Type 0 where
  pub plan : Plan
  pub verdict : Verdict

-- the events so far, and the plan that is kept for each task, where there is one
pub record StepRun : Type 0 where
  pub events : List Event
  pub kept : List (Option KeptPlan)

-- before the first step
abbrev pub step_opening : Script → StepRun
step_opening s = record { events = []; kept = map (λ task. None) s.tasks }

abbrev pub state_in : Script → StepRun → RunState
state_in s r = run_state_of s r.events

abbrev pub kept_at : List (Option KeptPlan) → ℕ → Option KeptPlan
kept_at kept t = slice_index_or kept t None

-- the plan is kept for the task, in place of the one that it may have
abbrev pub with_plan : StepRun → ℕ → KeptPlan → StepRun
with_plan r t plan = record r { kept = slice_set r.kept t (Some plan) }

abbrev pub without_plan : StepRun → ℕ → StepRun
without_plan r t = record r { kept = slice_set r.kept t None }
