-- What is kept in the room of a task's plan; inner contracts alone cite this.
use Rattle.std.specs.Prelude.{Option, Some, None}
use Rattle.mf_perform.specs.declared.verdict.Verdict.{Verdict}
use Rattle.mf_plan.specs.Planned.{Plan}
use Rattle.mf_steps.specs.declared.kept.PlanRoom.{PlanRoom}
use Rattle.mf_steps.specs.StepRun.{KeptPlan}

abbrev pub judged : Plan → Option Verdict → Option KeptPlan
judged plan None = None
judged plan (Some verdict) = Some (record { plan = plan; verdict = verdict })

abbrev pub kept_in : PlanRoom → Option KeptPlan
kept_in room = judged room.plan room.verdict
