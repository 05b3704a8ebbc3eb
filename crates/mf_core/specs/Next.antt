-- The plan of the call that comes next for a task.
use Rattle.std.specs.Prelude.{ℕ, Option, option_map}
use Rattle.mf_calls.specs.declared.script.Script.{Script}
use Rattle.mf_calls.specs.Tasks.{name_of}
use Rattle.mf_plan.specs.Planned.{Plan}
use Rattle.mf_plan.specs.Plan.{plan_of}
use Rattle.mf_core.specs.LegalHistory.{RunState, next_line}

abbrev pub next_plan : Script → RunState → ℕ → Option Plan
next_plan s r t = option_map (λ line. plan_of r.state (name_of s t) line.child line.call) (next_line s r.progress t)
