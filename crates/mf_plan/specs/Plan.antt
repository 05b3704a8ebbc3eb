-- The plan of each call: its checks in the order in which they are asked, and its end; by the row of the call.
use Rattle.std.specs.Option.{option_map_or}
use Rattle.std.specs.Prelude.{ℕ, List, Option, map, option_map}
use Rattle.mf_errno.specs.declared.errno.Errno.TheVariants as errno
use Rattle.mf_objects.specs.declared.id.Id.{Id}
use Rattle.mf_calls.specs.declared.script.Call.{Call}
use Rattle.mf_plan.specs.declared.state.State.{State}
use Rattle.mf_plan.specs.Effect.{relabelled_by}
use Rattle.mf_plan.specs.Lowering.{lowering}
use Rattle.mf_plan.specs.Names.{caller_name}
use Rattle.mf_plan.specs.Outline.{item_asking}
use Rattle.mf_plan.specs.Planned.{Plan}
use Rattle.mf_plan.specs.Row.{Row, refuse, through}
use Rattle.mf_plan.specs.Rows.{about_of}
use Rattle.mf_plan.specs.Views.{process_named}
use Rattle.mf_plan.specs.Ways.{way_to}

-- the row of a call of this live process of the task: the way to what it is about, and then its row there
abbrev pub row_for : State → List ℕ → Call → Id → Row
row_for s task c me = let about = about_of s task me c in through (way_to s me about.place) about.row

-- the row of a call of the task's own process, or of its child of that name; a caller that doesn't live makes no call
abbrev pub call_row : State → List ℕ → Option (List ℕ) → Call → Row
call_row s task child c = option_map_or (row_for s task c) (process_named s.objects (caller_name task child)) (refuse errno.Esrch)

-- the checks of a row as policies see them, with what its effect asks of a label, and its end
abbrev pub plan_in : State → Row → Plan
plan_in s row = record { items = map (item_asking s.objects (option_map (λ asked. asked.1) (relabelled_by row.effect))) row.checks; tail = row.tail }

-- the plan with its checks as this caller comes to them, one after another
abbrev pub lowering_by : State → Option Id → Plan → Plan
lowering_by s caller plan = record plan { items = option_map_or (λ me. lowering s me plan.items) caller plan.items }

abbrev pub plan_of : State → List ℕ → Option (List ℕ) → Call → Plan
plan_of s task child c = lowering_by s (process_named s.objects (caller_name task child)) (plan_in s (call_row s task child c))
