-- What comes next by the line that is found, the root directory, and the process of a task by the one that is found under its name.
use Rattle.std.specs.Option.{option_map_or}
use Rattle.std.specs.Prelude.{ℕ, List, Option, option_map}
use Rattle.mf_elem.specs.Label.{no_request}
use Rattle.mf_item.specs.declared.view.Kind.TheVariants as kinds
use Rattle.mf_policy.specs.declared.labels.Origin.TheVariants.{Boot}
use Rattle.mf_policy.specs.NewLabels.{new_label}
use Rattle.mf_policy.specs.Registration.{Entry}
use Rattle.mf_objects.specs.declared.id.Id.{Id}
use Rattle.mf_objects.specs.Live.{Entities}
use Rattle.mf_objects.specs.Changes as objects
use Rattle.mf_calls.specs.declared.script.Line.{Line}
use Rattle.mf_calls.specs.declared.script.Script.{Script}
use Rattle.mf_calls.specs.declared.script.Task.{Task}
use Rattle.mf_calls.specs.Tasks.{name_of}
use Rattle.mf_plan.specs.declared.reply.Reply.{Reply}
use Rattle.mf_plan.specs.declared.state.State.{State}
use Rattle.mf_plan.specs.Planned.{Plan}
use Rattle.mf_plan.specs.Plan.{plan_of}
use Rattle.mf_perform.specs.OneCall.{call_reply, call_state}
use Rattle.mf_core.specs.LegalHistory.{RunState}

abbrev pub plan_at : Script → RunState → ℕ → Option Line → Option Plan
plan_at s r t line = option_map (λ line. plan_of r.state (name_of s t) line.child line.call) line

abbrev pub reply_at : Script → RunState → ℕ → Option Line → Option Reply
reply_at s r t line = option_map (λ line. call_reply r.state (name_of s t) line.child line.call) line

abbrev pub state_at : Script → RunState → ℕ → Option Line → State
state_at s r t line = option_map_or (λ line. call_state r.state (name_of s t) line.child line.call) line r.state

abbrev pub root_alone : List Entry → Entities
root_alone listed = objects.with_root (new_label listed kinds.Vnode (Boot no_request))

abbrev pub with_task_at : List Entry → Entities → Task → Option Id → Entities
with_task_at listed o t found = option_map_or (λ id. o) found (objects.with_entity o t.name (new_label listed kinds.Process (Boot t.label)) (objects.new_process t.cred))
