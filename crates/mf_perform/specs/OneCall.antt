-- One call of the sequential framework: its reply, and the state after it. That a refused call changes nothing but what its checks that passed
-- make of its caller is this model's own rule.
use Rattle.std.specs.Option.{option_map_or}
use Rattle.std.specs.Prelude.{ℕ, if◌then◌else◌, List, Option}
use Rattle.mf_item.specs.Item.{Item}
use Rattle.mf_policy.specs.Lowering.{after_checks, lomac_slot}
use Rattle.mf_objects.specs.declared.id.Id.{Id}
use Rattle.mf_objects.specs.Changes.{with_change}
use Rattle.mf_objects.specs.Labels.{with_value}
use Rattle.mf_objects.specs.Lives.{value_at}
use Rattle.mf_calls.specs.declared.script.Call.{Call}
use Rattle.mf_calls.specs.Tasks.{is_change}
use Rattle.mf_plan.specs.declared.reply.Reply.{Reply}
use Rattle.mf_plan.specs.declared.reply.Reply.TheVariants as reply
use Rattle.mf_plan.specs.declared.state.State.{State}
use Rattle.mf_plan.specs.Names.{caller_name}
use Rattle.mf_plan.specs.Plan.{plan_of, row_for, call_row}
use Rattle.mf_plan.specs.Views.{process_named}
use Rattle.mf_perform.specs.Verdict.{verdict_of}
use Rattle.mf_perform.specs.Effect.{after, with_objects}
use Rattle.mf_perform.specs.Passed.{passed}
use Rattle.mf_perform.specs.Reply.{reply_to}

-- the reply to a call of the task's own process, or of its child of that name
abbrev pub call_reply : State → List ℕ → Option (List ℕ) → Call → Reply
call_reply s task child call =
    reply_to (plan_of s task child call) (verdict_of s.specs (plan_of s task child call)).denied (call_row s task child call).payload

-- the state after checks of this caller that passed: where mac_lomac is listed, they have lowered it
abbrev pub observed_by : State → List Item → Id → State
observed_by s checks caller =
    option_map_or (λ slot. with_objects s (with_change (with_value slot (after_checks slot (value_at s.objects caller slot) checks)) s.objects caller))
    (lomac_slot s.specs) s

-- the state after the checks of a call that passed, also where it is denied later, or refused; a change of the policies lowers nobody
abbrev pub observed : State → List ℕ → Option (List ℕ) → Call → State
observed s task child call =
    if is_change call then s
    else option_map_or (observed_by s (passed (call_reply s task child call) (plan_of s task child call).items))
    (process_named s.objects (caller_name task child)) s

-- the state after the call, where it is done, from the one after its checks; a caller that doesn't live changes nothing
abbrev pub performed : State → List ℕ → Option (List ℕ) → Call → State
performed s task child call =
    let now = observed s task child call in
    option_map_or (λ me. after now me (row_for s task call me).effect) (process_named s.objects (caller_name task child)) now

-- what comes of a call by its reply: what is so where it is done; and where it is denied or refused what was so without its effect
abbrev pub after_reply : {A : Type 0} → Reply → A → A → A
after_reply (reply.Ok payload) before done = done
after_reply other before done = before

-- the state after a call
abbrev pub call_state : State → List ℕ → Option (List ℕ) → Call → State
call_state s task child call = after_reply (call_reply s task child call) (observed s task child call) (performed s task child call)
