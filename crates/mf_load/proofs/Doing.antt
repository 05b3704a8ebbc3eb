-- What a call of a task of a load does, by its row and the walk over its checks.
use Rattle.std.proofs.Common.{◌≡◌, ℕ, List, Option, Some, None, refl, ap, ◌∙◌}
use Rattle.std.specs.Option.{option_map_or}
use Rattle.mf_errno.specs.declared.errno.Errno.{Errno}
use Rattle.mf_errno.specs.declared.errno.Errno.TheVariants.{Eacces}
use Rattle.mf_errno.specs.declared.module.Module.TheVariants.{Biba}
use Rattle.mf_item.specs.declared.operation.CheckOp.{CheckOp}
use Rattle.mf_policy.specs.Lowering.{lomac_slot}
use Rattle.mf_policy.specs.Registration.{Entry}
use Rattle.mf_objects.specs.declared.id.Id.{Id}
use Rattle.mf_calls.specs.declared.script.Call.{Call}
use Rattle.mf_plan.specs.declared.state.State.{State}
use Rattle.mf_plan.specs.declared.plan.Tail.{Tail}
use Rattle.mf_plan.specs.declared.plan.Tail.TheVariants.{Do, Refuse}
use Rattle.mf_plan.specs.declared.reply.Reply.{Reply}
use Rattle.mf_plan.specs.declared.reply.Reply.TheVariants as reply
use Rattle.mf_plan.specs.declared.reply.Payload.{Payload}
use Rattle.mf_plan.specs.Plan.{call_row, lowering_by, plan_in, plan_of, row_for}
use Rattle.mf_plan.specs.Planned.{Plan}
use Rattle.mf_plan.specs.Row.{Row}
use Rattle.mf_plan.specs.Views.{process_named}
use Rattle.mf_plan.proofs.Finding.{row_by}
use Rattle.mf_plan.proofs.LoweredChecks.{unlowered}
use Rattle.mf_perform.specs.declared.verdict.Denial.{Denial}
use Rattle.mf_perform.specs.Verdict.{denial_from}
use Rattle.mf_perform.specs.Reply.{op_at, tail_reply, reply_to}
use Rattle.mf_perform.specs.Effect.{after}
use Rattle.mf_perform.specs.OneCall.{after_reply, call_reply, call_state, observed, performed}
use Rattle.mf_perform.proofs.Observing.{observed_unlisted}
use Rattle.mf_load.specs.Alone.{denied}
use Rattle.mf_load.proofs.Known.{biba_alone}

-- what a call of a task's own process does: its reply, and the state after it
pub record Does (s : State) (task : List ℕ) (call : Call) (r : Reply) (s' : State) : Type 0 where
  pub reply : call_reply s task None call ≡ r
  pub state : call_state s task None call ≡ s'

-- a call that is done, denied or refused, by its row and the walk over its checks
module _ (s : State) (task : List ℕ) (me : Id) (call : Call) (row : Row) (specs : s.specs ≡ biba_alone) (caller : process_named s.objects task ≡ Some me)
    (is : row_for s task call me ≡ row) where
  abbrev walked : Option Denial
  walked = denial_from biba_alone 1 (plan_in s row).items

  -- mac_lomac isn't listed: the checks find the caller as it is, and leave it so

  none_lowers : lomac_slot s.specs ≡ None
  none_lowers = ap lomac_slot specs

  row_is : call_row s task None call ≡ row
  row_is = ap (row_by s task call) caller ∙ is

  plan_is : plan_of s task None call ≡ plan_in s row
  plan_is =
      ap (λ (r : Row). lowering_by s (process_named s.objects task) (plan_in s r)) row_is
      ∙ unlowered s (process_named s.objects task) (plan_in s row) none_lowers

  observed_is : observed s task None call ≡ s
  observed_is = observed_unlisted s task None call none_lowers

  -- what is done is done in the state as it was
  performed_is : performed s task None call ≡ after s me row.effect
  performed_is =
      ap (λ (now : State). option_map_or (λ me. after now me (row_for s task call me).effect) (process_named s.objects task) now) observed_is
      ∙ ap (λ (found : Option Id). option_map_or (λ me. after s me (row_for s task call me).effect) found s) caller
      ∙ ap (λ (r : Row). after s me r.effect) is

  replied : (denied : Option Denial) → walked ≡ denied → call_reply s task None call ≡ reply_to (plan_in s row) denied row.payload
  replied denied found =
      ap (λ (p : Plan). reply_to p (denial_from s.specs 1 p.items) (call_row s task None call).payload) plan_is
      ∙ ap (λ (r : Row). reply_to (plan_in s row) (denial_from s.specs 1 (plan_in s row).items) r.payload) row_is
      ∙ ap (λ (es : List Entry). reply_to (plan_in s row) (denial_from es 1 (plan_in s row).items) row.payload) specs
      ∙ ap (λ (d : Option Denial). reply_to (plan_in s row) d row.payload) found

  -- what a call that isn't done makes of the state
  stays : (r : Reply) → call_reply s task None call ≡ r → ((done : State) → after_reply r s done ≡ s) → call_state s task None call ≡ s
  stays r replies undone =
      ap (λ (x : Reply). after_reply x (observed s task None call) (performed s task None call)) replies
      ∙ ap (λ (now : State). after_reply r now (performed s task None call)) observed_is
      ∙ undone (performed s task None call)

  pub is_ok : (p : Payload) (s' : State) → row.tail ≡ Do → walked ≡ None → row.payload ≡ p → after s me row.effect ≡ s' → Does s task call (reply.Ok p) s'
  is_ok p s' tail found shown changed =
      let replies : call_reply s task None call ≡ reply.Ok p =
      replied None found ∙ ap (λ (x : Tail). tail_reply x row.payload) tail ∙ ap (λ (x : Payload). reply.Ok x) shown in
      record {
        reply = replies;
        state = ap (λ (x : Reply). after_reply x (observed s task None call) (performed s task None call)) replies ∙ performed_is ∙ changed;
      }

  pub is_denied : (check : CheckOp) → op_at (plan_in s row).items 3 ≡ check → walked ≡ Some (record { item = 3; errno = Eacces; by = Some Biba }) → Does s task call (denied check) s
  is_denied check third found =
      let replies : call_reply s task None call ≡ denied check = replied (Some (record { item = 3; errno = Eacces; by = Some Biba })) found ∙ ap denied third in
      record { reply = replies; state = stays (denied check) replies (λ done. refl) }

  pub is_refused : (e : Errno) → row.tail ≡ Refuse e → walked ≡ None → Does s task call (reply.Refused e) s
  is_refused e tail found =
      let replies : call_reply s task None call ≡ reply.Refused e = replied None found ∙ ap (λ (x : Tail). tail_reply x row.payload) tail in
      record { reply = replies; state = stays (reply.Refused e) replies (λ done. refl) }
