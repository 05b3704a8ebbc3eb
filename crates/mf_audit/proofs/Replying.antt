-- The reply to the call of a task's next line, and the state after it, as a player has them.
use Rattle.std.proofs.Common.{◌≡◌, ◌≢◌, ℕ, ◌+◌, ◌≤◌, List, Option, Some, option_map, ap, sym, ◌∙◌, subst}
use Rattle.mf_calls.specs.declared.script.Line.{Line}
use Rattle.mf_calls.specs.declared.script.Script.{Script}
use Rattle.mf_calls.specs.Tasks.{name_of}
use Rattle.mf_plan.specs.declared.reply.Reply.{Reply}
use Rattle.mf_plan.specs.declared.state.State.{State}
use Rattle.mf_perform.specs.OneCall.{call_reply, call_state}
use Rattle.mf_core.specs.LegalHistory.{RunState, next_line, next_reply, next_state}
use Rattle.mf_core.specs.RunView.{RunView, IsReached}
use Rattle.mf_core.proofs.Calls.{moved}
use Rattle.mf_core.proofs.Reached.{WasDone}
use Rattle.mf_audit.proofs.Going.{call_keeps}

module _ (k : RunView) (s : Script) (r : RunState) (is : record { script = s; run = r } ≡ k) (t : ℕ) (line : Line) (name : List ℕ)
    (next : next_line k.script k.run.progress t ≡ Some line) (named : name ≡ name_of s t) where
  reply_by : RunView → Reply
  reply_by v = call_reply v.run.state (name_of v.script t) line.child line.call

  next_is : next_reply k.script k.run t ≡ Some (reply_by k)
  unfolding reply_by
  next_is = ap (λ (found : Option Line). option_map (λ (line : Line). call_reply k.run.state (name_of k.script t) line.child line.call) found) next

  own_is : call_reply r.state name line.child line.call ≡ reply_by k
  unfolding reply_by
  own_is = ap (λ (n : List ℕ). call_reply r.state n line.child line.call) named ∙ ap reply_by is

  pub replied : (reply given : Reply) → given ≡ reply → given ≡ call_reply r.state name line.child line.call → next_reply k.script k.run t ≡ Some reply
  replied reply given same given_is = next_is ∙ ap Some (sym (sym same ∙ given_is ∙ own_is))

  pub unreplied : (reply given : Reply) → given ≡ reply → given ≢ call_reply r.state name line.child line.call → next_reply k.script k.run t ≡ Some reply → ⊥
  unreplied reply given same other replies =
      let some : Some (reply_by k) ≡ Some reply = sym next_is ∙ replies in
      let here : reply_by k ≡ reply = cc in
      other (same ∙ sym here ∙ sym own_is)

  pub moves_on : (state' : State) → state' ≡ call_state r.state name line.child line.call → state' ≡ next_state k.script k.run t
  moves_on state' moved_to =
      moved_to ∙ ap (λ (n : List ℕ). call_state r.state n line.child line.call) named
      ∙ ap (λ (v : RunView). call_state v.run.state (name_of v.script t) line.child line.call) is
      ∙ sym (moved k.script k.run t line next)

  pub was_done : (reached : IsReached s r) (state' : State) → state' ≡ call_state r.state name line.child line.call → WasDone k s r is reached t line name state'
  was_done reached state' moved_to =
      let keeps = call_keeps r.state name line.child line.call in
      record {
        next = next;
        named = named;
        moved = moved_to;
        booted = ap (λ (x : State). x.booted) moved_to ∙ keeps.booted;
        ids = subst (λ (x : State). x.objects.next ≤ r.state.objects.next + 1) (sym moved_to) keeps.next;
      }
