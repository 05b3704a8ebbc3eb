-- Every state of a run of a well-formed script is within the bounds, so the replies of its legal histories fit, and they can be read.
use Rattle.std.proofs.Common.{◌≡◌, ℕ, ◌<◌, List, [], ◌∷◌, length, Option, Some, None, get_or, refl, sym, ◌∙◌, subst, arith}
use Rattle.std.specs.Prelude.{All, option_map, slice_get, unwrap_or}
use Rattle.std.specs.List.{AllByRecursion}
use Rattle.std.proofs.lemmas.Option.{slice_get-get_or, slice_get_within}
use Rattle.mf_core.proofs.LookedUp.{reply_at, state_at}
use Rattle.mf_calls.specs.declared.script.Call.{Call}
use Rattle.mf_calls.specs.declared.script.Line.{Line}
use Rattle.mf_calls.specs.declared.script.Script.{Script}
use Rattle.mf_calls.specs.declared.script.Task.{Task}
use Rattle.mf_calls.specs.Tasks.{lines_of, name_of}
use Rattle.mf_calls.specs.WellFormed.{IsFormedCall, IsFormedLine, IsFormedTask, IsWellFormed}
use Rattle.mf_plan.specs.declared.reply.Reply.{Reply}
use Rattle.mf_plan.specs.declared.reply.Reply.TheVariants as reply
use Rattle.mf_plan.specs.declared.state.State.{State}
use Rattle.mf_plan.specs.Names.{caller_name}
use Rattle.mf_plan.specs.Plan.{plan_of, call_row}
use Rattle.mf_plan.specs.Views.{process_named}
use Rattle.mf_plan.specs.declared.plan.Tail.TheVariants.{Do}
use Rattle.mf_perform.specs.OneCall.{after_reply, call_reply, call_state, observed, performed}
use Rattle.mf_perform.specs.Verdict.{verdict_of}
use Rattle.mf_perform.proofs.Observing.{Observing, checks_passed, observing}
use Rattle.mf_perform.proofs.Rooted.{IsRooted}
use Rattle.mf_perform.proofs.StateChange.{step_change}
use Rattle.mf_core.specs.declared.history.Event.{Event}
use Rattle.mf_core.specs.declared.history.Event.TheVariants as event
use Rattle.mf_core.specs.Progress.{progress_at}
use Rattle.mf_core.specs.LegalHistory.{AllMayCome, MayCome, RunState, run_after, next_line, next_reply, next_state, opening_run}
use Rattle.mf_core.proofs.SameLists.{ok_do, step_once}
use Rattle.mf_hist.specs.Legal.{HasReply}
use Rattle.mf_hist.specs.Lines.{IsReply}
use Rattle.mf_hist.proofs.Legal.{legal_readable}
use Rattle.mf_reading.specs.Laws.{LegalHistoriesAreRead, RepliesFit}
use Rattle.mf_reading.proofs.Bounded.{HoldsBounded, IsBoundedState}
use Rattle.mf_reading.proofs.Effects.{observed_holds, performed_holds}
use Rattle.mf_reading.proofs.Finding.{objects_rooted}
use Rattle.mf_reading.proofs.Labelled.{keeps_labelled}
use Rattle.mf_reading.proofs.Listed.{keeps_listed, observed_listed}
use Rattle.mf_reading.proofs.Lowered.{observed_labelled}
use Rattle.mf_reading.proofs.Openings.{opening_bounded}
use Rattle.mf_reading.proofs.Replies.{reply_fits}

-- One call

module _ (s : State) (task : List ℕ) (child : Option (List ℕ)) (c : Call) (formed : IsFormedCall c) (bounded : IsBoundedState s) where
  rooted : IsRooted s.objects
  rooted = objects_rooted s.objects bounded.holds.objects.rising bounded.holds.objects.rooted

  -- what its checks that passed make of the state
  watched : Observing (process_named s.objects (caller_name task child)) (checks_passed s task child c) s (observed s task child c)
  watched = observing s task child c rooted

  step_holds : HoldsBounded (call_state s task child c)
  step_holds = one (call_reply s task child c) refl
    where
      now_holds : HoldsBounded (observed s task child c)
      now_holds = observed_holds s (observed s task child c) watched bounded.holds

      one : (r : Reply) → call_reply s task child c ≡ r → HoldsBounded (after_reply r (observed s task child c) (performed s task child c))
      one (reply.Ok p) is =
          let plan = plan_of s task child c in
          let may : plan.tail ≡ Do = ok_do plan (verdict_of s.specs plan) (call_row s task child c).payload p is in
          let name = caller_name task child in
          performed_holds s bounded.holds (observed s task child c) watched task name c (process_named s.objects name) refl formed may
      one (reply.Denied errno op item by) is = now_holds
      one (reply.Refused errno) is = now_holds

  step_bounded : IsBoundedState (call_state s task child c)
  step_bounded =
      let now = observed s task child c in
      let shape = step_change s task child c rooted in
      let listed = observed_listed s now watched bounded.listed in
      record {
        holds = step_holds;
        listed = keeps_listed now (call_state s task child c) shape listed;
        once = step_once s task bounded.once child c;
        labelled = keeps_labelled now (call_state s task child c) shape listed (observed_labelled s now watched bounded.listed bounded.labelled);
      }

-- Lines

at_place : {X : Type 0} (P : X → Type 0) (xs : List X) (k : ℕ) (x : X) → slice_get xs k ≡ Some x → All P xs → P x
at_place P xs k x is all =
    let within : k < length xs = slice_get_within xs k x is in
    let there : Some x ≡ Some (get_or xs k x) = sym is ∙ slice_get-get_or xs k x within in
    let same : get_or xs k x ≡ x = cc in
    subst P same (all k x within)

lines_formed : (s : Script) (t : ℕ) → IsWellFormed s → All IsFormedLine (lines_of s t)
lines_formed s t formed = one (slice_get s.tasks t) refl
  where
    one : (found : Option Task) → slice_get s.tasks t ≡ found → All IsFormedLine (unwrap_or (option_map (λ (task : Task). task.lines) found) [])
    one None is = λ k d within. absurd (omega (arith, within))
    one (Some task) is = (at_place (IsFormedTask s.boots) s.tasks t task is formed.each_task).lines

-- Events

module _ (s : Script) (formed : IsWellFormed s) where
  line_formed : (r : RunState) (t : ℕ) (line : Line) → next_line s r.progress t ≡ Some line → IsFormedLine line
  line_formed r t line is = at_place IsFormedLine (lines_of s t) (progress_at r.progress t).lines line is (lines_formed s t formed)

  line_bounded : (r : RunState) (t : ℕ) → IsBoundedState r.state → IsBoundedState (next_state s r t)
  line_bounded r t bounded = one (next_line s r.progress t) refl
    where
      one : (line : Option Line) → next_line s r.progress t ≡ line → IsBoundedState (state_at s r t line)
      one None is = bounded
      one (Some line) is = step_bounded r.state (name_of s t) line.child line.call (line_formed r t line is).call bounded

  line_fits : (r : RunState) (t : ℕ) (x : Reply) → IsBoundedState r.state → next_reply s r t ≡ Some x → IsReply x
  line_fits r t x bounded is = one (next_line s r.progress t) refl is
    where
      one : (line : Option Line) → next_line s r.progress t ≡ line → reply_at s r t line ≡ Some x → IsReply x
      one None at is = cc
      one (Some line) at is =
          let same : call_reply r.state (name_of s t) line.child line.call ≡ x = cc in
          subst IsReply same (reply_fits r.state bounded (name_of s t) line.child line.call (line_formed r t line at).call)

  event_bounded : (r : RunState) (e : Event) → IsBoundedState r.state → IsBoundedState (run_after s r e).state
  event_bounded r (event.Enter t) bounded = bounded
  event_bounded r (event.Done t line x) bounded = line_bounded r t bounded
  event_bounded r (event.Leave t) bounded = bounded
  event_bounded r (event.Changed t line x) bounded = line_bounded r t bounded

  event_fits : (r : RunState) (e : Event) → IsBoundedState r.state → MayCome s r e → HasReply e
  event_fits r (event.Enter t) bounded may = tt
  event_fits r (event.Done t line x) bounded may = line_fits r t x bounded may.2
  event_fits r (event.Leave t) bounded may = tt
  event_fits r (event.Changed t line x) bounded may = line_fits r t x bounded may.3

  events_fit : (r : RunState) (es : List Event) → IsBoundedState r.state → AllMayCome s r es → AllByRecursion HasReply es
  events_fit r [] bounded may = tt
  events_fit r (e ∷ es) bounded may = (event_fits r e bounded may.0, events_fit (run_after s r e) es (event_bounded r e bounded) may.1)

-- The laws

pub replies_fit : RepliesFit
replies_fit s h formed legal = events_fit s formed (opening_run s) h.events.list (opening_bounded s formed) legal.events

pub histories_read : LegalHistoriesAreRead
histories_read s h formed legal = legal_readable s h formed legal (replies_fit s h formed legal)
