-- What the call of a task's next line makes of a run: the reply, the state, and the list of policies after it.
use Rattle.std.proofs.Common.{◌≡◌, ℕ, false, true, Option, Some, None, refl, sym, ◌∙◌, ap, subst}
use Rattle.mf_core.proofs.LookedUp.{plan_at, reply_at, state_at}
use Rattle.std.specs.Prelude.{IfSome, IsSome}
use Rattle.mf_calls.specs.declared.script.Line.{Line}
use Rattle.mf_calls.specs.declared.script.Script.{Script}
use Rattle.mf_calls.specs.Tasks.{is_change, name_of}
use Rattle.mf_objects.specs.declared.id.Id.{Id}
use Rattle.mf_objects.specs.Live.{live_at}
use Rattle.mf_plan.specs.declared.found.Found.{Found}
use Rattle.mf_plan.specs.declared.outline.Outline.{Outline}
use Rattle.mf_plan.specs.Planned.{Plan}
use Rattle.mf_plan.specs.declared.plan.Tail.{Tail}
use Rattle.mf_plan.specs.declared.plan.Tail.TheVariants.{Do, Refuse}
use Rattle.mf_plan.specs.declared.reply.Payload.{Payload}
use Rattle.mf_plan.specs.declared.reply.Reply.{Reply}
use Rattle.mf_plan.specs.declared.state.State.{State}
use Rattle.mf_plan.specs.Found.{AreFound}
use Rattle.mf_plan.specs.Outline.{AreLive, outlined}
use Rattle.mf_plan.specs.OutlineOf.{IsOutlineOf}
use Rattle.mf_plan.specs.Plan.{plan_of, plan_in, call_row, lowering_by}
use Rattle.mf_perform.specs.declared.verdict.Denial.{Denial}
use Rattle.mf_perform.specs.declared.verdict.Verdict.{Verdict}
use Rattle.mf_perform.specs.declared.relisting.Relisting.{Relisting}
use Rattle.mf_perform.specs.Relisting.{IsFormed, Tells}
use Rattle.mf_perform.specs.Reply.{tail_reply, reply_to}
use Rattle.mf_perform.specs.Refused.{is_ok}
use Rattle.mf_perform.specs.OneCall.{performed, call_reply, call_state, observed}
use Rattle.mf_perform.specs.Verdict.{verdict_of}
use Rattle.mf_perform.proofs.Observing.{observed_change}
use Rattle.mf_core.specs.declared.history.History.{History}
use Rattle.mf_core.specs.declared.progress.Turn.TheVariants as turns
use Rattle.mf_core.specs.LegalHistory.{RunState, next_line, next_reply, next_state, turn_of}
use Rattle.mf_core.specs.NextFound.{FoundAt, IsNextFound, IsNextOutline, OutlineAt}
use Rattle.mf_core.specs.Next.{next_plan}
use Rattle.mf_core.specs.Consistency.{IsConsistent}
use Rattle.mf_core.specs.Relisted.{IsMade}
use Rattle.mf_core.proofs.Consistency.{change_line, entered_line}
use Rattle.mf_core.proofs.SameLists.{Keeps, change_keeps, change_made, done_do, entry_keeps, refused_only}

same_line : (next : Option Line) (a b : Line) → next ≡ Some a → next ≡ Some b → a ≡ b
same_line next a b is_a is_b = cc

same_reply : (next : Option Reply) (a b : Reply) → next ≡ Some a → next ≡ Some b → a ≡ b
same_reply next a b is_a is_b = cc

pub same_plan : (next : Option Plan) (a b : Plan) → next ≡ Some a → next ≡ Some b → a ≡ b
same_plan next a b is_a is_b = cc

refused_tail : (tail : Tail) (p q : Payload) → is_ok (tail_reply tail p) ≡ false → is_ok (tail_reply tail q) ≡ false
refused_tail Do p q is = cc
refused_tail (Refuse errno) p q is = refl

refused_anyhow : (plan : Plan) (denied : Option Denial) (p q : Payload) → is_ok (reply_to plan denied p) ≡ false → is_ok (reply_to plan denied q) ≡ false
refused_anyhow plan None p q is = refused_tail plan.tail p q is
refused_anyhow plan (Some denial) p q is = refl

module _ (s : Script) (r : RunState) (t : ℕ) (line : Line) (next : next_line s r.progress t ≡ Some line) where
  pub replied : (reply : Reply) → next_reply s r t ≡ Some reply → reply ≡ call_reply r.state (name_of s t) line.child line.call
  replied reply is = same_reply (next_reply s r t) reply (call_reply r.state (name_of s t) line.child line.call) is (ap (reply_at s r t) next)

  pub moved : next_state s r t ≡ call_state r.state (name_of s t) line.child line.call
  moved = ap (state_at s r t) next

  pub found_is : (found : Found) → IsNextFound s r t found → AreFound r.state (name_of s t) line.child line.call found
  found_is found is = subst (λ (l : Option Line). FoundAt s r t l found) next is

  pub found_next : (found : Found) → AreFound r.state (name_of s t) line.child line.call found → IsNextFound s r t found
  found_next found is = subst (λ (l : Option Line). FoundAt s r t l found) (sym next) is

  pub outline_next : (outline : Outline) → IsOutlineOf r.state (name_of s t) line.child line.call outline → IsNextOutline s r t outline
  outline_next outline is = subst (λ (l : Option Line). OutlineAt s r t l outline) (sym next) is

  module _ (plan : Plan) (planned : next_plan s r t ≡ Some plan) where
    plan_is : plan_of r.state (name_of s t) line.child line.call ≡ plan
    plan_is = same_plan (next_plan s r t) (plan_of r.state (name_of s t) line.child line.call) plan (ap (plan_at s r t) next) planned

    -- the reply by the plan and the policies' verdict on it
    pub reply_by : (verdict : Verdict) → verdict ≡ verdict_of r.state.specs plan → next_reply s r t ≡ Some (reply_to plan verdict.denied (call_row r.state (name_of s t) line.child line.call).payload)
    reply_by verdict judged =
        ap (reply_at s r t) next
        ∙ ap (λ (p : Plan). Some (reply_to p (verdict_of r.state.specs p).denied (call_row r.state (name_of s t) line.child line.call).payload)) plan_is
        ∙ ap (λ (v : Verdict). Some (reply_to plan v.denied (call_row r.state (name_of s t) line.child line.call).payload)) (sym judged)

    -- a call that is denied or refused is so whatever it would hand back
    pub refused_by : (verdict : Verdict) → verdict ≡ verdict_of r.state.specs plan → (reply : Reply) → next_reply s r t ≡ Some reply → is_ok reply ≡ false
        → (p : Payload) → is_ok (reply_to plan verdict.denied p) ≡ false
    refused_by verdict judged reply replies refused p =
        refused_anyhow plan verdict.denied (call_row r.state (name_of s t) line.child line.call).payload p
        (ap is_ok (same_reply (next_reply s r t) (reply_to plan verdict.denied (call_row r.state (name_of s t) line.child line.call).payload) reply (reply_by verdict judged) replies) ∙ refused)

    -- and what is so whatever it would hand back is denied or refused
    pub refused_for : (verdict : Verdict) → verdict ≡ verdict_of r.state.specs plan → (reply : Reply) → next_reply s r t ≡ Some reply → (p : Payload)
        → is_ok (reply_to plan verdict.denied p) ≡ false → is_ok reply ≡ false
    refused_for verdict judged reply replies p refused =
        let shown : Payload = (call_row r.state (name_of s t) line.child line.call).payload in
        ap is_ok (same_reply (next_reply s r t) reply (reply_to plan verdict.denied shown) replies (reply_by verdict judged))
        ∙ refused_anyhow plan verdict.denied p shown refused

    -- the plan of a call that is done ends with no refusal
    pub plan_do : (reply : Reply) → next_reply s r t ≡ Some reply → is_ok reply ≡ true → plan.tail ≡ Do
    plan_do reply replies done =
        done_do plan (verdict_of r.state.specs plan) (call_row r.state (name_of s t) line.child line.call).payload reply
        (same_reply (next_reply s r t) (reply_to plan (verdict_of r.state.specs plan).denied (call_row r.state (name_of s t) line.child line.call).payload) reply (reply_by (verdict_of r.state.specs plan) refl) replies) done

-- What the outline of a task's next line says

module _ (s : Script) (r : RunState) (t : ℕ) (outline : Outline) where
  shown_at : (line : Option Line) → OutlineAt s r t line outline → plan_at s r t line ≡ Some (lowering_by r.state outline.found.caller (outlined r.state.objects outline))
  shown_at None is = absurd is
  shown_at (Some line) is =
      ap (λ (c : Option Id). Some (lowering_by r.state c (plan_in r.state (call_row r.state (name_of s t) line.child line.call)))) (sym is.caller)
      ∙ ap (λ (p : Plan). Some (lowering_by r.state outline.found.caller p)) (sym is.plan)

  live_at_line : (line : Option Line) → OutlineAt s r t line outline → AreLive r.state.objects outline.checks
  live_at_line None is = absurd is
  live_at_line (Some line) is = is.live

  lives_at_line : (line : Option Line) → OutlineAt s r t line outline → IfSome outline.found.caller (λ id. IsSome (live_at r.state.objects id))
  lives_at_line None is = absurd is
  lives_at_line (Some line) is = is.lives

  found_at_line : (line : Option Line) → OutlineAt s r t line outline → outline.tail ≡ Do → FoundAt s r t line outline.found
  found_at_line None is tail = is
  found_at_line (Some line) is tail = is.found tail

  module _ (is : IsNextOutline s r t outline) where
    -- the plan of the call
    pub shown : next_plan s r t ≡ Some (lowering_by r.state outline.found.caller (outlined r.state.objects outline))
    shown = shown_at (next_line s r.progress t) is

    pub outline_live : AreLive r.state.objects outline.checks
    outline_live = live_at_line (next_line s r.progress t) is

    pub caller_lives : IfSome outline.found.caller (λ id. IsSome (live_at r.state.objects id))
    caller_lives = lives_at_line (next_line s r.progress t) is

    -- what the call is about, where it may be done
    pub found_by : (plan : Plan) → next_plan s r t ≡ Some plan → plan.tail ≡ Do → IsNextFound s r t outline.found
    found_by plan planned tail =
        let plan_is = same_plan (next_plan s r t) (lowering_by r.state outline.found.caller (outlined r.state.objects outline)) plan shown planned in
        found_at_line (next_line s r.progress t) is (ap (λ (p : Plan). p.tail) plan_is ∙ tail)

-- the call of an entry is no change
pub entry_call : (s : Script) (h : History) (r : RunState) (t : ℕ) (line : Line) → IsConsistent s h r → turn_of s r.progress t ≡ turns.Entered
    → next_line s r.progress t ≡ Some line → is_change line.call ≡ false
entry_call s h r t line consistent turn next =
    let found = entered_line s h r consistent t turn in
    ap (λ (l : Line). is_change l.call) (same_line (next_line s r.progress t) line found.0 next found.1) ∙ found.2

-- it leaves the list of policies as it is
pub entry_specs : (s : Script) (h : History) (r : RunState) (t : ℕ) → IsConsistent s h r → turn_of s r.progress t ≡ turns.Entered → (next_state s r t).specs ≡ r.state.specs
entry_specs s h r t consistent turn =
    let line = entered_line s h r consistent t turn in
    ap (λ (x : State). x.specs) (moved s r t line.0 line.1) ∙ entry_keeps r.state (name_of s t) line.0.child line.0.call line.2

-- the plan of an entry's call that is done ends with no refusal
pub entry_do : (s : Script) (h : History) (r : RunState) (t : ℕ) (plan : Plan) (reply : Reply) → IsConsistent s h r → turn_of s r.progress t ≡ turns.Entered
    → next_plan s r t ≡ Some plan → next_reply s r t ≡ Some reply → is_ok reply ≡ true → plan.tail ≡ Do
entry_do s h r t plan reply consistent turn planned replies done =
    let line = entered_line s h r consistent t turn in plan_do s r t line.0 line.1 plan planned reply replies done

-- the reply to an entry's call that is denied or refused whatever it would hand back
pub entry_refused : (s : Script) (h : History) (r : RunState) (t : ℕ) (plan : Plan) (verdict : Verdict) (reply : Reply) (p : Payload) → IsConsistent s h r
    → turn_of s r.progress t ≡ turns.Entered → next_plan s r t ≡ Some plan → verdict ≡ verdict_of r.state.specs plan → next_reply s r t ≡ Some reply
    → is_ok (reply_to plan verdict.denied p) ≡ false → is_ok reply ≡ false
entry_refused s h r t plan verdict reply p consistent turn planned judged replies refused =
    let line = entered_line s h r consistent t turn in refused_for s r t line.0 line.1 plan planned verdict judged reply replies p refused

-- The change of a line

module _ (s : Script) (h : History) (r : RunState) (t : ℕ) (line : Line) (reply : Reply) (consistent : IsConsistent s h r) (turn : turn_of s r.progress t ≡ turns.Change)
    (next : next_line s r.progress t ≡ Some line) (replies : next_reply s r t ≡ Some reply) where
  pub is_a_change : is_change line.call ≡ true
  is_a_change =
      let found = change_line s h r consistent t turn in
      ap (λ (l : Line). is_change l.call) (same_line (next_line s r.progress t) line found.0 next found.1) ∙ found.2

  reply_is : call_reply r.state (name_of s t) line.child line.call ≡ reply
  reply_is = sym (replied s r t line next reply replies)

  pub line_keeps : Keeps r.state (next_state s r t)
  line_keeps = subst (Keeps r.state) (sym (moved s r t line next)) (change_keeps r.state (name_of s t) line.child line.call is_a_change)

  pub line_refused : is_ok reply ≡ false → next_state s r t ≡ r.state
  line_refused refused =
      moved s r t line next
      ∙ refused_only (call_reply r.state (name_of s t) line.child line.call) (observed r.state (name_of s t) line.child line.call)
      (performed r.state (name_of s t) line.child line.call) (ap is_ok reply_is ∙ refused)
      ∙ observed_change r.state (name_of s t) line.child line.call is_a_change

  -- it is made, where it is done
  pub line_made : (relisting : Option Relisting) → is_ok reply ≡ true → Tells r.state line.call relisting → IfSome relisting IsFormed
      → IsMade r.state (next_state s r t) reply relisting
  line_made relisting done tells formed =
      subst (λ (x : State). IsMade r.state x reply relisting) (sym (moved s r t line next))
      (change_made r.state (name_of s t) line.call line.child reply relisting reply_is done is_a_change tells formed)
