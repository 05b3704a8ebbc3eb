-- What is told of the call that comes next, and along a walk through a history.
use Rattle.std.proofs.Common.{◌≡◌, ℕ, suc, ◌+◌, ◌<◌, false, List, [], ◌∷◌, ◌++◌, length, take, drop, get_or, Option, Some, None, refl, ap, sym, ◌∙◌, arith, append_assoc, append-nil}
use Rattle.std.specs.Prelude.{codes, option_map, reverse, slice_get, unwrap_or, IsSome}
use Rattle.std.specs.Fmt.{decimal}
use Rattle.std.specs.Option.{option_map_or}
use Rattle.std.proofs.Math.Seq.{drop-cons}
use Rattle.std.proofs.lemmas.List.{drop_all, take_more}
use Rattle.std.proofs.lemmas.List.Sums.{fold-append}
use Rattle.std.proofs.lemmas.Option.{slice_get_within}
use Rattle.mf_objects.specs.Live.{Entities, LiveEntity, live_at}
use Rattle.mf_objects.specs.Titles.{path_in, title_at, title_of}
use Rattle.mf_calls.specs.declared.script.Line.{Line}
use Rattle.mf_calls.specs.declared.script.Script.{Script}
use Rattle.mf_calls.specs.declared.script.Task.{Task}
use Rattle.mf_calls.specs.Tasks.{lines_of, name_of}
use Rattle.mf_plan.specs.declared.outline.Outline.{Outline}
use Rattle.mf_plan.specs.declared.reply.Reply.{Reply}
use Rattle.mf_plan.specs.Planned.{Plan}
use Rattle.mf_core.proofs.Calls.{shown}
use Rattle.mf_core.proofs.LookedUp.{reply_at}
use Rattle.mf_core.specs.declared.history.Event.{Event}
use Rattle.mf_core.specs.LegalHistory.{RunState, next_line, next_reply, opening_run, run_after, run_state_of}
use Rattle.mf_core.specs.Next.{next_plan}
use Rattle.mf_core.specs.NextFound.{IsNextOutline}
use Rattle.mf_core.specs.Progress.{progress_at}
use Rattle.mf_why.specs.declared.extent.Extent.{Extent}
use Rattle.mf_why.proofs.Untold.{untold}
use Rattle.mf_why.specs.Ruled.{may_lower, tells_decision}
use Rattle.mf_why.specs.WhyText.{call_text, event_text, events_text, next_text}

-- The next call

-- a call that comes has a line
pub replied_line : (s : Script) (r : RunState) (t : ℕ) (reply : Reply) → next_reply s r t ≡ Some reply → IsSome (next_line s r.progress t)
replied_line s r t reply replied = one (next_line s r.progress t) replied
  where
    one : (line : Option Line) → reply_at s r t line ≡ Some reply → IsSome line
    one None is = cc
    one (Some line) is = refl

-- and its task is one of the script
has_task : (s : Script) (t k : ℕ) → IsSome (slice_get (lines_of s t) k) → t < length s.tasks
has_task s t k some = one (slice_get s.tasks t) refl some
  where
    one : (o : Option Task) → slice_get s.tasks t ≡ o → IsSome (slice_get (unwrap_or (option_map (λ task. task.lines) o) []) k) → t < length s.tasks
    one None at some = cc
    one (Some task) at some = slice_get_within s.tasks t task at

pub replied_task : (s : Script) (r : RunState) (t : ℕ) (reply : Reply) → next_reply s r t ≡ Some reply → t < length s.tasks
replied_task s r t reply replied = has_task s t (progress_at r.progress t).lines (replied_line s r t reply replied)

pub told_next : (extent : Extent) (s : Script) (r : RunState) (t number : ℕ) (reply : Reply) (plan : Plan) (place before after : List ℕ) → next_plan s r t ≡ Some plan
    → place ≡ name_of s t ++ codes " " ++ decimal number → after ≡ before ++ call_text extent r.state place plan reply → after ≡ before ++ next_text extent s r t number reply
told_next extent s r t number reply plan place before after planned place_is is =
    is ∙ ap (λ xs. before ++ call_text extent r.state xs plan reply) place_is
    ∙ ap (λ (o : Option Plan). before ++ option_map_or (λ plan. call_text extent r.state (name_of s t ++ codes " " ++ decimal number) plan reply) o []) (sym planned)

pub untold_next : (extent : Extent) (s : Script) (r : RunState) (t number : ℕ) (reply : Reply) (outline : Outline) (before : List ℕ) → IsNextOutline s r t outline
    → tells_decision extent reply r.state.specs ≡ false → may_lower r.state.specs outline.checks ≡ false → before ≡ before ++ next_text extent s r t number reply
untold_next extent s r t number reply outline before is no_decision no_lowering =
    let place = name_of s t ++ codes " " ++ decimal number in
    sym (append-nil before)
    ∙ ap (λ xs. before ++ xs)
    (sym (ap (λ (o : Option Plan). option_map_or (λ plan. call_text extent r.state place plan reply) o []) (shown s r t outline is)
    ∙ untold extent r.state place reply outline.found.caller outline no_decision no_lowering))

-- The walk

-- the run after the first events
pub reached_more : (s : Script) (es : List Event) (n : ℕ) (r : RunState) (e d : Event) → n < length es → e ≡ get_or es n d → r ≡ run_state_of s (take n es)
    → run_after s r e ≡ run_state_of s (take (n + 1) es)
reached_more s es n r e d within is reached =
    ap (λ (x : RunState). run_after s x e) reached ∙ ap (run_after s (run_state_of s (take n es))) is
    ∙ sym (fold-append (run_after s) (opening_run s) (take n es) (get_or es n d ∷ []))
    ∙ ap (λ (xs : List Event). run_state_of s xs) (sym (take_more es n d within))

pub text_more : (extent : Extent) (s : Script) (es : List Event) (n : ℕ) (r r' : RunState) (e d : Event) (before after all : List ℕ) → n < length es → e ≡ get_or es n d
    → r' ≡ run_after s r e → after ≡ before ++ event_text extent s r e → before ++ events_text extent s r (drop n es) ≡ all
    → after ++ events_text extent s r' (drop (n + 1) es) ≡ all
text_more extent s es n r r' e d before after all within is next told so_far =
    ap (λ xs. xs ++ events_text extent s r' (drop (n + 1) es)) told
    ∙ append_assoc before (event_text extent s r e) (events_text extent s r' (drop (n + 1) es))
    ∙ ap (λ (x : RunState). before ++ (event_text extent s r e ++ events_text extent s x (drop (n + 1) es))) next
    ∙ ap (λ k. before ++ (event_text extent s r e ++ events_text extent s (run_after s r e) (drop k es))) place
    ∙ sym (ap (λ (xs : List Event). before ++ events_text extent s r xs) (drop-cons es n d within ∙ ap (λ (x : Event). x ∷ drop (suc n) es) (sym is)))
    ∙ so_far
  where
    place : n + 1 ≡ suc n
    place = omega arith

pub text_all : (extent : Extent) (s : Script) (es : List Event) (n : ℕ) (r : RunState) (text all : List ℕ) → n ≡ length es → text ++ events_text extent s r (drop n es) ≡ all → text ≡ all
text_all extent s es n r text all is so_far =
    sym (append-nil text) ∙ ap (λ (xs : List Event). text ++ events_text extent s r xs) (sym (drop_all n es (omega (arith, is)))) ∙ so_far

-- Titles

pub title_gone : (o : Entities) (n : ℕ) (text : List ℕ) → live_at o (record { 0 = n }) ≡ None → text ≡ text ++ title_at o (record { 0 = n })
title_gone o n text gone =
    sym (append-nil text)
    ∙ ap (λ (at : Option LiveEntity). text ++ option_map_or (λ e. title_of (path_in (reverse o.live) (record { 0 = n })) e.name e.what) at []) (sym gone)

-- what is told is behind the text
pub told_behind : (front text text' more told : List ℕ) → text ≡ front ++ more → text' ≡ text ++ told → (all : List ℕ) × (text' ≡ front ++ all)
told_behind front text text' more told is next = (more ++ told, next ∙ ap (λ xs. xs ++ told) is ∙ append_assoc front more told)
