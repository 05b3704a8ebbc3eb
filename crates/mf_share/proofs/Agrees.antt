-- Where a core agrees with a pass or a ticket, and what its calls come to there.
use Rattle.std.proofs.Common.{◌≡◌, ℕ, ◌+◌, ◌<◌, ◌++◌, ◌↔◌, ◌⊎◌, Bool, true, false, List, Result, Ok, Err, IfOk, OnErr, length, inl, inr, sym, ap, ◌∙◌, subst, arith}
use Rattle.mf_errno.specs.declared.module.Module.{Module}
use Rattle.mf_calls.specs.declared.script.Script.{Script}
use Rattle.mf_policy.specs.Registration.{Entry}
use Rattle.mf_plan.specs.Planned.{Plan}
use Rattle.mf_core.specs.declared.progress.ChangeOutcome.{ChangeOutcome}
use Rattle.mf_core.specs.declared.progress.Commit.{Commit}
use Rattle.mf_core.specs.declared.progress.Commit.TheVariants as commit
use Rattle.mf_core.specs.declared.progress.ChangeOutcome.TheVariants as outcome
use Rattle.mf_core.specs.declared.progress.Turn.{Turn}
use Rattle.mf_core.specs.declared.progress.Turn.TheVariants as turn
use Rattle.mf_core.specs.CoreView.{CoreView, done_of, lines_at, lines_changed, progress_of, specs_of, turn_at, AdvancesBy, Changes, Commits}
use Rattle.mf_core.specs.Policies.{AreHeld, AreOf, static_of}
use Rattle.mf_share.specs.Passes.{PassView, TicketView, AgreesWithPass, AgreesWithTicket, pass_turn, ticket_turn}
use Rattle.mf_share.specs.Policies.{PoliciesView}
use Rattle.mf_share.specs.Weights.{open_weight}
use Rattle.mf_share.proofs.Weights.{changed}

pub pass_says : (s : Script) (core now : CoreView) (pass : PassView) (t : ℕ) (next : Turn) → core ≡ now → core.script ≡ s → t ≡ pass.task → pass_turn s pass ≡ next → AgreesWithPass now pass
    → turn_at core t ≡ next
pass_says s core now pass t next here script task says agrees =
    ap (λ (run : CoreView). turn_at run t) here ∙ ap (turn_at now) task ∙ agrees.turn_is
    ∙ ap (λ (s : Script). pass_turn s pass) (ap (λ (run : CoreView). run.script) (sym here) ∙ script) ∙ says

pub ticket_says : (core now : CoreView) (ticket : TicketView) (t : ℕ) → core ≡ now → t ≡ ticket.task → AgreesWithTicket now ticket → turn_at core t ≡ ticket_turn ticket.committed
ticket_says core now ticket t here task agrees = ap (λ (run : CoreView). turn_at run t) here ∙ ap (turn_at now) task ∙ agrees.turn_is

pub ticket_here : (core now : CoreView) (t u : TicketView) → core ≡ now → t ≡ u → AgreesWithTicket core t → AgreesWithTicket now u
ticket_here core now t u here same agrees =
    subst (λ (run : CoreView). AgreesWithTicket run u) here (subst (λ (ticket : TicketView). AgreesWithTicket core ticket) same agrees)

clash : (b : Bool) → b ≡ true → b ≡ false → ⊥
clash true is not_so = absurd cc
clash false is not_so = absurd cc

pub ticket_not_here : (b : Bool) (core now : CoreView) (t u : TicketView) → core ≡ now → t ≡ u → (b ≡ true ↔ AgreesWithTicket core t) → b ≡ false → AgreesWithTicket now u → ⊥
ticket_not_here b core now t u here same agrees not_so h = clash b (agrees.1 (ticket_here now core u t (sym here) (sym same) h)) not_so

-- What tells whether it agrees: the task's turn and lines, against those that the pass or the ticket says

pub pass_agrees : (s : Script) (core now : CoreView) (inside pass : PassView) (b : Bool) (at next : Turn) (lines : ℕ) → core ≡ now → inside ≡ pass → core.script ≡ s
    → at ≡ turn_at core inside.task → lines ≡ lines_at core inside.task → pass_turn s pass ≡ next → (b ≡ true ↔ (at ≡ next) × (lines ≡ inside.lines)) → b ≡ true ↔ AgreesWithPass now pass
pass_agrees s core now inside pass b at next lines here view script turn_is lines_are says same =
    let turn_now : at ≡ turn_at now pass.task = turn_is ∙ ap (λ (run : CoreView). turn_at run inside.task) here ∙ ap (λ (p : PassView). turn_at now p.task) view in
    let lines_now : lines ≡ lines_at now pass.task = lines_are ∙ ap (λ (run : CoreView). lines_at run inside.task) here ∙ ap (λ (p : PassView). lines_at now p.task) view in
    let said : next ≡ pass_turn now.script pass = sym says ∙ ap (λ (s : Script). pass_turn s pass) (sym script ∙ ap (λ (run : CoreView). run.script) here) in
    let view_lines : inside.lines ≡ pass.lines = ap (λ (p : PassView). p.lines) view in (
      (λ yes. record { turn_is = sym turn_now ∙ (same.0 yes).0 ∙ said; lines_are = sym lines_now ∙ (same.0 yes).1 ∙ view_lines }),
      (λ agrees. same.1 (turn_now ∙ agrees.turn_is ∙ sym said, lines_now ∙ agrees.lines_are ∙ sym view_lines)),
    )

pub ticket_agrees : (core now : CoreView) (inside ticket : TicketView) (b : Bool) (at next : Turn) (lines : ℕ) → core ≡ now → inside ≡ ticket → at ≡ turn_at core inside.task
    → lines ≡ lines_at core inside.task → next ≡ ticket_turn ticket.committed → (b ≡ true ↔ (at ≡ next) × (lines ≡ inside.lines)) → b ≡ true ↔ AgreesWithTicket now ticket
ticket_agrees core now inside ticket b at next lines here view turn_is lines_are says same =
    let turn_now : at ≡ turn_at now ticket.task = turn_is ∙ ap (λ (run : CoreView). turn_at run inside.task) here ∙ ap (λ (t : TicketView). turn_at now t.task) view in
    let lines_now : lines ≡ lines_at now ticket.task = lines_are ∙ ap (λ (run : CoreView). lines_at run inside.task) here ∙ ap (λ (t : TicketView). lines_at now t.task) view in
    let view_lines : inside.lines ≡ ticket.lines = ap (λ (t : TicketView). t.lines) view in (
      (λ yes. record { turn_is = sym turn_now ∙ (same.0 yes).0 ∙ says; lines_are = sym lines_now ∙ (same.0 yes).1 ∙ view_lines }),
      (λ agrees. same.1 (turn_now ∙ agrees.turn_is ∙ sym says, lines_now ∙ agrees.lines_are ∙ sym view_lines)),
    )

-- from which turns a task leaves
pub leaves : (committed : Bool) (t : Turn) → t ≡ ticket_turn committed → (t ≡ turn.Done) ⊎ (t ≡ turn.Entered)
leaves true t is = inl is
leaves false t is = inr is

pub on_err : {T E : Type 0} (r : Result T E) (P : Type 0) → P → OnErr r P
on_err (Ok x) P p = tt
on_err (Err e) P p = p

pub commit_script : (old new : CoreView) (t : ℕ) (listed : List Entry) (plan : Plan) (by : Commit) → Commits old t listed plan by new → new.script ≡ old.script
commit_script old new t listed plan commit.Done h = ap (λ (run : CoreView). run.script) h.1.2
commit_script old new t listed plan commit.Stale h = ap (λ (run : CoreView). run.script) h.1

-- The change of a pass

pub are_of : (s : Script) (core now : CoreView) (fixed list : List Entry) (catalogue : List Module) (policies : PoliciesView) → core ≡ now → list ≡ policies.list → fixed ≡ static_of s
    → fixed ++ policies.list ≡ specs_of now → AreHeld (static_of s ++ list) catalogue → AreOf (specs_of core) fixed list catalogue
are_of s core now fixed list catalogue policies here same is listed held =
    record {
      listed = ap (λ (xs : List Entry). fixed ++ xs) same ∙ listed ∙ ap specs_of (sym here);
      held = subst (λ (xs : List Entry). AreHeld (xs ++ list) catalogue) (sym is) held;
    }

change_script : (old new : CoreView) (t : ℕ) (by : ChangeOutcome) → Changes old t by new → new.script ≡ old.script
change_script old new t outcome.Done h = ap (λ (run : CoreView). run.script) h.1.2
change_script old new t (outcome.Waits n) h = ap (λ (run : CoreView). run.script) h.2

module _ (s : Script) (old new : CoreView) (t : ℕ) {E : Type 0} (P : ChangeOutcome → Type 0) (Q R S : Type 0) where
  pub change_counts : (r : Result ChangeOutcome E) (done done' busy : ℕ) → (old.script ≡ s) × (done ≡ done_of old) × (busy ≡ open_weight s old) → t < length s.tasks
      → turn_at old t ≡ turn.Change → IfOk r (λ by. Changes old t by new) → IfOk r (λ by. AdvancesBy by (progress_of old) t (progress_of new))
      → IfOk r (λ by. done_of new ≡ done_of old + lines_changed by) → IfOk r (λ by. P by × (done' ≡ done + lines_changed by)) → OnErr r ((new ≡ old) × R × S)
      → OnErr r (Q × (done' ≡ done)) → (new.script ≡ s) × (done' ≡ done_of new) × (busy ≡ open_weight s new)
  change_counts (Ok by) done done' busy counts lt is changes advances lines noted err kept = (
    change_script old new t by changes ∙ counts.0,
    omega (arith, counts.1, lines, noted.1),
    counts.2 ∙ sym (changed s old new t lt by is advances),
  )
  change_counts (Err e) done done' busy counts lt is changes advances lines noted err kept = (
    ap (λ (run : CoreView). run.script) err.0 ∙ counts.0,
    kept.1 ∙ counts.1 ∙ ap done_of (sym err.0),
    counts.2 ∙ ap (open_weight s) (sym err.0),
  )

pub change_made : {T E : Type 0} (A B C D : T → Type 0) (L : Type 0) (r : Result T E) → L → IfOk r A → IfOk r B → IfOk r (λ x. C x × D x) → IfOk r (λ x. A x × L × B x × C x)
change_made A B C D L (Ok x) l a b c = (a, l, b, c.0)
change_made A B C D L (Err e) l a b c = tt

abbrev pub seen : List Entry → List Module → PoliciesView
seen list catalogue = record { list = list; catalogue = catalogue }

pub change_failed : {T E : Type 0} (C D : Type 0) (core now new : CoreView) (list list' : List Entry) (catalogue catalogue' : List Module) (policies : PoliciesView) (r : Result T E)
    → core ≡ now → seen list catalogue ≡ policies → OnErr r ((new ≡ core) × (list' ≡ list) × (catalogue' ≡ catalogue)) → OnErr r (C × D)
    → OnErr r ((new ≡ now) × (seen list' catalogue' ≡ policies) × C)
change_failed C D core now new list list' catalogue catalogue' policies (Ok x) here view err noted = tt
change_failed C D core now new list list' catalogue catalogue' policies (Err e) here view err noted =
    (err.0 ∙ here, ap (λ (xs : List Entry). seen xs catalogue') err.1 ∙ ap (seen list) err.2 ∙ view, noted.0)
