-- That each denial of a legal history is told.
use Rattle.std.proofs.Common.{◌≡◌, ◌≢◌, ℕ, suc, ◌+◌, ◌-◌, Bool, true, false, ◌&&◌, List, [], ◌∷◌, Option, Some, None, slice_get, refl, ap, sym, ◌∙◌, subst, arith, inl, inr, ◌⊎◌}
use Rattle.std.specs.Prelude.{if◌then◌else◌, option_map, unwrap_or}
use Rattle.mf_errno.specs.declared.errno.Errno.{Errno}
use Rattle.mf_errno.specs.declared.errno.Errno.TheVariants.{Success, Eperm}
use Rattle.mf_errno.specs.declared.module.Module.{Module}
use Rattle.mf_errno.specs.Same.{is_same}
use Rattle.mf_compose.specs.Composition.{composition}
use Rattle.mf_item.specs.Item.{Item}
use Rattle.mf_item.specs.declared.operation.CheckOp.{CheckOp}
use Rattle.mf_item.specs.declared.operation.CheckOp.TheVariants as ops
use Rattle.mf_policy.specs.Registration.{Entry}
use Rattle.mf_list.specs.declared.ask.Answer.{Answer}
use Rattle.mf_list.specs.Asked.{answer_to, answers, asks_privilege, composed, has_privilege, privilege_answer}
use Rattle.mf_list.specs.Once.{IsListedOnce}
use Rattle.mf_calls.specs.declared.script.Line.{Line}
use Rattle.mf_calls.specs.declared.script.Script.{Script}
use Rattle.mf_calls.specs.Tasks.{name_of}
use Rattle.mf_plan.specs.declared.plan.Tail.{Tail}
use Rattle.mf_plan.specs.declared.plan.Tail.TheVariants.{Do, Refuse}
use Rattle.mf_plan.specs.declared.reply.Payload.{Payload}
use Rattle.mf_plan.specs.declared.reply.Reply.{Reply}
use Rattle.mf_plan.specs.declared.reply.Reply.TheVariants as reply
use Rattle.mf_plan.specs.Plan.{call_row, plan_of}
use Rattle.mf_plan.specs.Planned.{Plan}
use Rattle.mf_perform.specs.declared.verdict.Denial.{Denial}
use Rattle.mf_perform.specs.Reply.{op_at, reply_to, tail_reply}
use Rattle.mf_perform.specs.Verdict.{denial_at, denial_from}
use Rattle.mf_core.proofs.Booted.{booted_once}
use Rattle.mf_core.proofs.LookedUp.{reply_at, state_at}
use Rattle.mf_core.proofs.SameLists.{step_once}
use Rattle.mf_core.specs.declared.history.Event.{Event}
use Rattle.mf_core.specs.declared.history.Event.TheVariants as event
use Rattle.mf_core.specs.LegalHistory.{AllMayCome, MayCome, RunState, next_line, opening_run, run_after}
use Rattle.mf_why.specs.Deniers.{deniers}
use Rattle.mf_why.specs.Laws.{AllAreTold, AreTold, DenialsAreTold, EventIsTold, IsDecided, IsDenied, IsTold}
use Rattle.mf_why.proofs.Decided.{one_decides}
use Rattle.mf_why.proofs.Privileges.{privileges_have_no_denier}

-- The check that a denial names

-- so far on from the first of the checks, which has the number n
record Denies (policies : List Entry) (n : ℕ) (checks : List Item) (d : Denial) : Type 0 where
  place : ℕ
  item : Item
  number : d.item ≡ n + place
  check : slice_get checks place ≡ Some item
  answer : answer_to policies item ≡ record { errno = d.errno; by = d.by }
  fails : d.errno ≢ Success

first_or_later : (n : ℕ) (errno : Errno) (by : Option Module) (later : Option Denial) (d : Denial) → denial_at n errno by later ≡ Some d
    → ((errno ≢ Success) × (record { item = n; errno = errno; by = by } ≡ d)) ⊎ (later ≡ Some d)
first_or_later n Success by later d is = inr is
first_or_later n errno by later d is = inl ((λ success. cc), cc)

denies : (policies : List Entry) (n : ℕ) (checks : List Item) (d : Denial) → denial_from policies n checks ≡ Some d → Denies policies n checks d
denies policies n [] d is = cc
denies policies n (item ∷ items) d is =
    elim (first_or_later n (answer_to policies item).errno (answer_to policies item).by (denial_from policies (n + 1) items) d is) [
      | inl first ↦
          record {
            place = 0;
            item = item;
            number = sym (ap (λ (x : Denial). x.item) first.1) ∙ here;
            check = refl;
            answer = ap (λ (x : Denial). let a : Answer = record { errno = x.errno; by = x.by } in a) first.1;
            fails = λ success. first.0 (ap (λ (x : Denial). x.errno) first.1 ∙ success);
          }
      | inr later ↦
          let rest = denies policies (n + 1) items d later in
          record {
            place = suc rest.place;
            item = rest.item;
            number = rest.number ∙ next rest.place;
            check = rest.check;
            answer = rest.answer;
            fails = rest.fails;
          }
    ]
  where
    here : n ≡ n + 0
    here = omega arith

    next : (place : ℕ) → (n + 1) + place ≡ n + suc place
    next place = omega arith

-- Those that are told

privilege : (errno : Errno) (has : Bool) → (privilege_answer errno has).errno ≢ Success → privilege_answer errno has ≡ record { errno = Eperm; by = None }
privilege errno has fails = one (is_same Success errno && has) fails
  where
    one : (b : Bool) → (if b then Success else Eperm) ≢ Success → (let a : Answer = record { errno = if b then Success else Eperm; by = None } in a) ≡ record { errno = Eperm; by = None }
    one true fails = absurd (fails refl)
    one false fails = refl

told : (listed : List Entry) (item : Item) (answer : Answer) → IsListedOnce listed → answer_to listed item ≡ answer → answer.errno ≢ Success
    → AreTold (asks_privilege item.op) answer (deniers listed answer.by item)
told listed item answer once is fails = one (asks_privilege item.op) refl is
  where
    one : (b : Bool) → asks_privilege item.op ≡ b
        → (if b then privilege_answer (composition (answers listed item)) (has_privilege listed item) else composed listed item) ≡ answer
        → AreTold b answer (deniers listed answer.by item)
    one true asks is = (
      sym is ∙ privilege (composition (answers listed item)) (has_privilege listed item) (λ success. fails (sym (ap (λ (a : Answer). a.errno) is) ∙ success)),
      privileges_have_no_denier listed answer.by item asks,
    )
    one false asks is =
        subst (λ (a : Answer). IsDecided a (deniers listed a.by item)) is (one_decides listed item once (λ success. fails (sym (ap (λ (a : Answer). a.errno) is) ∙ success)))

-- Replies

denied : (listed : List Entry) (plan : Plan) (found : Option Denial) (payload : Payload) (errno : Errno) (k : CheckOp) (number : ℕ) (by : Option Module) → IsListedOnce listed
    → denial_from listed 1 plan.items ≡ found → reply_to plan found payload ≡ reply.Denied errno k number by
    → IsDenied listed plan.items k number (record { errno = errno; by = by })
denied listed plan None payload errno k number by once verdict is = by_tail plan.tail is
  where
    by_tail : (tail : Tail) → tail_reply tail payload ≡ reply.Denied errno k number by → IsDenied listed plan.items k number (record { errno = errno; by = by })
    by_tail Do is = cc
    by_tail (Refuse error) is = cc
denied listed plan (Some d) payload errno k number by once verdict is =
    let found = denies listed 1 plan.items d verdict in
    let number_is : d.item ≡ number = cc in
    let errno_is : d.errno ≡ errno = cc in
    let by_is : d.by ≡ by = cc in
    let op_is : op_at plan.items d.item ≡ k = cc in
    let at : number - 1 ≡ found.place = omega (arith, found.number, number_is) in
    let check : slice_get plan.items (number - 1) ≡ Some found.item = ap (slice_get plan.items) at ∙ found.check in
    let answer : answer_to listed found.item ≡ record { errno = errno; by = by } = cc found.answer in
    record {
      item = found.item;
      check = check;
      op = sym op_is ∙ ap (op_at plan.items) number_is ∙ ap (λ (x : Option Item). unwrap_or (option_map (λ (i : Item). i.op) x) ops.VnodeLookup) check;
      told = told listed found.item (record { errno = errno; by = by }) once answer (λ success. found.fails (errno_is ∙ success));
    }

reply_told : (s : Script) (r : RunState) (t : ℕ) (reply : Reply) (line : Option Line) → IsListedOnce r.state.specs → reply_at s r t line ≡ Some reply
    → IsTold r.state.specs (option_map (λ line. plan_of r.state (name_of s t) line.child line.call) line) reply
reply_told s r t reply None once is = cc
reply_told s r t (reply.Ok payload) (Some line) once is = tt
reply_told s r t (reply.Denied errno k number by) (Some line) once is =
    denied r.state.specs (plan_of r.state (name_of s t) line.child line.call) (denial_from r.state.specs 1 (plan_of r.state (name_of s t) line.child line.call).items)
    (call_row r.state (name_of s t) line.child line.call).payload errno k number by once refl cc
reply_told s r t (reply.Refused errno) (Some line) once is = tt

-- Histories

state_once : (s : Script) (r : RunState) (t : ℕ) (line : Option Line) → IsListedOnce r.state.specs → IsListedOnce (state_at s r t line).specs
state_once s r t None once = once
state_once s r t (Some line) once = step_once r.state (name_of s t) once line.child line.call

event_once : (s : Script) (r : RunState) (e : Event) → IsListedOnce r.state.specs → IsListedOnce (run_after s r e).state.specs
event_once s r (event.Enter t) once = once
event_once s r (event.Done t line reply) once = state_once s r t (next_line s r.progress t) once
event_once s r (event.Leave t) once = once
event_once s r (event.Changed t line reply) once = state_once s r t (next_line s r.progress t) once

event_told : (s : Script) (r : RunState) (e : Event) → IsListedOnce r.state.specs → MayCome s r e → EventIsTold s r e
event_told s r (event.Enter t) once may = tt
event_told s r (event.Done t line reply) once may = reply_told s r t reply (next_line s r.progress t) once may.2
event_told s r (event.Leave t) once may = tt
event_told s r (event.Changed t line reply) once may = reply_told s r t reply (next_line s r.progress t) once may.3

each_told : (s : Script) (r : RunState) (es : List Event) → IsListedOnce r.state.specs → AllMayCome s r es → AllAreTold s r es
each_told s r [] once may = tt
each_told s r (e ∷ es) once may = (event_told s r e once may.0, each_told s (run_after s r e) es (event_once s r e once) may.1)

pub denials_are_told : DenialsAreTold
denials_are_told s h formed legal = each_told s (opening_run s) h.events.list (booted_once s formed) legal.events
