-- Sources go along over two calls of a legal history.
use Rattle.std.proofs.Common.{◌≡◌, inl, ℕ, ◌<◌, zero, suc, arith, Bool, true, false, List, [], ◌∷◌, ◌++◌, length, get_or, Option, Some, None, refl, sym, subst}
use Rattle.std.specs.List.{AllByRecursion}
use Rattle.std.specs.Option.{option_map_or}
use Rattle.mf_elem.specs.declared.elem.Elem.{Elem}
use Rattle.mf_elem.specs.Label.{is_equal}
use Rattle.mf_policy.specs.declared.registration.Registration.{Registration}
use Rattle.mf_policy.specs.declared.spec.Spec.{Spec}
use Rattle.mf_objects.specs.declared.id.Id.{Id}
use Rattle.mf_objects.specs.Live.{Entities, label_at}
use Rattle.mf_calls.specs.declared.script.Line.{Line}
use Rattle.mf_calls.specs.declared.script.Script.{Script}
use Rattle.mf_calls.specs.Tasks.{name_of}
use Rattle.mf_plan.specs.declared.state.State.{State}
use Rattle.mf_core.specs.declared.history.Event.{Event}
use Rattle.mf_core.specs.declared.history.Event.TheVariants as event
use Rattle.mf_core.specs.Opening.{spec_at_boot}
use Rattle.mf_core.specs.LegalHistory.{AllMayCome, RunState, next_line, opening_run, run_after, run_state_of}
use Rattle.mf_core.proofs.Entries.{may_come-split}
use Rattle.mf_flow.specs.Sources.{Sets, element_by, moving, relabels, sets_after, sets_after_event, sets_after_line, sources_of}
use Rattle.mf_flow.specs.Table.{sourced}
use Rattle.mf_flow.proofs.Across.{opening_sets}
use Rattle.mf_flow.proofs.Answering.{IsOf}
use Rattle.mf_flow.proofs.Bounds.{Fit, FitBy}
use Rattle.mf_flow.proofs.Dominating.{IsSourced, all_sourced}
use Rattle.mf_flow.proofs.Flowing.{IsFlowing, event_flowing, opening_flowing, run_flowing}
use Rattle.mf_flow.proofs.Orders.{FlowPolicy}
use Rattle.mf_moves.specs.Handed.{Has, IsOpen, LeadOpen, Stays, StaysIn, StaysOver}
use Rattle.mf_moves.specs.Laws.{TwoCallsHandOn}
use Rattle.mf_moves.specs.Moves.{moves_of}
use Rattle.mf_moves.proofs.Handing.{after_more, done_on, event_on, hand_on}

all_at : {A : Type 0} (P : A → Type 0) (xs : List A) (x : A) (n : ℕ) → n < length xs → get_or xs n x ≡ x → AllByRecursion P xs → P x
all_at P [] x n within is all = absurd (omega (arith, within))
all_at P (y ∷ xs) x zero within is all = subst P is all.0
all_at P (y ∷ xs) x (suc n) within is all = all_at P xs x n (omega (arith, within)) is all.1

-- Who has a source isn't labelled equal

open_by : (p : FlowPolicy) (r : Registration) (o : Entities) (id : Id) (set : List Elem) (e : Elem) (element : Option Elem) → element_by r (label_at o id) ≡ element
    → Fit p element set → Has set e → IsOpen r o id
open_by p r o id set e None is none has = absurd (subst (λ (xs : List Elem). Has xs e) none has)
open_by p r o id set e (Some own) is fit has = one (is_equal own) refl fit
  where
    one : (b : Bool) → is_equal own ≡ b → FitBy p own b set → IsOpen r o id
    one true equal none = absurd (subst (λ (xs : List Elem). Has xs e) none has)
    one false other all = record { element = own; labelled = is; other = other }

lead_itself : (r : Registration) (o : Entities) (moves : List (Id × Id)) (a : Id) → LeadOpen r o moves a a
lead_itself r o [] a = refl
lead_itself r o (move ∷ moves) a = inl (lead_itself r o moves a)

module _ (p : FlowPolicy) (r : Registration) (spec : Spec) (s : Script) (of : IsOf p r) (e : Elem) where
  holds_open : (run : RunState) (sets : Sets) (id : Id) → IsFlowing p r spec run.state sets → Has (sets id) e → IsOpen r run.state.objects id
  holds_open run sets id flowing has = open_by p r run.state.objects id (sets id) e (element_by r (label_at run.state.objects id)) refl (flowing.fit id) has

  -- what a party has it keeps
  kept_in : (run : RunState) (sets : Sets) (x : Event) (id : Id) → IsFlowing p r spec run.state sets → StaysIn s r run x id → Has (sets id) e
      → Has (sets_after_event s r run x sets id) e
  kept_in run sets (event.Done t n reply) id flowing stays has = by_line (next_line s run.progress t) stays
    where
      after : State
      after = (run_after s run (event.Done t n reply)).state

      by_line : (next : Option Line) → Stays run.state after (option_map_or (λ (line : Line). relabels r run.state (name_of s t) line reply id) next false) id
          → Has (sets_after_line r run.state after (name_of s t) next reply sets id) e
      by_line None stays = has
      by_line (Some line) stays =
          hand_on r run.state after (name_of s t) line reply sets id id e (holds_open run sets id flowing has)
          (lead_itself r run.state.objects (moves_of (moving r run.state (name_of s t) line reply)) id) stays has
  kept_in run sets other id flowing stays has = has

  kept_over : (es : List Event) (run : RunState) (sets : Sets) (id : Id) → IsFlowing p r spec run.state sets → AllMayCome s run es → StaysOver s r run es id → Has (sets id) e
      → Has (sets_after s r run sets es id) e
  kept_over [] run sets id flowing may stays has = has
  kept_over (x ∷ es) run sets id flowing may stays has =
      kept_over es (run_after s run x) (sets_after_event s r run x sets) id (event_flowing p r spec s run x sets of may.0 flowing) may.1 stays.1
      (kept_in run sets x id flowing stays.0 has)

pub two_calls_on : TwoCallsHandOn
two_calls_on s h r es between rest first second from by to e formed legal booted is over stays over' stays' has =
    let policy : IsSourced s r = all_at (IsSourced s) (sourced h.boots) r booted.0 booted.1 booted.2 (all_sourced s h formed legal) in
    let p : FlowPolicy = policy.policy in
    let of : IsOf p r = policy.booted.of in
    let spec : Spec = spec_at_boot s r.module in
    let flows : (events : List Event) → AllMayCome s (opening_run s) events → IsFlowing p r spec (run_state_of s events).state (sources_of s r events) =
    λ events may. run_flowing p r spec s (opening_run s) (opening_sets s r) events of may (opening_flowing p r spec s formed of policy.booted.pinned) in
    let before : List Event = es ++ first ∷ between in
    let may : AllMayCome s (opening_run s) before =
    (may_come-split s (opening_run s) before (second ∷ rest) (subst (AllMayCome s (opening_run s)) is legal.events)).0 in
    let parts = may_come-split s (opening_run s) es (first ∷ between) may in
    let run : RunState = run_state_of s es in
    let sets : Sets = sources_of s r es in
    let flowing : IsFlowing p r spec run.state sets = flows es parts.0 in
    let there : Has (sets_after_event s r run first sets by) e =
    event_on s r run sets first from by e (holds_open p r spec s of e run sets from flowing has) over stays.0 has in
    let still : Has (sources_of s r before by) e =
    subst (λ (after : Sets). Has (after by) e) (sym (after_more s r (opening_run s) (opening_sets s r) es (first ∷ between)))
    (kept_over p r spec s of e between (run_after s run first) (sets_after_event s r run first sets) by
    (event_flowing p r spec s run first sets of parts.1.0 flowing) parts.1.1 stays.1 there) in
    done_on s r before second by to e (holds_open p r spec s of e (run_state_of s before) (sources_of s r before) by (flows before may) still) over' stays' still
