-- The sources along the history of a core, as it gets one event more.
use Rattle.std.proofs.Common.{◌≡◌, ℕ, Bool, true, List, [], ◌∷◌, ◌++◌, length, map, Option, Some, Result, Ok, Err, refl, sym, ap, subst, ◌∙◌}
use Rattle.std.specs.List.{AllByRecursion}
use Rattle.std.specs.Prelude.{fold, IfOk, OnErr}
use Rattle.std.specs.declared.alloc.AllocError.{AllocError}
use Rattle.std.proofs.lemmas.List.Sums.{fold-append}
use Rattle.mf_policy.specs.declared.registration.Registration.{Registration}
use Rattle.mf_item.specs.Item.{Item}
use Rattle.mf_objects.specs.declared.descriptors.Fd.{Fd}
use Rattle.mf_objects.specs.Live.{Entities}
use Rattle.mf_calls.specs.declared.script.Line.{Line}
use Rattle.mf_calls.specs.declared.script.Script.{Script}
use Rattle.mf_calls.specs.Tasks.{name_of}
use Rattle.mf_calls.specs.WellFormed.{IsWellFormed}
use Rattle.mf_plan.specs.declared.outline.Outline.{Outline}
use Rattle.mf_plan.specs.declared.reply.Reply.{Reply}
use Rattle.mf_plan.specs.declared.state.State.{State}
use Rattle.mf_plan.specs.Outline.{item_of}
use Rattle.mf_plan.specs.OutlineOf.{IsOutlineOf}
use Rattle.mf_perform.specs.Passed.{passed}
use Rattle.mf_perform.specs.Refused.{is_ok}
use Rattle.mf_core.specs.declared.progress.ChangeOutcome.{ChangeOutcome}
use Rattle.mf_core.specs.declared.progress.ChangeOutcome.TheVariants as outcome
use Rattle.mf_core.specs.declared.history.Event.{Event}
use Rattle.mf_core.specs.declared.history.Event.TheVariants as event
use Rattle.mf_core.specs.declared.history.History.{History}
use Rattle.mf_core.specs.CoreView.{Changes, CoreView, progress_of, run_state, with_next}
use Rattle.mf_core.specs.LegalHistory.{IsLegal, RunState, next_line, next_number, opening_run, run_after, run_state_of}
use Rattle.mf_core.specs.NextFound.{IsNextFound, IsNextOutline, OutlineAt}
use Rattle.mf_core.specs.Opening.{spec_at_boot}
use Rattle.mf_core.specs.WithEvent.{with_event}
use Rattle.mf_core.proofs.Entries.{may_come-split}
use Rattle.mf_core.proofs.Insides.{state_on}
use Rattle.mf_lifetimes.proofs.Files.{all_both, all_from}
use Rattle.mf_flow.specs.declared.following.Flow.{Flow}
use Rattle.mf_flow.specs.Rows.{AreRows, AreSourcesOf, EachBecomes, HasLabelSlot, IsFlowOf, IsOpening, flow_after_event, flow_moved}
use Rattle.mf_flow.specs.Sources.{Sets, sets_after, sets_after_event, sources_of}
use Rattle.mf_flow.specs.Table.{sourced}
use Rattle.mf_flow.specs.Transfers.{descriptor_of}
use Rattle.mf_flow.proofs.Across.{opening_sets}
use Rattle.mf_flow.proofs.Becoming.{IsSettled, all_becoming, becomes_along, by_registration}
use Rattle.mf_flow.proofs.DoneCalls.{call_becomes}
use Rattle.mf_flow.proofs.Dominating.{IsSourced, all_sourced}
use Rattle.mf_flow.proofs.Flowing.{IsFlowing, opening_flowing, run_flowing}
use Rattle.mf_flow.proofs.Followed.{Becomes, all_flows, event_rows, kept_rows, opening_flows, opening_replayed, still_registered, unmoved}

sets_behind : (s : Script) (r : Registration) (run : RunState) (sets : Sets) (es : List Event) (e : Event)
    → sets_after s r run sets (es ++ e ∷ []) ≡ sets_after_event s r (fold (run_after s) run es) e (sets_after s r run sets es)
sets_behind s r run sets [] e = refl
sets_behind s r run sets (x ∷ es) e = sets_behind s r (run_after s run x) (sets_after_event s r run x sets) es e

module _ (s : Script) (h : History) (e : Event) (formed : IsWellFormed s) (legal : IsLegal s (with_event h e)) where
  run : RunState
  run = run_state_of s h.events.list

  before : IsLegal s h
  before = record { boots = legal.boots; events = (may_come-split s (opening_run s) h.events.list (e ∷ []) legal.events).0 }

  flow_on : (f new : Flow) → IsSourced s f.registration → Becomes s (run_state_of s h.events.list) e f new → IsFlowOf s h f → IsFlowOf s (with_event h e) new
  flow_on f new sourced becomes are =
      let r : Registration = f.registration in
      let es : List Event = h.events.list in
      let here : RunState = run_state_of s es in
      let may = may_come-split s (opening_run s) es (e ∷ []) legal.events in
      let flowing : IsFlowing sourced.policy r (spec_at_boot s r.module) here.state (sources_of s r es) =
      run_flowing sourced.policy r (spec_at_boot s r.module) s (opening_run s) (opening_sets s r) es sourced.booted.of may.0
      (opening_flowing sourced.policy r (spec_at_boot s r.module) s formed sourced.booted.of sourced.booted.pinned) in
      let rows = event_rows sourced.policy r (spec_at_boot s r.module) s here e (sources_of s r es) f.sets may.1.0 flowing are in
      let after : AreRows (run_after s here e).state.objects (sets_after_event s r here e (sources_of s r es)) new.sets =
      kept_rows (run_after s here e).state.objects (sets_after_event s r here e (sources_of s r es)) (flow_after_event s here e f).sets new.sets becomes.sets rows in
      let at : AreRows (run_state_of s (es ++ e ∷ [])).state.objects (sources_of s r (es ++ e ∷ [])) new.sets =
      subst (λ (x : RunState). AreRows x.state.objects (sources_of s r (es ++ e ∷ [])) new.sets) (sym (fold-append (run_after s) (opening_run s) es (e ∷ [])))
      (subst (λ (x : Sets). AreRows (run_after s here e).state.objects x new.sets) (sym (sets_behind s r (opening_run s) (opening_sets s r) es e)) after) in
      subst (λ (q : Registration). AreRows (run_state_of s (es ++ e ∷ [])).state.objects (sources_of s q (es ++ e ∷ [])) new.sets) (sym becomes.registration) at

  -- what becomes of the sources with an event
  history_on : (flows flows' : List Flow) → EachBecomes (Becomes s (run_state_of s h.events.list) e) flows flows' → AreSourcesOf s h flows → AreSourcesOf s (with_event h e) flows'
  history_on flows flows' become are = (
    still_registered s (run_state_of s h.events.list) e flows flows' become ∙ are.0,
    all_becoming (Becomes s (run_state_of s h.events.list) e) (λ (f : Flow). IsSourced s f.registration × IsFlowOf s h f) (IsFlowOf s (with_event h e)) flows flows'
        (λ f new becomes both. flow_on f new both.0 becomes both.1) become
        (all_both (λ (f : Flow). IsSourced s f.registration) (IsFlowOf s h) flows
        (by_registration (IsSourced s) flows (subst (AllByRecursion (IsSourced s)) (sym are.0) (all_sourced s h formed before))) are.1),
  )

-- the policies' slots
pub slots_of : (s : Script) (h : History) (flows : List Flow) → IsWellFormed s → IsLegal s h → AreSourcesOf s h flows → AllByRecursion HasLabelSlot flows
slots_of s h flows formed legal are =
    all_from (λ (f : Flow). IsSourced s f.registration) HasLabelSlot flows (λ f sourced. sourced.booted.of.within)
    (by_registration (IsSourced s) flows (subst (AllByRecursion (IsSourced s)) (sym are.0) (all_sourced s h formed legal)))

-- A core

pub sources_on : (k k' : CoreView) (e : Event) (flows flows' : List Flow) → k' ≡ with_next k e → IsWellFormed k'.script → IsLegal k'.script k'.history
    → EachBecomes (Becomes k.script (run_state k) e) flows flows' → AreSourcesOf k.script k.history flows → AreSourcesOf k'.script k'.history flows'
sources_on k k' e flows flows' grown formed legal become are =
    subst (λ (x : CoreView). AreSourcesOf x.script x.history flows') (sym grown)
    (history_on k.script k.history e (subst (λ (x : CoreView). IsWellFormed x.script) grown formed)
    (subst (λ (x : CoreView). IsLegal x.script x.history) grown legal) flows flows' become are)

-- an event that moves nothing
pub sources_stay : (k k' : CoreView) (e : Event) (flows : List Flow) → ((f : Flow) → flow_after_event k.script (run_state k) e f ≡ f) → k' ≡ with_next k e → IsWellFormed k'.script
    → IsLegal k'.script k'.history → AreSourcesOf k.script k.history flows → AreSourcesOf k'.script k'.history flows
sources_stay k k' e flows still grown formed legal are =
    sources_on k k' e flows flows grown formed legal (unmoved k.script (run_state k) e e flows refl still) are

-- before the first event
pub sources_first : (s : Script) (h : History) (state : State) (flows : List Flow) → IsWellFormed s → IsLegal s h → h.events.list ≡ [] → state ≡ (run_state_of s h.events.list).state
    → map (λ (f : Flow). f.registration) flows ≡ sourced h.boots → AllByRecursion (IsOpening state.objects) flows → AreSourcesOf s h flows
sources_first s h state flows formed legal none here registered opened =
    let state_is : state ≡ (opening_run s).state = here ∙ ap (λ (es : List Event). (run_state_of s es).state) none in
    let followed =
    opening_flows s h (sourced h.boots) h.events.list (record { script = s; run = opening_run s }) state flows formed legal refl refl refl state_is registered opened in (
      registered,
      all_flows s h h.events.list 0 (record { script = s; run = opening_run s }) flows refl (sym (ap length none))
          (opening_replayed s h h.events.list (record { script = s; run = opening_run s }) refl legal refl) followed,
    )

-- A change of the policies or of a setting is made, or waits, or has no memory: it moves nothing.
pub sources_changed : (P Q : Type 0) (k k' : CoreView) (t : ℕ) (r : Result ChangeOutcome AllocError) (flows : List Flow) → IfOk r (λ by. Changes k t by k') → OnErr r ((k' ≡ k) × P × Q)
    → IsWellFormed k'.script → IsLegal k'.script k'.history → AreSourcesOf k.script k.history flows → AreSourcesOf k'.script k'.history flows
sources_changed P Q k k' t (Ok outcome.Done) flows made failed formed legal are =
    let reply = made.1.0 in
    sources_stay k k' (event.Changed t (next_number (run_state k) t) reply) flows (λ f. refl) made.1.2 formed legal are
sources_changed P Q k k' t (Ok (outcome.Waits n)) flows made failed formed legal are =
    subst (λ (x : CoreView). AreSourcesOf x.script x.history flows) (sym made.2) are
sources_changed P Q k k' t (Err error) flows made failed formed legal are =
    subst (λ (x : CoreView). AreSourcesOf x.script x.history flows) (sym failed.0) are

-- the outline of the call of the next line
outline_at : (s : Script) (r : RunState) (t : ℕ) (found : Option Line) (line : Line) (outline : Outline) → found ≡ Some line → OutlineAt s r t found outline → IsOutlineOf r.state (name_of s t) line.child line.call outline
outline_at s r t found line outline is at = subst (λ (x : Option Line). OutlineAt s r t x outline) is at

-- A call is committed: what its checks moved that passed was noted, and then what is left of it.
pub call_noted : (k k' : CoreView) (t : ℕ) (said : Reply) (state state' : State) (name : List ℕ) (line : Line) (outline : Outline) (next : ℕ) (is_done : Bool) (flows moved new : List Flow)
    → state ≡ (run_state k).state → name ≡ name_of k.script t → next_line k.script (progress_of k) t ≡ Some line → IsNextOutline k.script (run_state k) t outline
    → (is_ok said ≡ true → IsNextFound k.script (run_state k) t outline.found) → k' ≡ with_next k (event.Done t (next_number (run_state k) t) said)
    → next ≡ state.objects.next → state' ≡ (run_state k').state → is_done ≡ is_ok said
    → EachBecomes (λ (f new : Flow). new ≡ flow_moved state (descriptor_of state name line) (map (item_of state.objects) (passed said outline.checks)) f) flows moved
    → EachBecomes (IsSettled next state'.objects outline.found is_done) moved new
    → IsWellFormed k'.script → IsLegal k'.script k'.history → AreSourcesOf k.script k.history flows → AreSourcesOf k'.script k'.history new
call_noted k k' t said state state' name line outline next is_done flows moved new here name_is line_is outlined found grown next_is after_is done_is moves settles formed legal are =
    let s : Script = k.script in
    let run : RunState = run_state k in
    let e : Event = event.Done t (next_number run t) said in
    let after : state'.objects ≡ (run_after s run e).state.objects = ap (λ (x : State). x.objects) after_is ∙ ap (λ (x : RunState). x.state.objects) (state_on k k' e grown) in
    sources_on k k' e flows new grown formed legal
    (becomes_along (λ (f new : Flow). new ≡ flow_moved state (descriptor_of state name line) (map (item_of state.objects) (passed said outline.checks)) f)
    (IsSettled next state'.objects outline.found is_done) (Becomes s run e) flows moved new
    (λ f m n is settled.
    call_becomes s run t (next_number run t) said line outline line_is (outline_at s run t (next_line s run.progress t) line outline line_is outlined) found f m n
    (is ∙ ap (λ (x : State). flow_moved x (descriptor_of x name line) (map (item_of x.objects) (passed said outline.checks)) f) here
    ∙ ap (λ (x : List ℕ). flow_moved run.state (descriptor_of run.state x line) (map (item_of run.state.objects) (passed said outline.checks)) f) name_is)
    (subst (λ (o : Entities). IsSettled run.state.objects.next o outline.found (is_ok said) m n) after
    (subst (λ (b : Bool). IsSettled run.state.objects.next state'.objects outline.found b m n) done_is
    (subst (λ (x : ℕ). IsSettled x state'.objects outline.found is_done m n) (next_is ∙ ap (λ (x : State). x.objects.next) here) settled))))
    moves settles)
    are

-- the policies' slots, once they were noted to have moved some
pub slots_moved : (s : Script) (h : History) (state : State) (fd : Option Fd) (items : List Item) (flows moved : List Flow) → IsWellFormed s → IsLegal s h → AreSourcesOf s h flows
    → EachBecomes (λ (f new : Flow). new ≡ flow_moved state fd items f) flows moved → AllByRecursion HasLabelSlot moved
slots_moved s h state fd items flows moved formed legal are become =
    all_becoming (λ (f new : Flow). new ≡ flow_moved state fd items f) HasLabelSlot HasLabelSlot flows moved (λ f new is slot. subst HasLabelSlot (sym is) slot) become
    (slots_of s h flows formed legal are)
