-- The rows that are kept while a history is gone through are its sources.
use Rattle.std.proofs.Common.{◌≡◌, ℕ, ◌<◌, ◌+◌, suc, false, List, [], ◌∷◌, length, drop, get_or, map, Option, Some, None, Result, Ok, Err, refl, ap, sym, ◌∙◌, subst, arith}
use Rattle.std.specs.Prelude.{OnOk, fold}
use Rattle.std.specs.List.{AllByRecursion}
use Rattle.std.proofs.Math.Seq.{drop-cons}
use Rattle.mf_core.proofs.LookedUp.{reply_at, state_at}
use Rattle.mf_elem.specs.declared.label.TheConstants.{SLOTS}
use Rattle.mf_item.specs.Item.{Item}
use Rattle.mf_policy.specs.declared.registration.Registration.{Registration}
use Rattle.mf_policy.specs.declared.spec.Spec.{Spec}
use Rattle.mf_list.specs.Asked.{slot_of}
use Rattle.mf_objects.proofs.Entities.{label_of as values_of}
use Rattle.mf_objects.specs.declared.id.Id.{Id}
use Rattle.mf_objects.specs.Live.{LiveEntity, Entities, live_at}
use Rattle.mf_calls.specs.declared.script.Line.{Line}
use Rattle.mf_calls.specs.declared.script.Script.{Script}
use Rattle.mf_calls.specs.Tasks.{name_of}
use Rattle.mf_calls.specs.WellFormed.{IsWellFormed}
use Rattle.mf_plan.specs.declared.state.State.{State}
use Rattle.mf_plan.specs.declared.reply.Reply.{Reply}
use Rattle.mf_plan.specs.Names.{caller_name}
use Rattle.mf_plan.specs.Views.{process_named}
use Rattle.mf_perform.specs.OneCall.{call_reply, call_state, observed}
use Rattle.mf_perform.proofs.Observing.{HasObserved, ObservingKeeps, checks_passed, observing, observing_keeps}
use Rattle.mf_perform.proofs.Observing.HasObserved.{absent, unlowered, lowered}
use Rattle.mf_core.specs.declared.history.Event.{Event}
use Rattle.mf_core.specs.declared.history.Event.TheVariants as event
use Rattle.mf_core.specs.declared.history.History.{History}
use Rattle.mf_core.specs.Opening.{opening_state, spec_at_boot}
use Rattle.mf_core.specs.Progress.{progress_at}
use Rattle.mf_core.specs.LegalHistory.{RunState, opening_run, next_line, MayCome, run_after, AllMayCome, run_state_of, IsLegal}
use Rattle.mf_core.specs.RunView.{RunView}
use Rattle.mf_perform.proofs.StateChange.{Deed, StateChange}
use Rattle.mf_perform.proofs.EntityChange.{ChangesEntities, changes_entities}
use Rattle.mf_flow.specs.declared.following.Flow.{Flow}
use Rattle.mf_flow.specs.Rows.{AreKept, AreOwnRows, AreRows, EachBecomes, HasLabelSlot, IsFlowOf, IsKept, IsOpening, Rows, rows_moved, rows_created, rows_after_line, rows_after_event, flow_after_event}
use Rattle.mf_flow.specs.Sources.{Sets, own_source, element_by, moving, sets_after_line, sets_after_event, sets_after, sources_of}
use Rattle.mf_flow.proofs.Across.{gives_element, moved_by_all, opening_sets, set_of, sets_across}
use Rattle.mf_flow.proofs.Elements.{all_labelled}
use Rattle.mf_flow.proofs.Relabels.{relabel_state}
use Rattle.mf_flow.proofs.Orders.{FlowPolicy}
use Rattle.mf_flow.proofs.Answering.{IsOf}
use Rattle.mf_flow.proofs.Flowing.{IsFlowing, deed_of, line_change, line_objects, event_flowing, opening_flowing, same_before}
use Rattle.mf_flow.proofs.RowsKept.{fit_held, items_rows, kept_itself}
use Rattle.mf_flow.proofs.RowsAfter.{change_next, created_rows, given_rows}
use Rattle.mf_flow.specs.Table.{sourced}
use Rattle.mf_lifetimes.proofs.Files.{all_both, all_from}
use Rattle.mf_flow.proofs.Becoming.{all_becoming, becomes_itself, by_registration, same_registrations}
use Rattle.mf_flow.proofs.Dominating.{IsBootedFor, IsSourced, all_sourced}

-- rows of sources are rows of others that are the same
same_sets : (o : Entities) (sets sets' : Sets) (rows : Rows) → ((id : Id) → sets id ≡ sets' id) → AreRows o sets rows → AreRows o sets' rows
same_sets o sets sets' rows same are = record { count = are.count; each = λ id e live. are.each id e live ∙ same id }

-- what is live after checks was live before
was_live : {caller : Option Id} {checks : List Item} (s : State) (id : Id) (found seen : Option LiveEntity) (e : LiveEntity) → HasObserved caller checks s id found seen → seen ≡ Some e
    → (old : LiveEntity) × (found ≡ Some old)
was_live s id _ _ e absent is = cc
was_live s id _ _ e (unlowered old) is = (old, refl)
was_live s id _ _ e (lowered slot old mine at process sees) is = (old, refl)

call_rows : (p : FlowPolicy) (r : Registration) (spec : Spec) (s s' : State) (task : List ℕ) (line : Line) (said : Reply) (sets : Sets) (rows : Rows)
    → call_reply s task line.child line.call ≡ said → s' ≡ call_state s task line.child line.call
    → StateChange (deed_of s task line said) (observed s task line.child line.call) s' → IsFlowing p r spec s sets → AreRows s.objects sets rows
    → AreRows s'.objects (sets_after_line r s s' task (Some line) said sets) (rows_after_line r s s' task (Some line) said rows)
call_rows p r spec s s' task line said sets rows is after_is shape flowing are =
    same_sets s'.objects (sets_across r s1 s' by.caller (gives_element r by.asked) moved) (sets_after_line r s s' task (Some line) said sets)
    (rows_after_line r s s' task (Some line) said rows)
    (λ id. same_before r s id (live_at s.objects id) (live_at s1.objects id) (live_at s'.objects id) (gives_element r by.asked id) (moved id) (set_of by.caller moved) (keeps.each id))
    (given_rows r by s1 s' keeps.rooted.rising step moved by.asked (rows_created (slot_of r) s.objects.next s'.objects by.caller moved_rows)
    (λ asked one. ap (λ (x : State). x.objects.next) (after_is ∙ relabel_state s task line.child line.call said asked is one))
    (subst (λ (next : ℕ). AreRows s'.objects (sets_across r s1 s' by.caller (λ id. false) moved) (rows_created (slot_of r) next s'.objects by.caller moved_rows)) keeps.next
    (created_rows r by s1 s' keeps.rooted.rising step moved moved_rows seen (change_next by s1 s' shape))))
  where
    by : Deed
    by = deed_of s task line said

    items : List Item
    items = moving r s task line said

    s1 : State
    s1 = observed s task line.child line.call

    keeps : ObservingKeeps (process_named s.objects (caller_name task line.child)) (checks_passed s task line.child line.call) s s1
    keeps = observing_keeps s s1 (observing s task line.child line.call flowing.held.kept.rooted) flowing.held.kept.rooted

    step : ChangesEntities by s1 s'
    step = changes_entities by s1 s' shape keeps.rooted.rising

    moved : Sets
    moved = moved_by_all r s.objects sets items

    moved_rows : Rows
    moved_rows = fold (rows_moved (slot_of r) s.objects) rows items

    after_checks : AreRows s.objects moved moved_rows
    after_checks =
        items_rows r s.objects flowing.held.kept.rooted.rising (all_labelled r spec s flowing.held) sets rows items (fit_held p r s.objects sets flowing.fit) are

    -- so they are in the state after the checks
    seen : AreRows s1.objects moved moved_rows
    seen =
        record {
          count = after_checks.count ∙ sym keeps.next;
          each = λ id e live.
              let was = was_live s id (live_at s.objects id) (live_at s1.objects id) e (keeps.each id) live in
              after_checks.each id was.0 was.1;
        }

done_rows : (p : FlowPolicy) (r : Registration) (spec : Spec) (s : Script) (run : RunState) (t : ℕ) (next : Option Line) (said : Reply) (sets : Sets) (rows : Rows)
    → reply_at s run t next ≡ Some said → IsFlowing p r spec run.state sets → AreRows run.state.objects sets rows
    → AreRows (state_at s run t next).objects (sets_after_line r run.state (state_at s run t next) (name_of s t) next said sets)
    (rows_after_line r run.state (state_at s run t next) (name_of s t) next said rows)
done_rows p r spec s run t None said sets rows is flowing are = cc
done_rows p r spec s run t (Some line) said sets rows is flowing are =
    let same : call_reply run.state (name_of s t) line.child line.call ≡ said = cc in
    call_rows p r spec run.state (state_at s run t (Some line)) (name_of s t) line said sets rows same refl (line_change s run t line said same flowing.held.kept.rooted) flowing are

pub event_rows : (p : FlowPolicy) (r : Registration) (spec : Spec) (s : Script) (run : RunState) (e : Event) (sets : Sets) (rows : Rows) → MayCome s run e
    → IsFlowing p r spec run.state sets → AreRows run.state.objects sets rows
    → AreRows (run_after s run e).state.objects (sets_after_event s r run e sets) (rows_after_event s r run e rows)
event_rows p r spec s run (event.Enter t) sets rows may flowing are = are
event_rows p r spec s run (event.Done t line said) sets rows may flowing are = done_rows p r spec s run t (next_line s run.progress t) said sets rows may.2 flowing are
event_rows p r spec s run (event.Leave t) sets rows may flowing are = are
event_rows p r spec s run (event.Changed t line said) sets rows may flowing are =
    subst (λ (o : Entities). AreRows o sets rows) (sym (line_objects s run t (progress_at run.progress t).phase (next_line s run.progress t) may.1)) are

-- Entities that are gone

-- emptied rows of what is gone are no rows of live entities
pub kept_rows : (o : Entities) (sets : Sets) (rows rows' : Rows) → AreKept o rows rows' → AreRows o sets rows → AreRows o sets rows'
kept_rows o sets rows rows' kept are =
    record { count = kept.count ∙ are.count; each = λ id e live. kept.each id e live ∙ are.each id e live }

-- Going through a history

-- some of the events are gone through: how the rest leads to the state at the end
pub record IsReplayed (s : Script) (es : List Event) (n : ℕ) (replay : RunView) : Type 0 where
  pub script : replay.script ≡ s
  pub may : AllMayCome s replay.run (drop n es)
  pub run : fold (run_after s) replay.run (drop n es) ≡ fold (run_after s) (opening_run s) es

-- the sources so far, and how the rest leads to those of the history
pub record Followed (p : FlowPolicy) (s : Script) (r : Registration) (es : List Event) (n : ℕ) (replay : RunView) (rows : Rows) : Type 0 where
  spec : Spec
  sets : Sets
  flows : sets_after s r replay.run sets (drop n es) ≡ sources_of s r es
  flowing : IsFlowing p r spec replay.run.state sets
  kept : AreRows replay.run.state.objects sets rows

-- the same for the policy that is booted so
pub record IsFollowed (s : Script) (r : Registration) (es : List Event) (n : ℕ) (replay : RunView) (rows : Rows) : Type 0 where
  policy : FlowPolicy
  of : IsOf policy r
  followed : Followed policy s r es n replay rows

-- the same for the sources that are kept by a policy
abbrev pub IsFlow : Script → List Event → ℕ → RunView → Flow → Type 0
IsFlow s es n replay f = IsFollowed s f.registration es n replay f.sets

-- At the opening

opening_for : (p : FlowPolicy) (s : Script) (h : History) (r : Registration) (rows : Rows) → IsWellFormed s → IsBootedFor p s r
    → AreRows (opening_state s).objects (opening_sets s r) rows → IsFollowed s r h.events.list 0 (record { script = s; run = opening_run s }) rows
opening_for p s h r rows formed booted are =
    record {
      policy = p;
      of = booted.of;
      followed = record {
        spec = spec_at_boot s r.module;
        sets = opening_sets s r;
        flows = refl;
        flowing = opening_flowing p r (spec_at_boot s r.module) s formed booted.of booted.pinned;
        kept = are;
      };
    }

opening_followed : (p : FlowPolicy) (s : Script) (h : History) (r : Registration) (es : List Event) (replay : RunView) (rows : Rows) → IsBootedFor p s r → es ≡ h.events.list → IsWellFormed s
    → replay ≡ record { script = s; run = opening_run s } → AreRows (opening_state s).objects (opening_sets s r) rows → IsFollowed s r es 0 replay rows
opening_followed p s h r es replay rows booted all formed is are =
    subst (λ (x : List Event). IsFollowed s r x 0 replay rows) (sym all)
    (subst (λ (x : RunView). IsFollowed s r h.events.list 0 x rows) (sym is) (opening_for p s h r rows formed booted are))

pub opening_replayed : (s : Script) (h : History) (es : List Event) (replay : RunView) → es ≡ h.events.list → IsLegal s h → replay ≡ record { script = s; run = opening_run s }
    → IsReplayed s es 0 replay
opening_replayed s h es replay all legal is =
    subst (λ (x : List Event). IsReplayed s x 0 replay) (sym all)
    (subst (λ (x : RunView). IsReplayed s h.events.list 0 x) (sym is) (record { script = refl; may = legal.events; run = refl }))

-- own elements are the sources at the opening
own_sources_rows : (s : Script) (r : Registration) (o : Entities) (rows : Rows) → o ≡ (opening_state s).objects → AreOwnRows (slot_of r) o rows
    → AreRows (opening_state s).objects (opening_sets s r) rows
own_sources_rows s r o rows here own =
    let at : AreOwnRows (slot_of r) (opening_state s).objects rows = subst (λ (x : Entities). AreOwnRows (slot_of r) x rows) here own in
    record {
      count = at.count;
      each = λ id e live. at.each id e live ∙ ap (λ (found : Option LiveEntity). own_source (element_by r (values_of found))) (sym live);
    }

pub opening_flows : (s : Script) (h : History) (booted : List Registration) (es : List Event) (replay : RunView) (state : State) (flows : List Flow)
    → IsWellFormed s → IsLegal s h → booted ≡ sourced h.boots → es ≡ h.events.list → replay ≡ record { script = s; run = opening_run s } → state ≡ replay.run.state
    → map (λ (f : Flow). f.registration) flows ≡ booted → AllByRecursion (IsOpening state.objects) flows → AllByRecursion (IsFlow s es 0 replay) flows
opening_flows s h booted es replay state flows formed legal are all is here registered opened =
    let at : state.objects ≡ (opening_state s).objects = ap (λ (x : State). x.objects) (here ∙ ap (λ (x : RunView). x.run.state) is) in
    all_from (λ (f : Flow). IsSourced s f.registration × IsOpening state.objects f) (IsFlow s es 0 replay) flows
    (λ f both. opening_followed both.0.policy s h f.registration es replay f.sets both.0.booted all formed is (own_sources_rows s f.registration state.objects f.sets at both.1))
    (all_both (λ (f : Flow). IsSourced s f.registration) (IsOpening state.objects) flows
    (by_registration (IsSourced s) flows (subst (AllByRecursion (IsSourced s)) (sym (registered ∙ are)) (all_sourced s h formed legal))) opened)

-- the slots of the policies that were booted
pub slots_within : (s : Script) (h : History) (booted : List Registration) → IsWellFormed s → IsLegal s h → booted ≡ sourced h.boots
    → AllByRecursion (λ r. slot_of r < SLOTS) booted
slots_within s h booted formed legal are =
    all_from (IsSourced s) (λ r. slot_of r < SLOTS) booted (λ r sourced. sourced.booted.of.within)
    (subst (AllByRecursion (IsSourced s)) (sym are) (all_sourced s h formed legal))

-- The next event

pub next_may : (s : Script) (es : List Event) (n : ℕ) (replay : RunView) (d : Event) → n < length es → IsReplayed s es n replay → MayCome s replay.run (get_or es n d)
next_may s es n replay d within replayed = (subst (AllMayCome s replay.run) (drop-cons es n d within) replayed.may).0

rest_is : (es : List Event) (n : ℕ) (e d : Event) → n < length es → e ≡ get_or es n d → drop n es ≡ e ∷ drop (suc n) es
rest_is es n e d within is = drop-cons es n d within ∙ ap (λ (x : Event). x ∷ drop (suc n) es) (sym is)

pub replayed_more : (s : Script) (es : List Event) (n : ℕ) (replay replay' : RunView) (e d : Event) → n < length es → IsReplayed s es n replay → e ≡ get_or es n d
    → replay' ≡ record { script = s; run = run_after s replay.run e } → IsReplayed s es (n + 1) replay'
replayed_more s es n replay replay' e d within so_far is next =
    let rest : drop n es ≡ e ∷ drop (suc n) es = rest_is es n e d within is in
    let may : AllMayCome s replay.run (e ∷ drop (suc n) es) = subst (AllMayCome s replay.run) rest so_far.may in
    let place : suc n ≡ n + 1 = omega arith in
    subst (λ (k : ℕ). IsReplayed s es k replay') place
    (subst (λ (x : RunView). IsReplayed s es (suc n) x) (sym next)
    (record { script = refl; may = may.1; run = sym (ap (fold (run_after s) replay.run) rest) ∙ so_far.run }))

followed_more : (s : Script) (r : Registration) (es : List Event) (n : ℕ) (replay replay' : RunView) (rows rows' rows'' : Rows) (e d : Event) → n < length es
    → IsReplayed s es n replay → IsFollowed s r es n replay rows → e ≡ get_or es n d → replay' ≡ record { script = s; run = run_after s replay.run e }
    → rows' ≡ rows_after_event s r replay.run e rows → AreKept (run_after s replay.run e).state.objects rows' rows'' → IsFollowed s r es (n + 1) replay' rows''
followed_more s r es n replay replay' rows rows' rows'' e d within replayed followed is next rows_are kept =
    let so_far = followed.followed in
    let p : FlowPolicy = followed.policy in
    let rest : drop n es ≡ e ∷ drop (suc n) es = rest_is es n e d within is in
    let may : AllMayCome s replay.run (e ∷ drop (suc n) es) = subst (AllMayCome s replay.run) rest replayed.may in
    let place : suc n ≡ n + 1 = omega arith in
    let sets : Sets = sets_after_event s r replay.run e so_far.sets in
    let after_event : AreRows (run_after s replay.run e).state.objects sets rows' =
    subst (AreRows (run_after s replay.run e).state.objects sets) (sym rows_are) (event_rows p r so_far.spec s replay.run e so_far.sets rows may.0 so_far.flowing so_far.kept) in
    subst (λ (k : ℕ). IsFollowed s r es k replay' rows'') place
    (subst (λ (x : RunView). IsFollowed s r es (suc n) x rows'') (sym next)
    (record {
      policy = p;
      of = followed.of;
      followed = record {
        spec = so_far.spec;
        sets = sets;
        flows = sym (ap (sets_after s r replay.run so_far.sets) rest) ∙ so_far.flows;
        flowing = event_flowing p r so_far.spec s replay.run e so_far.sets followed.of may.0 so_far.flowing;
        kept = kept_rows (run_after s replay.run e).state.objects sets rows' rows'' kept after_event;
      };
    }))

-- what the sources by a policy become, once those of what is gone may be emptied
abbrev pub Becomes : Script → RunState → Event → Flow → Flow → Type 0
Becomes s run e f new = IsKept (run_after s run e).state.objects (flow_after_event s run e f) new

-- an event that moves nothing
pub unmoved : (s : Script) (run : RunState) (e e' : Event) (flows : List Flow) → e ≡ e' → ((f : Flow) → flow_after_event s run e' f ≡ f) → EachBecomes (Becomes s run e) flows flows
unmoved s run e e' flows is same =
    subst (λ (x : Event). EachBecomes (Becomes s run x) flows flows) (sym is)
    (becomes_itself (Becomes s run e') flows (λ f.
    subst (λ (x : Flow). IsKept (run_after s run e').state.objects x f) (sym (same f)) (record { registration = refl; sets = kept_itself (run_after s run e').state.objects f.sets })))

-- what is so anyway is so of a value, where there is one
pub where_ok : {T E P : Type 0} (r : Result T E) → P → OnOk r P
where_ok (Ok value) so = so
where_ok (Err error) so = tt

flow_more : (s : Script) (es : List Event) (n : ℕ) (replay replay' : RunView) (e d : Event) (f new : Flow) → n < length es → IsReplayed s es n replay → e ≡ get_or es n d
    → replay' ≡ record { script = s; run = run_after s replay.run e } → Becomes s replay.run e f new → IsFlow s es n replay f → IsFlow s es (n + 1) replay' new
flow_more s es n replay replay' e d f new within replayed is next becomes so_far =
    subst (λ (r : Registration). IsFollowed s r es (n + 1) replay' new.sets) (sym becomes.registration)
    (followed_more s f.registration es n replay replay' f.sets (flow_after_event s replay.run e f).sets new.sets e d within replayed so_far is next refl becomes.sets)

pub flows_more : (s : Script) (es : List Event) (n : ℕ) (replay replay' : RunView) (e d : Event) (flows flows' : List Flow) → n < length es → IsReplayed s es n replay
    → e ≡ get_or es n d → replay' ≡ record { script = s; run = run_after s replay.run e } → EachBecomes (Becomes s replay.run e) flows flows'
    → AllByRecursion (IsFlow s es n replay) flows → AllByRecursion (IsFlow s es (n + 1) replay') flows'
flows_more s es n replay replay' e d flows flows' within replayed is next become all =
    all_becoming (Becomes s replay.run e) (IsFlow s es n replay) (IsFlow s es (n + 1) replay') flows flows'
    (λ f new becomes so_far. flow_more s es n replay replay' e d f new within replayed is next becomes so_far) become all

-- of the same policies
pub still_registered : (s : Script) (run : RunState) (e : Event) (flows flows' : List Flow) → EachBecomes (Becomes s run e) flows flows'
    → map (λ (f : Flow). f.registration) flows' ≡ map (λ (f : Flow). f.registration) flows
still_registered s run e flows flows' become = same_registrations (Becomes s run e) flows flows' (λ f new becomes. becomes.registration) become

-- the policies' slots
pub flow_slots : (s : Script) (es : List Event) (n : ℕ) (replay : RunView) (flows : List Flow) → AllByRecursion (IsFlow s es n replay) flows → AllByRecursion HasLabelSlot flows
flow_slots s es n replay flows all = all_from (IsFlow s es n replay) HasLabelSlot flows (λ f so_far. so_far.of.within) all

-- At the end

nothing_left : (es : List Event) → drop (length es) es ≡ []
nothing_left [] = refl
nothing_left (e ∷ es) = nothing_left es

pub all_replayed : (s : Script) (h : History) (es : List Event) (n : ℕ) (replay : RunView) → es ≡ h.events.list → n ≡ length es → IsReplayed s es n replay
    → replay.run ≡ run_state_of s h.events.list
all_replayed s h es n replay all is replayed =
    let none : drop n es ≡ [] = ap (λ (k : ℕ). drop k es) is ∙ nothing_left es in
    sym (ap (fold (run_after s) replay.run) none) ∙ replayed.run ∙ ap (run_state_of s) all

pub all_flows : (s : Script) (h : History) (es : List Event) (n : ℕ) (replay : RunView) (flows : List Flow) → es ≡ h.events.list → n ≡ length es
    → IsReplayed s es n replay → AllByRecursion (IsFlow s es n replay) flows → AllByRecursion (IsFlowOf s h) flows
all_flows s h es n replay flows all is replayed so_far = all_from (IsFlow s es n replay) (IsFlowOf s h) flows one so_far
  where
    one : (f : Flow) → IsFlow s es n replay f → IsFlowOf s h f
    one f so_far =
        let followed = so_far.followed in
        let r : Registration = f.registration in
        let run : replay.run ≡ run_state_of s h.events.list = all_replayed s h es n replay all is replayed in
        let none : drop n es ≡ [] = ap (λ (k : ℕ). drop k es) is ∙ nothing_left es in
        let flows : followed.sets ≡ sources_of s r h.events.list = sym (ap (sets_after s r replay.run followed.sets) none) ∙ followed.flows ∙ ap (sources_of s r) all in
        subst (λ (x : RunState). AreRows x.state.objects (sources_of s r h.events.list) f.sets) run
        (subst (λ (x : Sets). AreRows replay.run.state.objects x f.sets) flows followed.kept)
