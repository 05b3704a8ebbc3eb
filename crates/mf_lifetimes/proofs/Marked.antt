-- The marks of a slot over a legal history, and the laws about them.
use Rattle.std.proofs.Common.{◌≡◌, ◌≢◌, ℕ, ◌<◌, ◌≤◌, Bool, true, false, if◌then◌else◌, List, [], ◌∷◌, ◌++◌, map, append-nil, Option, Some, None, refl, ap, sym, ◌∙◌, subst, arith, inl, inr, slice_index_or}
use Rattle.std.specs.Prelude.{find, Contains}
use Rattle.std.specs.List.{fold}
use Rattle.mf_core.proofs.LookedUp.{state_at}
use Rattle.mf_elem.specs.declared.label.LabelValue.{LabelValue}
use Rattle.mf_elem.specs.declared.label.LabelValue.TheVariants.{Unset, Range, Number}
use Rattle.mf_elem.specs.declared.label.TheConstants.{SLOTS}
use Rattle.mf_elem.specs.declared.label.Request.{Request}
use Rattle.mf_item.specs.declared.view.Kind.TheVariants as kinds
use Rattle.mf_item.specs.Item.{Item}
use Rattle.mf_policy.specs.declared.registration.Registration.{Registration}
use Rattle.mf_policy.specs.Registration.{Entry, holds_slot, given_after}
use Rattle.mf_policy.specs.Relabelled.{value_after, relabelled_value, relabelled}
use Rattle.mf_policy.proofs.ByEntry.{relabelled_by}
use Rattle.mf_policy.specs.declared.labels.Origin.TheVariants.{Boot, Maker}
use Rattle.mf_policy.specs.Modules.{facts_of}
use Rattle.mf_policy.specs.NewLabels.{new_value}
use Rattle.mf_objects.specs.declared.id.Id.{Id}
use Rattle.mf_objects.specs.declared.entity.EntityData.{EntityData}
use Rattle.mf_objects.specs.Live.{LiveEntity, kind_of, live_at, value_in}
use Rattle.mf_calls.specs.declared.script.Line.{Line}
use Rattle.mf_calls.specs.declared.script.Script.{Script}
use Rattle.mf_calls.specs.Tasks.{name_of}
use Rattle.mf_calls.specs.WellFormed.{IsWellFormed}
use Rattle.mf_plan.specs.declared.state.State.{State}
use Rattle.mf_core.specs.declared.history.Event.{Event}
use Rattle.mf_core.specs.declared.history.Event.TheVariants as event
use Rattle.mf_core.specs.Opening.{opening_state, booted_specs, spec_at_boot}
use Rattle.mf_core.specs.LegalHistory.{RunState, opening_run, next_line, run_after}
use Rattle.std.specs.List.{filter_map}
use Rattle.mf_lifetimes.specs.Marks.{Mark, made_marks, end_mark, is_registered, added_marks, marks_across, marks_after, marks_of}
use Rattle.mf_lifetimes.specs.Marks.Mark.{Made, Ended, Left}
use Rattle.mf_lifetimes.specs.Laws.{state_of, SlotsAreMadeOnce, AreMarksOf, SetSlotsAreMarked, GoneSlotsHaveEnded, holds_valid, LabelsAll, BootedPoliciesLast}
use Rattle.mf_lifetimes.specs.Once.{AreOnce}
use Rattle.mf_lifetimes.specs.Once.AreOnce.{never, made as made_once, ended as ended_once, left as left_once}
use Rattle.mf_perform.specs.OneCall.{observed}
use Rattle.mf_perform.proofs.Observing.{HasObserved, Observing, ObservingKeeps, checks_passed, observing, observing_keeps}
use Rattle.mf_perform.proofs.Observing.HasObserved.{absent as is_absent, lowered, unlowered}
use Rattle.mf_perform.proofs.Observing.Observing.{kept as all_kept}
use Rattle.mf_perform.proofs.StateChange.{Deed, StateChange, step_by, step_change}
use Rattle.mf_perform.proofs.StateChange.StateChange.{same}
use Rattle.mf_perform.proofs.EntityChange.{EntityChange, ChangesEntities, changes_entities}
use Rattle.mf_perform.proofs.EntityChange.EntityChange.{absent, stays, gets_label, comes, goes}
use Rattle.mf_perform.proofs.Allowed.{IsAllowed}
use Rattle.mf_perform.proofs.Rooted.{IsRooted}
use Rattle.mf_lifetimes.proofs.Lasting.{IsLasting, lasting_labels}
use Rattle.mf_lifetimes.proofs.Listing.{IsPinned, by_holder, one_labels}
use Rattle.mf_lifetimes.proofs.Valid.{IsValidOf}
use Rattle.mf_lifetimes.proofs.FirstValues.{with_first, unchanged_marks, relabelled_marks}
use Rattle.mf_lifetimes.proofs.Boots.{Standing, boots_standing, boots_pinned, boots_below, boots_single}
use Rattle.mf_lifetimes.proofs.Openings.{AreBooted, opening_booted}
use Rattle.mf_lifetimes.proofs.Observed.{lowered_keeps_marks, observing_kept, observing_valid, same_added}
use Rattle.mf_lifetimes.proofs.Kept.{same_policies, four_values, created_marks, boot_marks, boot_holds, AllValid, keeps_valid, keeps_pinned, Holding, IsKept, keeps, relabel_valid, holder_valid, maker_valid}

-- An entity that isn't live has no slot that is made and hasn't ended, and no marks where its id isn't given yet; the marks of a live one
-- tell the value.
abbrev pub Agree : ℕ → Id → ℕ → Option LiveEntity → List Mark → Type 0
Agree slot id next None marks = AreOnce marks × (next ≤ id.0 → marks ≡ []) × ((r : Registration) → marks ≢ Made r ∷ [])
Agree slot id next (Some e) marks = AreMarksOf (value_in slot e) marks

pub record IsMarked (slot : ℕ) (id : Id) (s : State) (marks : List Mark) : Type 0 where
  pub kept : IsKept slot s
  pub agree : Agree slot id s.objects.next (live_at s.objects id) marks

-- One step

-- behind the one mark of a set slot stands its end
pub record HaveEnded (marks : List Mark) : Type 0 where
  pub once : AreOnce marks
  pub over : (r : Registration) → marks ≢ Made r ∷ []

-- the ends of a slot that has these marks
abbrev ends : List Entry → List Mark → List Mark
ends specs marks = filter_map (end_mark specs) marks

made_ended : (specs : List Entry) (r : Registration) → HaveEnded (Made r ∷ ends specs (Made r ∷ []))
made_ended specs r = one (is_registered r specs)
  where
    one : (b : Bool) → HaveEnded (Made r ∷ (if b then Ended r else Left r) ∷ [])
    one true = record { once = ended_once r; over = λ q same. cc }
    one false = record { once = left_once r; over = λ q same. cc }

ends_once : (specs : List Entry) (value : LabelValue) (marks : List Mark) → AreMarksOf value marks → HaveEnded (marks ++ ends specs marks)
ends_once specs Unset marks is = rw is (record { once = never; over = λ q same. cc })
ends_once specs (Range label) marks is = subst (λ (ms : List Mark). HaveEnded (ms ++ ends specs ms)) (sym is.1) (made_ended specs is.0)
ends_once specs (Number n) marks is = subst (λ (ms : List Mark). HaveEnded (ms ++ ends specs ms)) (sym is.1) (made_ended specs is.0)

-- by the policy that holds the slot, where at most one does
labelled_by : (slot : ℕ) (s : State) (e : LiveEntity) → IsKept slot s
    → made_marks s.specs slot e ≡ map Made (by_holder (kind_of e.what) (find (holds_slot slot) s.specs))
labelled_by slot s e kept = ap (map Made) (one_labels slot (kind_of e.what) s.specs kept.slots.single)

-- an entity that a process makes has its marks by the policies that label it
comes_marked : (slot : ℕ) (s : State) (new maker : LiveEntity) (from : Id) → slot < SLOTS → IsKept slot s → live_at s.objects from ≡ Some maker
    → kind_of maker.what ≡ kinds.Process → value_in slot new ≡ new_value s.specs (kind_of new.what) (Maker maker.label) slot
    → AreMarksOf (value_in slot new) (made_marks s.specs slot new)
comes_marked slot s new maker from within kept live process is =
    let marked = created_marks (find (holds_slot slot) s.specs) (kind_of new.what) maker.label slot
    (λ x found lasting. maker_valid slot s from maker x kept live process found lasting) in
    rw (labelled_by slot s new kept)
    (subst (λ (value : LabelValue). AreMarksOf value (map Made (by_holder (kind_of new.what) (find (holds_slot slot) s.specs)))) (sym is) marked)

-- an entity that is relabelled has its marks, and one more where its slot has its first value
relabel_marked : (slot : ℕ) (s : State) (id : Id) (old new : LiveEntity) (request : Request) (marks : List Mark) → slot < SLOTS → IsKept slot s
    → live_at s.objects id ≡ Some old → IsAllowed s old request → new.what ≡ old.what → new.label ≡ relabelled s.specs request old.label
    → AreMarksOf (value_in slot old) marks
    → AreMarksOf (value_in slot new) (with_first marks (value_in slot old) (value_in slot new) (made_marks s.specs slot new))
relabel_marked slot s id old new request marks within kept live allowed what label agree =
    rw (labelled, value)
    (relabelled_marks holder s.specs (kind_of old.what) request (value_in slot old) marks allowed.claimed valid agree)
  where
    holder : Option Entry
    holder = find (holds_slot slot) s.specs

    value : value_in slot new ≡ relabelled_by holder request (value_in slot old)
    value =
        ap (λ (values : List LabelValue). slice_index_or values slot Unset) label ∙ four_values (relabelled_value s.specs request old.label) slot within

    labelled : made_marks s.specs slot new ≡ map Made (by_holder (kind_of old.what) holder)
    labelled = labelled_by slot s new kept ∙ ap (λ (w : EntityData). map Made (by_holder (kind_of w) holder)) what

    valid : (x : Entry) → holder ≡ Some x → IsLasting x.0.module
        → IsValidOf x.0.module (kind_of old.what) (value_in slot old) × IsValidOf x.0.module (kind_of old.what) (value_after x.0.module request (value_in slot old))
    valid x found lasting =
        let held = holder_valid slot s x kept found lasting in
        let own : IsValidOf x.0.module (kind_of old.what) (value_in slot old) = held.1 id old live in
        (own, relabel_valid slot x s old request held.0 held.1 own allowed)

change_marked : {by : Deed} (slot : ℕ) (id : Id) (s : State) (next : ℕ) (found found' : Option LiveEntity) (marks : List Mark) → slot < SLOTS → IsKept slot s
    → live_at s.objects id ≡ found → s.objects.next ≤ next → EntityChange by s id found found' → Agree slot id s.objects.next found marks
    → Agree slot id next found' (marks ++ added_marks s.specs slot marks found found')
change_marked slot id s next _ _ marks within kept is more absent agree =
    rw (append-nil marks) (agree.0, λ later. agree.1 (omega arith), agree.2)
change_marked slot id s next _ _ marks within kept is more (stays old new kind label) agree =
    let value : value_in slot new ≡ value_in slot old = ap (λ (values : List LabelValue). slice_index_or values slot Unset) label in
    rw value (unchanged_marks (value_in slot old) marks (made_marks s.specs slot new) agree)
change_marked slot id s next _ _ marks within kept is more (gets_label old new request asked allowed what label) agree =
    relabel_marked slot s id old new request marks within kept is allowed what label agree
change_marked slot id s next _ _ marks within kept is more (comes new maker from own given live process label) agree =
    let none : marks ≡ [] = agree.1 (omega arith) in
    let value : value_in slot new ≡ new_value s.specs (kind_of new.what) (Maker maker.label) slot =
    ap (λ (values : List LabelValue). slice_index_or values slot Unset) label ∙ four_values (new_value s.specs (kind_of new.what) (Maker maker.label)) slot within in
    subst (λ (ms : List Mark). AreMarksOf (value_in slot new) (ms ++ made_marks s.specs slot new)) (sym none)
    (comes_marked slot s new maker from within kept live process value)
change_marked slot id s next _ _ marks within kept is more (goes old given) agree =
    let ended = ends_once s.specs (value_in slot old) marks agree in
    (ended.once, λ later. absurd (omega arith), ended.over)

step_marked : {by : Deed} (slot : ℕ) (id : Id) (s s' : State) (marks : List Mark) → slot < SLOTS → StateChange by s s' → IsMarked slot id s marks
    → IsMarked slot id s' (marks_across id slot marks s s')
step_marked {by = by} slot id s s' marks within shape marked =
    let step : ChangesEntities by s s' = changes_entities by s s' shape marked.kept.rooted.rising in
    record {
      kept = keeps slot s s' within shape marked.kept;
      agree = change_marked slot id s s'.objects.next (live_at s.objects id) (live_at s'.objects id) marks within marked.kept refl step.next (step.each id) marked.agree;
    }

-- The checks of a call

-- the marks of an entity tell the value that its slot has after the checks
observed_agree : {caller : Option Id} {checks : List Item} (slot : ℕ) (id : Id) (s : State) (next : ℕ) (found found1 : Option LiveEntity) (marks : List Mark)
    → HasObserved caller checks s id found found1 → Agree slot id next found marks → Agree slot id next found1 marks
observed_agree slot id s next _ _ marks is_absent agree = agree
observed_agree slot id s next _ _ marks (unlowered e) agree = agree
observed_agree {checks = checks} slot id s next _ _ marks (lowered at e named listed process sees) agree =
    lowered_keeps_marks slot at e s.objects checks sees marks agree

-- the marks are those of before the checks: these add none
observing_marked : {caller : Option Id} {checks : List Item} (slot : ℕ) (id : Id) (s s1 : State) (marks : List Mark) → Observing caller checks s s1
    → IsMarked slot id s marks → IsMarked slot id s1 marks
observing_marked {caller = caller} {checks = checks} slot id s s1 marks shape marked =
    let keeps : ObservingKeeps caller checks s s1 = observing_keeps s s1 shape marked.kept.rooted in
    record {
      kept = observing_kept slot s s1 shape marked.kept;
      agree = rw (keeps.next) (observed_agree slot id s s.objects.next (live_at s.objects id) (live_at s1.objects id) marks (keeps.each id) marked.agree);
    }

same_across : {caller : Option Id} {checks : List Item} (slot : ℕ) (id : Id) (s s1 s' : State) (marks : List Mark) → ObservingKeeps caller checks s s1
    → marks_across id slot marks s1 s' ≡ marks_across id slot marks s s'
same_across slot id s s1 s' marks keeps =
    ap (λ (specs : List Entry). marks ++ added_marks specs slot marks (live_at s1.objects id) (live_at s'.objects id)) keeps.specs
    ∙ ap (λ (added : List Mark). marks ++ added) (same_added s id s.specs slot marks (live_at s.objects id) (live_at s1.objects id) (live_at s'.objects id) (keeps.each id))

-- a call's checks, and what it changes after them
call_marked : {caller : Option Id} {checks : List Item} {by : Deed} (slot : ℕ) (id : Id) (s s1 s' : State) (marks : List Mark) → slot < SLOTS → Observing caller checks s s1
    → StateChange by s1 s' → IsMarked slot id s marks → IsMarked slot id s' (marks_across id slot marks s s')
call_marked {caller = caller} {checks = checks} slot id s s1 s' marks within observes shape marked =
    let keeps : ObservingKeeps caller checks s s1 = observing_keeps s s1 observes marked.kept.rooted in
    subst (IsMarked slot id s') (same_across slot id s s1 s' marks keeps) (step_marked slot id s1 s' marks within shape (observing_marked slot id s s1 marks observes marked))

-- A run

-- who makes the call of a line, and of an event, and what it asks of whose label where it is done

abbrev pub by_nobody : Deed
by_nobody = record { caller = None; asked = None }

abbrev pub by_line : Script → RunState → ℕ → Option Line → Deed
by_line s r t None = by_nobody
by_line s r t (Some line) = step_by r.state (name_of s t) line.child line.call

abbrev pub by_event : Script → RunState → Event → Deed
by_event s r (event.Enter t) = by_nobody
by_event s r (event.Done t line reply) = by_line s r t (next_line s r.progress t)
by_event s r (event.Leave t) = by_nobody
by_event s r (event.Changed t line reply) = by_line s r t (next_line s r.progress t)

-- the checks of a line, and of an event, that pass, and the state after them

abbrev checks_line : Script → RunState → ℕ → Option Line → List Item
checks_line s r t None = []
checks_line s r t (Some line) = checks_passed r.state (name_of s t) line.child line.call

abbrev seen_line : Script → RunState → ℕ → Option Line → State
seen_line s r t None = r.state
seen_line s r t (Some line) = observed r.state (name_of s t) line.child line.call

abbrev pub checks_by : Script → RunState → Event → List Item
checks_by s r (event.Enter t) = []
checks_by s r (event.Done t line reply) = checks_line s r t (next_line s r.progress t)
checks_by s r (event.Leave t) = []
checks_by s r (event.Changed t line reply) = checks_line s r t (next_line s r.progress t)

abbrev pub seen_by : Script → RunState → Event → State
seen_by s r (event.Enter t) = r.state
seen_by s r (event.Done t line reply) = seen_line s r t (next_line s r.progress t)
seen_by s r (event.Leave t) = r.state
seen_by s r (event.Changed t line reply) = seen_line s r t (next_line s r.progress t)

line_observing : (s : Script) (r : RunState) (t : ℕ) (next : Option Line) → IsRooted r.state.objects
    → Observing (by_line s r t next).caller (checks_line s r t next) r.state (seen_line s r t next)
line_observing s r t None rooted = all_kept refl
line_observing s r t (Some line) rooted = observing r.state (name_of s t) line.child line.call rooted

line_change : (s : Script) (r : RunState) (t : ℕ) (next : Option Line) → IsRooted r.state.objects → StateChange (by_line s r t next) (seen_line s r t next) (state_at s r t next)
line_change s r t None rooted = same refl
line_change s r t (Some line) rooted = step_change r.state (name_of s t) line.child line.call rooted

pub event_observing : (s : Script) (r : RunState) (e : Event) → IsRooted r.state.objects → Observing (by_event s r e).caller (checks_by s r e) r.state (seen_by s r e)
event_observing s r (event.Enter t) rooted = all_kept refl
event_observing s r (event.Done t line reply) rooted = line_observing s r t (next_line s r.progress t) rooted
event_observing s r (event.Leave t) rooted = all_kept refl
event_observing s r (event.Changed t line reply) rooted = line_observing s r t (next_line s r.progress t) rooted

pub event_change : (s : Script) (r : RunState) (e : Event) → IsRooted r.state.objects → StateChange (by_event s r e) (seen_by s r e) (run_after s r e).state
event_change s r (event.Enter t) rooted = same refl
event_change s r (event.Done t line reply) rooted = line_change s r t (next_line s r.progress t) rooted
event_change s r (event.Leave t) rooted = same refl
event_change s r (event.Changed t line reply) rooted = line_change s r t (next_line s r.progress t) rooted

run_marked : (slot : ℕ) (id : Id) (s : Script) (r : RunState) (marks : List Mark) (es : List Event) → slot < SLOTS → IsMarked slot id r.state marks
    → IsMarked slot id (fold (run_after s) r es).state (marks_after s id slot r marks es)
run_marked slot id s r marks [] within marked = marked
run_marked slot id s r marks (e ∷ es) within marked =
    run_marked slot id s (run_after s r e) (marks_across id slot marks r.state (run_after s r e).state) es within
    (call_marked slot id r.state (seen_by s r e) (run_after s r e).state marks within (event_observing s r e marked.kept.rooted) (event_change s r e marked.kept.rooted) marked)

-- The opening state

opening_valid : (slot : ℕ) (s : Script) (x : Entry) → slot < SLOTS → IsWellFormed s → IsPinned slot x (booted_specs s) (fold given_after 0 s.boots)
    → AllValid slot x.0.module (opening_state s).objects
opening_valid slot s x within formed pinned id e found =
    let booted = (opening_booted s formed).each id e found in
    ap (λ (values : List LabelValue). holds_valid (facts_of x.0.module).labels (kind_of e.what) (slice_index_or values slot Unset)) booted.label
    ∙ boot_holds slot x (booted_specs s) (fold given_after 0 s.boots) (kind_of e.what) booted.request within pinned booted.let_ask

opening_holding : (slot : ℕ) (s : Script) → slot < SLOTS → IsWellFormed s → Standing slot (booted_specs s) (fold given_after 0 s.boots) → Holding slot (opening_state s)
opening_holding slot s within formed (inl pinned) = inl (pinned.0, pinned.1, opening_valid slot s pinned.0 within formed pinned.1)
opening_holding slot s within formed (inr none) = inr none

-- the marks of what the opening state makes
abbrev marks_at_opening : Script → Id → ℕ → List Mark
marks_at_opening s id slot = added_marks (booted_specs s) slot [] None (live_at (opening_state s).objects id)

opening_marked : (slot : ℕ) (id : Id) (s : Script) → slot < SLOTS → IsWellFormed s → IsMarked slot id (opening_state s) (marks_at_opening s id slot)
opening_marked slot id s within formed =
    record {
      kept = record {
        rooted = booted.rooted;
        booted = refl;
        slots = record { below = boots_below s; single = boots_single s slot };
        holding = opening_holding slot s within formed (boots_standing s slot formed);
      };
      agree = one (live_at (opening_state s).objects id) refl;
    }
  where
    booted : AreBooted (booted_specs s) (opening_state s).objects
    booted = opening_booted s formed

    one : (found : Option LiveEntity) → live_at (opening_state s).objects id ≡ found
        → Agree slot id (opening_state s).objects.next found (added_marks (booted_specs s) slot [] None found)
    one None is = (never, λ _. refl, λ r same. cc)
    one (Some e) is =
        let here = booted.each id e is in
        let value : value_in slot e ≡ new_value (booted_specs s) (kind_of e.what) (Boot here.request) slot =
        ap (λ (values : List LabelValue). slice_index_or values slot Unset) here.label ∙ four_values (new_value (booted_specs s) (kind_of e.what) (Boot here.request)) slot within in
        let marked = boot_marks slot (booted_specs s) (kind_of e.what) here.request in
        let labelled : made_marks (booted_specs s) slot e ≡ map Made (by_holder (kind_of e.what) (find (holds_slot slot) (booted_specs s))) =
        ap (map Made) (one_labels slot (kind_of e.what) (booted_specs s) (boots_single s slot)) in
        rw labelled (subst (λ (v : LabelValue). AreMarksOf v (map Made (by_holder (kind_of e.what) (find (holds_slot slot) (booted_specs s))))) (sym value) marked)

-- The laws

marked : (s : Script) (es : List Event) (id : Id) (slot : ℕ) → slot < SLOTS → IsWellFormed s → IsMarked slot id (fold (run_after s) (opening_run s) es).state (marks_of s es id slot)
marked s es id slot within formed =
    run_marked slot id s (opening_run s) (marks_at_opening s id slot) es within (opening_marked slot id s within formed)

value_once : (value : LabelValue) (marks : List Mark) → AreMarksOf value marks → AreOnce marks
value_once Unset marks is = rw is never
value_once (Range label) marks is = subst AreOnce (sym is.1) (made_once is.0)
value_once (Number n) marks is = subst AreOnce (sym is.1) (made_once is.0)

agree_once : (slot : ℕ) (id : Id) (next : ℕ) (found : Option LiveEntity) (marks : List Mark) → Agree slot id next found marks → AreOnce marks
agree_once slot id next None marks agree = agree.0
agree_once slot id next (Some e) marks agree = value_once (value_in slot e) marks agree

pub made_at_most_once : SlotsAreMadeOnce
made_at_most_once s h formed legal id slot within =
    let last : State = state_of s h in
    agree_once slot id last.objects.next (live_at last.objects id) (marks_of s h.events.list id slot) (marked s h.events.list id slot within formed).agree

pub marks_tell_values : SetSlotsAreMarked
marks_tell_values s h id e slot formed legal live within =
    let last : State = state_of s h in
    subst (λ (found : Option LiveEntity). Agree slot id last.objects.next found (marks_of s h.events.list id slot)) live (marked s h.events.list id slot within formed).agree

pub gone_have_ended : GoneSlotsHaveEnded
gone_have_ended s h id slot r formed legal gone within =
    let last : State = state_of s h in
    let agree : Agree slot id last.objects.next None (marks_of s h.events.list id slot) =
    subst (λ (found : Option LiveEntity). Agree slot id last.objects.next found (marks_of s h.events.list id slot)) gone (marked s h.events.list id slot within formed).agree in
    agree.2 r

-- Policies that stay

-- the entry stays, and its slot of each live entity holds a valid label
pub record IsHeld (slot : ℕ) (x : Entry) (s : State) : Type 0 where
  pub kept : IsKept slot s
  pub pinned : IsPinned slot x s.specs s.numbers
  pub valid : AllValid slot x.0.module s.objects

pub opening_held : (slot : ℕ) (x : Entry) (s : Script) → slot < SLOTS → IsWellFormed s → IsPinned slot x (booted_specs s) (fold given_after 0 s.boots)
    → IsHeld slot x (opening_state s)
opening_held slot x s within formed pinned =
    record { kept = (opening_marked slot (record { 0 = 0 }) s within formed).kept; pinned = pinned; valid = opening_valid slot s x within formed pinned }

pub step_held : {by : Deed} (slot : ℕ) (x : Entry) (s s' : State) → slot < SLOTS → StateChange by s s' → IsHeld slot x s → IsHeld slot x s'
step_held {by = by} slot x s s' within shape held =
    let step : ChangesEntities by s s' = changes_entities by s s' shape held.kept.rooted.rising in
    record {
      kept = keeps slot s s' within shape held.kept;
      pinned = keeps_pinned slot x s s' shape held.pinned;
      valid = keeps_valid slot x s s' within step held.pinned held.valid;
    }

pub observing_held : {caller : Option Id} {checks : List Item} (slot : ℕ) (x : Entry) (s s1 : State) → Observing caller checks s s1 → IsHeld slot x s → IsHeld slot x s1
observing_held {caller = caller} {checks = checks} slot x s s1 shape held =
    let keeps : ObservingKeeps caller checks s s1 = observing_keeps s s1 shape held.kept.rooted in
    record {
      kept = observing_kept slot s s1 shape held.kept;
      pinned = same_policies slot x s s1 keeps.specs keeps.numbers held.pinned;
      valid = observing_valid slot x s s1 keeps held.kept.slots.single held.pinned held.valid;
    }

run_held : (slot : ℕ) (x : Entry) (s : Script) (run : RunState) (es : List Event) → slot < SLOTS → IsHeld slot x run.state
    → IsHeld slot x (fold (run_after s) run es).state
run_held slot x s run [] within held = held
run_held slot x s run (e ∷ es) within held =
    run_held slot x s (run_after s run e) es within
    (step_held slot x (seen_by s run e) (run_after s run e).state within (event_change s run e held.kept.rooted)
    (observing_held slot x run.state (seen_by s run e) (event_observing s run e held.kept.rooted) held))

labels_all : (slot : ℕ) (x : Entry) (s : State) → IsHeld slot x s → LabelsAll x.0 slot s
labels_all slot x s held =
    record {
      listed = λ kind. one_labels slot kind s.specs held.kept.slots.single
          ∙ ap (by_holder kind) held.pinned.found
          ∙ ap (λ (b : Bool). if b then x.0 ∷ [] else []) (lasting_labels x.0.module kind held.pinned.lasting);
      valid = held.valid;
    }

pub last_and_label : BootedPoliciesLast
last_and_label s h r slot formed legal there fixed at within =
    let x : Entry = (r, spec_at_boot s r.module) in
    let pinned = boots_pinned s slot r formed (subst (λ (rs : List Registration). Contains rs r) legal.boots there) fixed at in
    labels_all slot x (state_of s h) (run_held slot x s (opening_run s) h.events.list within (opening_held slot x s within formed pinned))
