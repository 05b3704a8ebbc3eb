-- What the code does for a call, as the history goes on.
use Rattle.std.proofs.Common.{◌≡◌, ℕ, ◌-◌, ◌==◌, Bool, true, false, cond, slice_get, List, [], ◌∷◌, Option, Some, None, refl, ap, sym, ◌∙◌, subst, arith}
use Rattle.std.specs.Prelude.{filter, fold, map, option_and_then}
use Rattle.std.proofs.lemmas.List.{take-map}
use Rattle.mf_item.specs.Item.{Item}
use Rattle.mf_item.specs.declared.operation.CheckOp.{CheckOp}
use Rattle.mf_item.specs.declared.operation.CheckOp.TheVariants as op
use Rattle.mf_policy.specs.declared.registration.Registration.{Registration}
use Rattle.mf_list.specs.Asked.{slot_of}
use Rattle.mf_objects.specs.declared.descriptors.Fd.{Fd}
use Rattle.mf_objects.specs.declared.id.Id.{Id}
use Rattle.mf_objects.specs.Live.{Entities, label_at}
use Rattle.mf_calls.specs.declared.script.Line.{Line}
use Rattle.mf_calls.specs.declared.script.Script.{Script}
use Rattle.mf_calls.specs.Tasks.{lines_of, name_of}
use Rattle.mf_plan.specs.declared.state.State.{State}
use Rattle.mf_plan.specs.declared.reply.Reply.{Reply}
use Rattle.mf_plan.specs.declared.reply.Reply.TheVariants as reply
use Rattle.mf_plan.specs.declared.found.Found.{Found}
use Rattle.mf_plan.specs.declared.plan.Tail.TheVariants.{Do}
use Rattle.mf_plan.specs.Checks.{on}
use Rattle.mf_plan.specs.Found.{AreFound, descriptor_at}
use Rattle.mf_elem.specs.declared.label.LabelValue.{LabelValue}
use Rattle.mf_elem.specs.declared.label.LabelValue.TheVariants.{Unset}
use Rattle.mf_policy.specs.Lowering.{after_check, lomac_slot}
use Rattle.mf_objects.specs.Lives.{value_at}
use Rattle.mf_plan.specs.Lowering.{each_lowered, lowering, while_lowered, with_slot}
use Rattle.mf_plan.specs.Plan.{call_row, plan_in, plan_of, row_for}
use Rattle.mf_plan.specs.Rows.{about_of}
use Rattle.mf_plan.proofs.Finding.{asked_in_effect, row_by}
use Rattle.mf_plan.proofs.LoweredChecks.{lowering_taken, put_back}
use Rattle.mf_plan.proofs.Transfers.{AreThrough, through_descriptor}
use Rattle.mf_plan.proofs.Transfers.AreThrough.{asks_none, asks_read, asks_write}
use Rattle.mf_perform.specs.Refused.{is_ok}
use Rattle.mf_perform.specs.OneCall.{call_reply}
use Rattle.mf_core.specs.declared.history.Event.{Event}
use Rattle.mf_core.specs.declared.history.Event.TheVariants as event
use Rattle.mf_core.specs.Progress.{progress_at}
use Rattle.mf_core.specs.LegalHistory.{RunState, next_line, MayCome, run_after}
use Rattle.mf_core.specs.NextFound.{FoundAt, IsNextFound, IsNextOutline, OutlineAt}
use Rattle.mf_core.proofs.SameLists.{done_tail}
use Rattle.mf_perform.specs.Passed.{passed}
use Rattle.mf_flow.specs.declared.following.Flow.{Flow}
use Rattle.mf_flow.specs.Rows.{IsKept, Rows, where_done, rows_moved, rows_after_line, flow_moved, flow_settled, flow_after_event, relabel_asked, rows_by}
use Rattle.mf_flow.proofs.Becoming.{IsSettled}
use Rattle.mf_flow.specs.Transfers.{caller_of, counts, descriptor_of}
use Rattle.mf_flow.proofs.Counted.{all_pass}
use Rattle.std.specs.Option.{option_map_or, option_zip}
use Rattle.mf_core.proofs.LookedUp.{reply_at}
use Rattle.mf_elem.specs.declared.label.Request.{Request}
use Rattle.mf_flow.proofs.Relabels.{zipped}
use Rattle.mf_plan.specs.declared.outline.Check.{Check}
use Rattle.mf_plan.specs.declared.outline.Outline.{Outline}
use Rattle.mf_plan.specs.Planned.{Plan}
use Rattle.mf_plan.specs.Outline.{item_asking, item_of}
use Rattle.mf_plan.specs.OutlineOf.{IsOutlineOf}

abbrev flow_after_line : State → State → List ℕ → Option Line → Reply → Flow → Flow
flow_after_line s s' task found said f =
    record f { sets = rows_after_line f.registration s s' task found said f.sets }

line_flow : (s s' : State) (task : List ℕ) (found : Option Line) (line : Line) (said : Reply) (f moved : Flow) (next : ℕ) (o : Entities) (caller : Option Id)
    (asked : Option (Id × Request)) → found ≡ Some line → moved ≡ flow_moved s (descriptor_of s task line) (passed said (plan_of s task line.child line.call).items) f
    → next ≡ s.objects.next → o ≡ s'.objects → caller ≡ caller_of s task line → asked ≡ relabel_asked s task line said
    → flow_settled next o caller asked moved ≡ flow_after_line s s' task found said f
line_flow s s' task found line said f moved next o caller asked found_is moved_is next_is o_is caller_is asked_is =
    let then : Flow = flow_moved s (descriptor_of s task line) (passed said (plan_of s task line.child line.call).items) f in
    ap (flow_settled next o caller asked) moved_is
    ∙ ap (λ (k : ℕ). flow_settled k o caller asked then) next_is
    ∙ ap (λ (x : Entities). flow_settled s.objects.next x caller asked then) o_is
    ∙ ap (λ (x : Option Id). flow_settled s.objects.next s'.objects x asked then) caller_is
    ∙ ap (λ (x : Option (Id × Request)). flow_settled s.objects.next s'.objects (caller_of s task line) x then) asked_is
    ∙ sym (ap (λ (x : Option Line). flow_after_line s s' task x said f) found_is)

-- what the checks that passed are seen as
pub passed_map : {A B : Type 0} (said : Reply) (f : A → B) (checks : List A) → passed said (map f checks) ≡ map f (passed said checks)
passed_map (reply.Ok payload) f checks = refl
passed_map (reply.Denied errno op item by) f checks = take-map f (item - 1) checks
passed_map (reply.Refused errno) f checks = refl

-- a check counts and moves the same whatever its request

module _ (s : State) (r : Registration) (fd : Option Fd) (asked : Option Request) where
  abbrev test : Item → Bool
  test = counts r s.specs fd

  same_test : (check : Check) → test (item_asking s.objects asked check) ≡ test (item_of s.objects check)
  unfolding item_asking
  same_test check = one fd
    where
      one : (x : Option Fd) → counts r s.specs x (item_asking s.objects asked check) ≡ counts r s.specs x (item_of s.objects check)
      one None = refl
      one (Some x) = refl

  abbrev some_asking : List Check → List Item
  some_asking checks = filter test (map (item_asking s.objects asked) checks)

  abbrev some_of : List Check → List Item
  some_of checks = filter test (map (item_of s.objects) checks)

  same_fold : (rows : Rows) (checks : List Check) → fold (rows_moved (slot_of r) s.objects) rows (some_asking checks) ≡ fold (rows_moved (slot_of r) s.objects) rows (some_of checks)
  unfolding item_asking
  same_fold rows [] = refl
  same_fold rows (check ∷ checks) =
      ap (λ (b : Bool). fold (rows_moved (slot_of r) s.objects) rows (cond b (item_asking s.objects asked check ∷ some_asking checks) (some_asking checks))) (same_test check)
      ∙ one (test (item_of s.objects check)) (λ after. same_fold after checks)
    where
      one : (b : Bool) → ((after : Rows) → fold (rows_moved (slot_of r) s.objects) after (some_asking checks) ≡ fold (rows_moved (slot_of r) s.objects) after (some_of checks))
          → fold (rows_moved (slot_of r) s.objects) rows (cond b (item_asking s.objects asked check ∷ some_asking checks) (some_asking checks))
          ≡ fold (rows_moved (slot_of r) s.objects) rows (cond b (item_of s.objects check ∷ some_of checks) (some_of checks))
      one true rest = rest (rows_by (slot_of r) s.objects rows check)
      one false rest = rest rows

same_flow : (s : State) (fd : Option Fd) (asked : Option Request) (checks : List Check) (f : Flow)
    → flow_moved s fd (map (item_asking s.objects asked) checks) f ≡ flow_moved s fd (map (item_of s.objects) checks) f
same_flow s fd asked checks f = ap (λ (rows : Rows). record f { sets = rows }) (same_fold s f.registration fd asked f.sets checks)

-- A check moves the same whether or not its caller is lowered

while_moves : (n slot : ℕ) (o : Entities) (me : ℕ) (value : LabelValue) (rows : Rows) (item : Item) → rows_moved n o rows (while_lowered slot me value item) ≡ rows_moved n o rows item
while_moves n slot o me value rows item = one (item.subject.id == me)
  where
    one : (b : Bool) → rows_moved n o rows (cond b (record item { subject = with_slot slot value item.subject }) item) ≡ rows_moved n o rows item
    one true = refl
    one false = refl

each_moves : (n slot : ℕ) (o : Entities) (me : ℕ) (value : LabelValue) (rows : Rows) (items : List Item)
    → fold (rows_moved n o) rows (each_lowered slot me value items) ≡ fold (rows_moved n o) rows items
each_moves n slot o me value rows [] = refl
each_moves n slot o me value rows (item ∷ items) =
    ap (λ (x : Rows). fold (rows_moved n o) x (each_lowered slot me (after_check slot value item) items)) (while_moves n slot o me value rows item)
    ∙ each_moves n slot o me (after_check slot value item) (rows_moved n o rows item) items

lowering_moves : (s : State) (n : ℕ) (me : Id) (rows : Rows) (items : List Item) → fold (rows_moved n s.objects) rows (lowering s me items) ≡ fold (rows_moved n s.objects) rows items
lowering_moves s n me rows items = one (lomac_slot s.specs)
  where
    one : (slot : Option ℕ)
        → fold (rows_moved n s.objects) rows (option_map_or (λ slot. each_lowered slot me.0 (value_at s.objects me slot) items) slot items) ≡ fold (rows_moved n s.objects) rows items
    one None = refl
    one (Some slot) = each_moves n slot s.objects me.0 (value_at s.objects me slot) rows items

pub passed_lowering : (s : State) (me : Id) (said : Reply) (items : List Item) → passed said (lowering s me items) ≡ lowering s me (passed said items)
passed_lowering s me (reply.Ok payload) items = refl
passed_lowering s me (reply.Denied errno op item by) items = lowering_taken s me (item - 1) items
passed_lowering s me (reply.Refused errno) items = refl

-- and the first check of a caller finds it as it is
own_lowered : (s : State) (me : Id) (asked : Option Request) (k : CheckOp) (file : Id)
    → lowering s me (item_asking s.objects asked (on me k file) ∷ []) ≡ item_asking s.objects asked (on me k file) ∷ []
unfolding item_asking
own_lowered s me asked k file = one (lomac_slot s.specs)
  where
    item : Item
    item = item_asking s.objects asked (on me k file)

    one : (slot : Option ℕ) → option_map_or (λ slot. each_lowered slot me.0 (value_at s.objects me slot) (item ∷ [])) slot (item ∷ []) ≡ item ∷ []
    one None = refl
    one (Some slot) = two (me.0 == me.0)
      where
        two : (b : Bool) → cond b (record item { subject = with_slot slot (value_at s.objects me slot) item.subject }) item ∷ [] ≡ item ∷ []
        two true =
            ap (λ (label : List LabelValue). let lowered : Item = record item { subject = record item.subject { label = label } } in lowered ∷ [])
            (put_back (label_at s.objects me) slot Unset)
        two false = refl

pub through_lowered : (s : State) (me : Id) (asked : Option Request) (fd : Fd) (checks : List Check) → AreThrough me fd checks
    → lowering s me (map (item_asking s.objects asked) checks) ≡ map (item_asking s.objects asked) checks
through_lowered s me asked fd _ asks_none = one (lomac_slot s.specs)
  where
    one : (slot : Option ℕ) → option_map_or (λ slot. each_lowered slot me.0 (value_at s.objects me slot) []) slot [] ≡ []
    one None = refl
    one (Some slot) = refl
through_lowered s me asked fd _ (asks_read is) = own_lowered s me asked op.VnodeRead fd.file
through_lowered s me asked fd _ (asks_write is) = own_lowered s me asked op.VnodeWrite fd.file

-- the checks of the row of a call move what those of its plan do
plan_moves : (s : State) (task : List ℕ) (line : Line) (said : Reply) (f : Flow)
    → flow_moved s (descriptor_of s task line) (passed said (plan_in s (call_row s task line.child line.call)).items) f
    ≡ flow_moved s (descriptor_of s task line) (passed said (plan_of s task line.child line.call).items) f
plan_moves s task line said f = one (caller_of s task line)
  where
    r : Registration
    r = f.registration

    asked_by : Option Id → Option Request
    asked_by caller = asked_in_effect (row_by s task line.call caller).effect

    raw : Option Id → List Item
    raw caller = map (item_asking s.objects (asked_by caller)) (row_by s task line.call caller).checks

    -- all checks count where none goes through a descriptor
    without : (me : Id) → flow_moved s None (passed said (raw (Some me))) f ≡ flow_moved s None (passed said (lowering s me (raw (Some me)))) f
    without me =
        let items : List Item = passed said (raw (Some me)) in
        let move : List Item → Rows = fold (rows_moved (slot_of r) s.objects) f.sets in
        ap (λ (rows : Rows). record f { sets = rows })
        (ap move (all_pass (counts r s.specs None) items (λ item. refl))
        ∙ sym (lowering_moves s (slot_of r) me f.sets items) ∙ sym (ap move (passed_lowering s me said (raw (Some me))))
        ∙ sym (ap move (all_pass (counts r s.specs None) (passed said (lowering s me (raw (Some me)))) (λ item. refl))))

    through : (me : Id) (found : Option Fd) → descriptor_at s me (about_of s task me line.call).place ≡ found
        → flow_moved s found (passed said (raw (Some me))) f ≡ flow_moved s found (passed said (lowering s me (raw (Some me)))) f
    through me None is = without me
    through me (Some fd) is =
        sym (ap (λ (xs : List Item). flow_moved s (Some fd) (passed said xs) f)
        (through_lowered s me (asked_by (Some me)) fd (row_for s task line.call me).checks (through_descriptor s task me line.call fd is)))

    one : (caller : Option Id)
        → flow_moved s (option_and_then (λ me. descriptor_at s me (about_of s task me line.call).place) caller) (passed said (raw caller)) f
        ≡ flow_moved s (option_and_then (λ me. descriptor_at s me (about_of s task me line.call).place) caller)
        (passed said (option_map_or (λ me. lowering s me (raw caller)) caller (raw caller))) f
    one None = refl
    one (Some me) = through me (descriptor_at s me (about_of s task me line.call).place) refl

-- what a call that is done asks of whose label was found as its plan was made
said_asked : (state : State) (task : List ℕ) (line : Line) (said : Reply) (found : Found) → (is_ok said ≡ true → AreFound state task line.child line.call found)
    → where_done (is_ok said) (option_zip found.target found.request) ≡ relabel_asked state task line said
said_asked state task line (reply.Ok payload) found found_is = zipped state task line.child line.call found (found_is refl)
said_asked state task line (reply.Denied errno op item by) found found_is = refl
said_asked state task line (reply.Refused errno) found found_is = refl

-- The call of an event that may come, whose line is the task's next one in this state

pub done_flow : (s : Script) (run : RunState) (e : Event) (t number : ℕ) (said : Reply) (state state' : State) (task : List ℕ) (line : Line) (f moved : Flow) (fd : Option Fd)
    (request : Option Request) (checks : List Check) (next : ℕ) (caller : Option Id) (asked : Option (Id × Request)) → e ≡ event.Done t number said
    → state ≡ run.state → state' ≡ (run_after s run e).state → task ≡ name_of s t → next_line s run.progress t ≡ Some line
    → map (item_asking state.objects request) checks ≡ passed said (plan_in state (call_row state task line.child line.call)).items
    → moved ≡ flow_moved state fd (map (item_of state.objects) checks) f → fd ≡ descriptor_of state task line → next ≡ state.objects.next
    → caller ≡ caller_of state task line → asked ≡ relabel_asked state task line said
    → flow_settled next state'.objects caller asked moved ≡ flow_after_event s run e f
done_flow s run e t number said state state' task line f moved fd request checks next caller asked is here after_is task_is line_is items_are moved_is fd_is next_is caller_is asked_is =
    line_flow run.state (run_after s run (event.Done t number said)).state (name_of s t) (next_line s run.progress t) line said f moved next state'.objects caller asked line_is
    (moved_is ∙ sym (same_flow state fd request checks f)
    ∙ ap (λ (xs : List Item). flow_moved state fd xs f) items_are
    ∙ ap (λ (x : Option Fd). flow_moved state x (passed said (plan_in state (call_row state task line.child line.call)).items) f) fd_is
    ∙ plan_moves state task line said f
    ∙ ap (λ (x : State). flow_moved x (descriptor_of x task line) (passed said (plan_of x task line.child line.call).items) f) here
    ∙ ap (λ (x : List ℕ). flow_moved run.state (descriptor_of run.state x line) (passed said (plan_of run.state x line.child line.call).items) f) task_is)
    (next_is ∙ ap (λ (x : State). x.objects.next) here)
    (ap (λ (x : State). x.objects) after_is ∙ ap (λ (x : Event). (run_after s run x).state.objects) is)
    (caller_is ∙ ap (λ (x : State). caller_of x task line) here ∙ ap (λ (x : List ℕ). caller_of run.state x line) task_is)
    (asked_is ∙ ap (λ (x : State). relabel_asked x task line said) here ∙ ap (λ (x : List ℕ). relabel_asked run.state x line said) task_is)
    ∙ sym (ap (λ (x : Event). flow_after_event s run x f) is)

pub done_line : (s : Script) (run : RunState) (e : Event) (t number : ℕ) (said : Reply) (line : Line) → e ≡ event.Done t number said → MayCome s run e
    → slice_get (lines_of s t) (number - 1) ≡ Some line → next_line s run.progress t ≡ Some line
done_line s run e t number said line is may found =
    let told : MayCome s run (event.Done t number said) = subst (MayCome s run) is may in
    let place : (progress_at run.progress t).lines ≡ number - 1 = omega (arith, told.1) in
    ap (slice_get (lines_of s t)) place ∙ found

-- the plan of a call that is done ends with no refusal
done_ends : (s : Script) (run : RunState) (e : Event) (t number : ℕ) (said : Reply) (state : State) (task : List ℕ) (line : Line) → e ≡ event.Done t number said → MayCome s run e
    → state ≡ run.state → task ≡ name_of s t → next_line s run.progress t ≡ Some line → is_ok said ≡ true → (plan_of state task line.child line.call).tail ≡ Do
done_ends s run e t number said state task line is may here task_is line_is done =
    let told : MayCome s run (event.Done t number said) = subst (MayCome s run) is may in
    let replied : reply_at s run t (Some line) ≡ Some said = sym (ap (reply_at s run t) line_is) ∙ told.2 in
    let same : said ≡ call_reply run.state (name_of s t) line.child line.call = cc in
    ap (λ (x : State). (plan_of x task line.child line.call).tail) here ∙ ap (λ (x : List ℕ). (plan_of run.state x line.child line.call).tail) task_is
    ∙ done_tail run.state (name_of s t) line.child line.call said same done

-- the outline of the call is that of the task's next
pub done_outline : (s : Script) (run : RunState) (t : ℕ) (state : State) (task : List ℕ) (line : Line) (outline : Outline)
    → state ≡ run.state → task ≡ name_of s t → next_line s run.progress t ≡ Some line
    → IsOutlineOf state task line.child line.call outline → IsNextOutline s run t outline
done_outline s run t state task line outline here task_is line_is is =
    subst (λ (l : Option Line). OutlineAt s run t l outline) (sym line_is)
    (subst (λ (x : List ℕ). IsOutlineOf run.state x line.child line.call outline) task_is
    (subst (λ (x : State). IsOutlineOf x task line.child line.call outline) here is))

-- and so was what it asks of whose label
pub done_asked : (s : Script) (run : RunState) (e : Event) (t number : ℕ) (said : Reply) (state : State) (task : List ℕ) (line : Line) (found : Found)
    → e ≡ event.Done t number said → MayCome s run e → state ≡ run.state → task ≡ name_of s t → next_line s run.progress t ≡ Some line
    → ((plan_of state task line.child line.call).tail ≡ Do → AreFound state task line.child line.call found)
    → where_done (is_ok said) (option_zip found.target found.request) ≡ relabel_asked state task line said
done_asked s run e t number said state task line found is may here task_is line_is found_is =
    said_asked state task line said found (λ done. found_is (done_ends s run e t number said state task line is may here task_is line_is done))

-- What an event makes of the sources by a policy, once its checks have moved some and entities have come or were relabelled
module _ (s : Script) (run : RunState) (t number : ℕ) (said : Reply) (line : Line) (outline : Outline) (line_is : next_line s run.progress t ≡ Some line)
    (is : IsOutlineOf run.state (name_of s t) line.child line.call outline) (found : is_ok said ≡ true → IsNextFound s run t outline.found) where
  abbrev e : Event
  e = event.Done t number said

  found_here : is_ok said ≡ true → AreFound run.state (name_of s t) line.child line.call outline.found
  found_here done = subst (λ (l : Option Line). FoundAt s run t l outline.found) line_is (found done)

  pub call_becomes : (f moved new : Flow) → moved ≡ flow_moved run.state (descriptor_of run.state (name_of s t) line) (map (item_of run.state.objects) (passed said outline.checks)) f
      → IsSettled run.state.objects.next (run_after s run e).state.objects outline.found (is_ok said) moved new
      → IsKept (run_after s run e).state.objects (flow_after_event s run e f) new
  call_becomes f moved new moved_is settled =
      let request : Option Request = outline.found.request in
      let items_are : map (item_asking run.state.objects request) (passed said outline.checks) ≡ passed said (plan_in run.state (call_row run.state (name_of s t) line.child line.call)).items =
      sym (passed_map said (item_asking run.state.objects request) outline.checks) ∙ ap (λ (p : Plan). passed said p.items) is.plan in
      subst (λ (x : Flow). IsKept (run_after s run e).state.objects x new)
      (done_flow s run e t number said run.state (run_after s run e).state (name_of s t) line f moved (descriptor_of run.state (name_of s t) line) request (passed said outline.checks)
      run.state.objects.next outline.found.caller (where_done (is_ok said) (option_zip outline.found.target request))
      refl refl refl refl line_is items_are moved_is refl refl is.caller (said_asked run.state (name_of s t) line said outline.found found_here))
      settled
