-- What the code tells of a call is what happens by it.
use Rattle.std.proofs.Common.{◌≡◌, ℕ, ◌<◌, ◌≤◌, ◌+◌, ◌-◌, ◌==◌, suc, Bool, true, false, cond, List, [], ◌∷◌, ◌++◌, length, take, drop, get_or, map, Option, Some, None, refl, ap, sym, ◌∙◌, subst, arith, append_assoc, append-nil}
use Rattle.std.specs.Prelude.{find, option_and_then, IsSome, IsTrue, nat_eq}
use Rattle.mf_flow.proofs.DoneCalls.{passed_lowering, through_lowered}
use Rattle.mf_flow.proofs.Moves.{same_id}
use Rattle.std.specs.List.{flat_map, range_with_len}
use Rattle.std.specs.Option.{option_map_or}
use Rattle.std.proofs.Math.Seq.{drop-cons}
use Rattle.std.proofs.lemmas.List.{drop_all, length-map, length-take, length-take-le, map-append, take_more}
use Rattle.std.proofs.lemmas.List.FromFn.{map-range_with_len_more}
use Rattle.std.proofs.lemmas.List.Folds.{flat_map-map}
use Rattle.std.proofs.lemmas.Grind.{flat_map-append}
use Rattle.mf_elem.specs.declared.label.LabelValue.{LabelValue}
use Rattle.mf_elem.specs.declared.label.Request.{Request}
use Rattle.mf_item.specs.Item.{Item}
use Rattle.mf_policy.specs.Lowering.{after_check, lomac_slot}
use Rattle.mf_policy.specs.declared.registration.Registration.{Registration}
use Rattle.mf_objects.specs.declared.descriptors.Fd.{Fd}
use Rattle.mf_objects.specs.declared.id.Id.{Id}
use Rattle.mf_objects.specs.Live.{LiveEntity, Entities, id_of, live_at}
use Rattle.mf_objects.specs.Lives.{is_from, value_at}
use Rattle.mf_calls.specs.declared.script.Line.{Line}
use Rattle.mf_calls.specs.declared.script.Script.{Script}
use Rattle.mf_calls.specs.Tasks.{name_of}
use Rattle.mf_plan.specs.declared.outline.Check.{Check}
use Rattle.mf_plan.specs.declared.reply.Reply.{Reply}
use Rattle.mf_plan.specs.declared.reply.Reply.TheVariants as reply
use Rattle.mf_plan.specs.declared.state.State.{State}
use Rattle.mf_plan.specs.Found.{descriptor_at}
use Rattle.mf_plan.specs.Lowering.{each_lowered, lowering, while_lowered, with_slot}
use Rattle.mf_plan.specs.Outline.{item_asking, item_of}
use Rattle.mf_plan.specs.Plan.{call_row, plan_in, plan_of, row_for}
use Rattle.mf_plan.specs.Rows.{about_of}
use Rattle.mf_plan.proofs.Finding.{asked_in_effect, row_by}
use Rattle.mf_plan.proofs.Transfers.{through_descriptor}
use Rattle.mf_perform.specs.OneCall.{after_reply}
use Rattle.mf_perform.specs.Passed.{passed}
use Rattle.mf_perform.specs.Refused.{is_ok}
use Rattle.mf_core.specs.declared.history.Event.{Event}
use Rattle.mf_core.specs.declared.history.Event.TheVariants as event
use Rattle.mf_core.specs.LegalHistory.{RunState, next_line, run_after}
use Rattle.mf_flow.specs.Rows.{where_done, relabel_asked, element_numbered, may_come}
use Rattle.mf_list.specs.Asked.{slot_of}
use Rattle.mf_flow.specs.Transfers.{caller_of, descriptor_of}
use Rattle.mf_chains.specs.declared.happening.Occurrence.{Occurrence}
use Rattle.mf_chains.specs.Happenings.{coming, element_at, coming_at, happened_at_line, happened_in, moving_from, moving_of, relabelling}

-- What a call with that reply asks, it asks where it is done.
pub asked_after : (said : Reply) (asked : Option (Id × Request)) → after_reply said None asked ≡ where_done (is_ok said) asked
asked_after (reply.Ok payload) asked = refl
asked_after (reply.Denied errno op item by) asked = refl
asked_after (reply.Refused errno) asked = refl

-- Entities

pub no_coming : (r : Registration) (o : Entities) (event : ℕ) (maker : Option Id) (n : ℕ) (past : List Occurrence) → live_at o (record { 0 = n }) ≡ None
    → past ≡ past ++ coming_at r o event maker n
no_coming r o event maker n past none =
    sym (ap (λ (found : Option LiveEntity). past ++ coming r event maker (record { 0 = n }) found) none ∙ append-nil past)

pub flat_range_more : {A : Type 0} (f : ℕ → List A) (n : ℕ) → flat_map f (range_with_len 0 (n + 1)) ≡ flat_map f (range_with_len 0 n) ++ f n
flat_range_more {A} f n =
    let same : 0 + n ≡ n = omega arith in
    sym (flat_map-map (λ (xs : List A). xs) f (range_with_len 0 (n + 1)))
    ∙ ap (flat_map (λ (xs : List A). xs)) (map-range_with_len_more f 0 n n same)
    ∙ flat_map-append (λ (xs : List A). xs) (map f (range_with_len 0 n)) (f n ∷ [])
    ∙ ap (λ (xs : List A). xs ++ (f n ++ [])) (flat_map-map (λ (xs : List A). xs) f (range_with_len 0 n))
    ∙ ap (λ (xs : List A). flat_map f (range_with_len 0 n) ++ xs) (append-nil (f n))

pub comes_is : (r : Registration) (o : Entities) (slot to from : ℕ) (p q : Id) → slot ≡ slot_of r → to ≡ p.0 → from ≡ q.0
    → may_come (element_numbered slot o to) (element_numbered slot o from) ≡ may_come (element_at r o p) (element_at r o q)
comes_is r o slot to from p q slot_is to_is from_is =
    ap (λ (n : ℕ). may_come (element_numbered n o to) (element_numbered n o from)) slot_is
    ∙ ap (λ (n : ℕ). may_come (element_numbered (slot_of r) o n) (element_numbered (slot_of r) o from)) to_is
    ∙ ap (λ (n : ℕ). may_come (element_at r o p) (element_numbered (slot_of r) o n)) from_is

pub not_live : (o : Entities) (id : Id) → live_at o id ≡ None → IsSome (live_at o id) → ⊥
not_live o id none some = let no_one : IsSome {T = LiveEntity} None = subst IsSome none some in cc

-- the first from a number on, where it has that number
pub lives_if : (o : Entities) (id first : Id) (a b : ℕ) → a ≡ first.0 → b ≡ id.0 → IsSome (live_at o first) → (nat_eq a b ≡ false → live_at o id ≡ None)
    → (IsTrue (nat_eq a b) → IsSome (live_at o id)) × (IsSome (live_at o id) → IsTrue (nat_eq a b))
lives_if o id first a b a_is b_is some none = one (nat_eq a b) refl
  where
    one : (t : Bool) → nat_eq a b ≡ t → (IsTrue t → IsSome (live_at o id)) × (IsSome (live_at o id) → IsTrue t)
    one true is =
        let same : first ≡ id = same_id first id (sym (ap (λ (n : ℕ). nat_eq n b) a_is ∙ ap (λ (n : ℕ). nat_eq first.0 n) b_is) ∙ is) in
        (λ _. subst (λ (x : Id). IsSome (live_at o x)) same some, λ _. refl)
    one false is = (λ both. cc, λ lives. absurd (not_live o id (none is) lives))

-- Checks

passed_few : {A : Type 0} (said : Reply) (checks : List A) → length (passed said checks) ≤ length checks
passed_few (reply.Ok payload) checks = omega arith
passed_few (reply.Denied errno op item by) checks = omega (arith, length-take (item - 1) checks)
passed_few (reply.Refused errno) checks = omega arith

pub few_passed : {A : Type 0} (said : Reply) (checks some : List A) (most : ℕ) → some ≡ passed said checks → length checks ≤ most → length some ≤ most
few_passed said checks some most are few = omega (arith, passed_few said checks, ap length are, few)

module _ (r : Registration) (s : State) (event : ℕ) where
  -- one check more
  pub moving_push : (fd : Option Fd) (n : ℕ) (items : List Item) (item : Item)
      → moving_from r s fd event n (items ++ item ∷ []) ≡ moving_from r s fd event n items ++ moving_of r s fd event (n + length items) item
  moving_push fd n [] item =
      let place : n ≡ n + 0 = omega arith in
      append-nil (moving_of r s fd event n item) ∙ ap (λ (k : ℕ). moving_of r s fd event k item) place
  moving_push fd n (x ∷ items) item =
      let place : (n + 1) + length items ≡ n + length (x ∷ items) = omega arith in
      ap (λ (xs : List Occurrence). moving_of r s fd event n x ++ xs) (moving_push fd (n + 1) items item)
      ∙ sym (append_assoc (moving_of r s fd event n x) (moving_from r s fd event (n + 1) items) (moving_of r s fd event ((n + 1) + length items) item))
      ∙ ap (λ (k : ℕ). (moving_of r s fd event n x ++ moving_from r s fd event (n + 1) items) ++ moving_of r s fd event k item) place

  -- a check moves the same whatever its request

  same_moving_of : (fd : Option Fd) (asked : Option Request) (n : ℕ) (check : Check)
      → moving_of r s fd event n (item_asking s.objects asked check) ≡ moving_of r s fd event n (item_of s.objects check)
  unfolding item_asking
  same_moving_of None asked n check = refl
  same_moving_of (Some fd) asked n check = refl

  same_moving : (fd : Option Fd) (asked : Option Request) (n : ℕ) (checks : List Check)
      → moving_from r s fd event n (map (item_asking s.objects asked) checks) ≡ moving_from r s fd event n (map (item_of s.objects) checks)
  same_moving fd asked n [] = refl
  same_moving fd asked n (check ∷ checks) =
      ap (λ (xs : List Occurrence). xs ++ moving_from r s fd event (n + 1) (map (item_asking s.objects asked) checks)) (same_moving_of fd asked n check)
      ∙ ap (λ (xs : List Occurrence). moving_of r s fd event n (item_of s.objects check) ++ xs) (same_moving fd asked (n + 1) checks)

  -- and whether or not its caller is lowered

  while_moving : (slot : ℕ) (me : ℕ) (value : LabelValue) (n : ℕ) (item : Item) → moving_of r s None event n (while_lowered slot me value item) ≡ moving_of r s None event n item
  while_moving slot me value n item = one (item.subject.id == me)
    where
      one : (b : Bool) → moving_of r s None event n (cond b (record item { subject = with_slot slot value item.subject }) item) ≡ moving_of r s None event n item
      one true = refl
      one false = refl

  each_moving : (slot : ℕ) (me : ℕ) (value : LabelValue) (n : ℕ) (items : List Item)
      → moving_from r s None event n (each_lowered slot me value items) ≡ moving_from r s None event n items
  each_moving slot me value n [] = refl
  each_moving slot me value n (item ∷ items) =
      ap (λ (xs : List Occurrence). xs ++ moving_from r s None event (n + 1) (each_lowered slot me (after_check slot value item) items)) (while_moving slot me value n item)
      ∙ ap (λ (xs : List Occurrence). moving_of r s None event n item ++ xs) (each_moving slot me (after_check slot value item) (n + 1) items)

  lowering_moving : (me : Id) (n : ℕ) (items : List Item) → moving_from r s None event n (lowering s me items) ≡ moving_from r s None event n items
  lowering_moving me n items = one (lomac_slot s.specs)
    where
      one : (slot : Option ℕ)
          → moving_from r s None event n (option_map_or (λ slot. each_lowered slot me.0 (value_at s.objects me slot) items) slot items) ≡ moving_from r s None event n items
      one None = refl
      one (Some slot) = each_moving slot me.0 (value_at s.objects me slot) n items

-- the checks of the row of a call move what those of its plan do
plan_moving : (r : Registration) (s : State) (event : ℕ) (task : List ℕ) (line : Line) (said : Reply)
    → moving_from r s (descriptor_of s task line) event 1 (passed said (plan_in s (call_row s task line.child line.call)).items)
    ≡ moving_from r s (descriptor_of s task line) event 1 (passed said (plan_of s task line.child line.call).items)
plan_moving r s event task line said = one (caller_of s task line)
  where
    asked_by : Option Id → Option Request
    asked_by caller = asked_in_effect (row_by s task line.call caller).effect

    raw : Option Id → List Item
    raw caller = map (item_asking s.objects (asked_by caller)) (row_by s task line.call caller).checks

    without : (me : Id) → moving_from r s None event 1 (passed said (raw (Some me))) ≡ moving_from r s None event 1 (passed said (lowering s me (raw (Some me))))
    without me =
        sym (lowering_moving r s event me 1 (passed said (raw (Some me)))) ∙ sym (ap (moving_from r s None event 1) (passed_lowering s me said (raw (Some me))))

    through : (me : Id) (found : Option Fd) → descriptor_at s me (about_of s task me line.call).place ≡ found
        → moving_from r s found event 1 (passed said (raw (Some me))) ≡ moving_from r s found event 1 (passed said (lowering s me (raw (Some me))))
    through me None is = without me
    through me (Some fd) is =
        sym (ap (λ (xs : List Item). moving_from r s (Some fd) event 1 (passed said xs))
        (through_lowered s me (asked_by (Some me)) fd (row_for s task line.call me).checks (through_descriptor s task me line.call fd is)))

    one : (caller : Option Id)
        → moving_from r s (option_and_then (λ me. descriptor_at s me (about_of s task me line.call).place) caller) event 1 (passed said (raw caller))
        ≡ moving_from r s (option_and_then (λ me. descriptor_at s me (about_of s task me line.call).place) caller) event 1
        (passed said (option_map_or (λ me. lowering s me (raw caller)) caller (raw caller)))
    one None = refl
    one (Some me) = through me (descriptor_at s me (about_of s task me line.call).place) refl

-- Calls

module _ (r : Registration) (event : ℕ) (said : Reply) (line : Line) where
  abbrev told : State → Option Fd → List Item → Entities → Option Id → ℕ → Option (Id × Request) → List Occurrence
  told state fd items o caller next asked = moving_from r state fd event 1 items ++ (coming_at r o event caller next ++ relabelling r o event asked)

  told_line : (state state' : State) (task : List ℕ) (fd : Option Fd) (request : Option Request) (checks : List Check) (caller : Option Id) (next : ℕ) (asked : Option (Id × Request))
      → map (item_asking state.objects request) checks ≡ passed said (plan_in state (call_row state task line.child line.call)).items
      → fd ≡ descriptor_of state task line → next ≡ state.objects.next → caller ≡ caller_of state task line → asked ≡ relabel_asked state task line said
      → told state fd (map (item_of state.objects) checks) state'.objects caller next asked ≡ happened_at_line r state state' event task (Some line) said
  told_line state state' task fd request checks caller next asked items_are fd_is next_is caller_is asked_is =
      let o : Entities = state'.objects in
      ap (λ (xs : List Occurrence). xs ++ (coming_at r o event caller next ++ relabelling r o event asked))
      (sym (same_moving r state event fd (request) 1 checks) ∙ ap (moving_from r state fd event 1) items_are
      ∙ ap (λ (x : Option Fd). moving_from r state x event 1 (passed said (plan_in state (call_row state task line.child line.call)).items)) fd_is
      ∙ plan_moving r state event task line said)
      ∙ ap (λ (x : Option Id). moving_from r state (descriptor_of state task line) event 1 (passed said (plan_of state task line.child line.call).items)
      ++ (coming_at r o event x next ++ relabelling r o event asked)) caller_is
      ∙ ap (λ (k : ℕ). moving_from r state (descriptor_of state task line) event 1 (passed said (plan_of state task line.child line.call).items)
      ++ (coming_at r o event (caller_of state task line) k ++ relabelling r o event asked)) next_is
      ∙ ap (λ (x : Option (Id × Request)). moving_from r state (descriptor_of state task line) event 1 (passed said (plan_of state task line.child line.call).items)
      ++ (coming_at r o event (caller_of state task line) state.objects.next ++ relabelling r o event x)) asked_is

pub done_happened : (s : Script) (r : Registration) (run : RunState) (e : Event) (t number event_number : ℕ) (said : Reply) (state state' : State) (task : List ℕ) (line : Line) (fd : Option Fd)
    (request : Option Request) (checks : List Check) (next : ℕ) (caller : Option Id) (asked : Option (Id × Request)) → e ≡ event.Done t number said
    → state ≡ run.state → state' ≡ (run_after s run e).state → task ≡ name_of s t → next_line s run.progress t ≡ Some line
    → map (item_asking state.objects request) checks ≡ passed said (plan_in state (call_row state task line.child line.call)).items
    → fd ≡ descriptor_of state task line → next ≡ state.objects.next → caller ≡ caller_of state task line → asked ≡ relabel_asked state task line said
    → moving_from r state fd event_number 1 (map (item_of state.objects) checks) ++ (coming_at r state'.objects event_number caller next ++ relabelling r state'.objects event_number asked)
    ≡ happened_in s r run event_number e
done_happened s r run e t number event_number said state state' task line fd request checks next caller asked is here after_is task_is line_is items_are fd_is next_is caller_is asked_is =
    told_line r event_number said line state state' task fd request checks caller next asked items_are fd_is next_is caller_is asked_is
    ∙ ap (λ (x : State). happened_at_line r x state' event_number task (Some line) said) here
    ∙ ap (λ (x : State). happened_at_line r run.state x event_number task (Some line) said) (after_is ∙ ap (λ (x : Event). (run_after s run x).state) is)
    ∙ ap (λ (x : List ℕ). happened_at_line r run.state (run_after s run (event.Done t number said)).state event_number x (Some line) said) task_is
    ∙ ap (λ (x : Option Line). happened_at_line r run.state (run_after s run (event.Done t number said)).state event_number (name_of s t) x said) (sym line_is)
    ∙ ap (happened_in s r run event_number) (sym is)

-- the loop over checks
pub moves_more : (r : Registration) (s : State) (fd : Option Fd) (event : ℕ) (old past past' : List Occurrence) (checks : List Check) (n : ℕ) (check d : Check) → n < length checks
    → past ≡ old ++ moving_from r s fd event 1 (map (item_of s.objects) (take n checks)) → past' ≡ past ++ moving_of r s fd event (n + 1) (item_of s.objects check)
    → check ≡ get_or checks n d → past' ≡ old ++ moving_from r s fd event 1 (map (item_of s.objects) (take (n + 1) checks))
moves_more r s fd event old past past' checks n check d within so_far more is =
    let first : List Item = map (item_of s.objects) (take n checks) in
    let one : Item = item_of s.objects check in
    let taken : map (item_of s.objects) (take (n + 1) checks) ≡ first ++ one ∷ [] =
    ap (map (item_of s.objects)) (take_more checks n d within ∙ ap (λ (x : Check). take n checks ++ x ∷ []) (sym is)) ∙ map-append (item_of s.objects) (take n checks) (check ∷ []) in
    let place : n + 1 ≡ 1 + length first = omega (arith, length-map (take n checks) (item_of s.objects), length-take-le n checks (omega (arith, within))) in
    more ∙ ap (λ (xs : List Occurrence). xs ++ moving_of r s fd event (n + 1) one) so_far
    ∙ append_assoc old (moving_from r s fd event 1 first) (moving_of r s fd event (n + 1) one)
    ∙ ap (λ (k : ℕ). old ++ (moving_from r s fd event 1 first ++ moving_of r s fd event k one)) place
    ∙ ap (λ (xs : List Occurrence). old ++ xs) (sym (moving_push r s event fd 1 first one))
    ∙ ap (λ (xs : List Item). old ++ moving_from r s fd event 1 xs) (sym taken)

pub at_number : (o : Entities) (a b : ℕ) (found : Option Id) → a ≡ b → found ≡ id_of (find (is_from a) o.live) → found ≡ id_of (find (is_from b) o.live)
at_number o a b found same is = is ∙ ap (λ (n : ℕ). id_of (find (is_from n) o.live)) same

pub same_test : (a b c : ℕ) → b ≡ c → nat_eq a b ≡ false → nat_eq a c ≡ false
same_test a b c same is = sym (ap (nat_eq a) same) ∙ is
