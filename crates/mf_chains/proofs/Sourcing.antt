-- The elements whose chains are kept for a party are its sources.
use Rattle.std.proofs.Common.{◌≡◌, ℕ, ◌<◌, ◌+◌, zero, suc, Bool, true, false, cond, ◌&&◌, nat_eq, List, [], ◌∷◌, ◌++◌, reverse, Option, Some, None, refl, ap, sym, ◌∙◌, arith, append_assoc, append-nil}
use Rattle.std.specs.Prelude.{fold}
use Rattle.std.specs.List.{flat_map, range_with_len}
use Rattle.std.proofs.lemmas.Bool.Decides.{nat_tests}
use Rattle.std.proofs.lemmas.List.{reverse-append}
use Rattle.mf_core.proofs.LookedUp.{reply_at, state_at}
use Rattle.mf_elem.specs.declared.elem.Elem.{Elem}
use Rattle.mf_elem.specs.declared.label.Request.{Request}
use Rattle.mf_elem.specs.Label.{is_equal}
use Rattle.mf_item.specs.Item.{Item}
use Rattle.mf_policy.specs.declared.registration.Registration.{Registration}
use Rattle.mf_policy.specs.declared.spec.Spec.{Spec}
use Rattle.mf_objects.proofs.Entities.{label_of as values_of}
use Rattle.mf_objects.proofs.Finding.{find_given}
use Rattle.mf_objects.specs.declared.id.Id.{Id}
use Rattle.mf_objects.specs.Live.{LiveEntity, Entities, live_at}
use Rattle.mf_objects.specs.Population.{IsRising}
use Rattle.mf_calls.specs.declared.script.Line.{Line}
use Rattle.mf_calls.specs.declared.script.Script.{Script}
use Rattle.mf_calls.specs.Tasks.{name_of}
use Rattle.mf_plan.specs.declared.state.State.{State}
use Rattle.mf_plan.specs.declared.reply.Reply.{Reply}
use Rattle.mf_plan.specs.Names.{caller_name}
use Rattle.mf_plan.specs.Plan.{plan_of}
use Rattle.mf_plan.specs.Views.{process_named}
use Rattle.mf_perform.specs.OneCall.{call_reply, call_state, observed}
use Rattle.mf_perform.specs.Passed.{passed}
use Rattle.mf_perform.proofs.Observing.{HasObserved, ObservingKeeps, checks_passed, observing, observing_keeps}
use Rattle.mf_perform.proofs.Observing.HasObserved.{absent as never, unlowered, lowered}
use Rattle.mf_perform.proofs.StateChange.{Deed, StateChange}
use Rattle.mf_perform.proofs.EntityChange.{EntityChange, ChangesEntities, changes_entities}
use Rattle.mf_perform.proofs.EntityChange.EntityChange.{absent, stays, gets_label, comes, goes}
use Rattle.mf_core.specs.declared.history.Event.{Event}
use Rattle.mf_core.specs.declared.history.Event.TheVariants as event
use Rattle.mf_core.specs.Opening.{opening_state}
use Rattle.mf_core.specs.Progress.{progress_at}
use Rattle.mf_core.specs.LegalHistory.{RunState, next_line, MayCome, run_after, AllMayCome}
use Rattle.mf_flow.specs.Rows.{relabel_asked}
use Rattle.mf_flow.specs.Sources.{Sets, element_by, has_element, held_by, moving, own_source, set_after, sets_after, sets_after_event, sets_after_line}
use Rattle.mf_flow.specs.Order.{union}
use Rattle.mf_flow.specs.Transfers.{caller_of, descriptor_of}
use Rattle.mf_flow.proofs.Across.{element_at, gives_element, is_id, moved_by_all, opening_sets, set_of}
use Rattle.mf_flow.proofs.Answering.{IsOf}
use Rattle.mf_flow.proofs.Elements.{all_labelled}
use Rattle.mf_flow.proofs.Flowing.{IsFlowing, deed_of, event_flowing, line_change, line_objects, same_before}
use Rattle.mf_flow.proofs.Moves.{same_id}
use Rattle.mf_flow.proofs.Orders.{FlowPolicy}
use Rattle.mf_flow.proofs.Relabels.{relabel_state}
use Rattle.mf_flow.proofs.RowsKept.{fit_held}
use Rattle.mf_chains.specs.declared.happening.Occurrence.{Occurrence}
use Rattle.mf_chains.specs.Happenings.{coming, coming_at, happened_at_line, happened_from, happened_in, labelled, moving_from, own_element, relabelling}
use Rattle.mf_chains.proofs.Elements.{first_held, held, items_tied, labelled_itself, labelled_other}
use Rattle.mf_chains.proofs.Telling.{flat_range_more}

-- what each live party holds is its sources
abbrev pub Tied : Entities → Sets → List Occurrence → Type 0
Tied o sets xs = (id : Id) (e : LiveEntity) → live_at o id ≡ Some e → held (reverse xs) id ≡ sets id

-- One label more

last_held : (xs : List Occurrence) (x : Occurrence) (id : Id) → held (reverse (xs ++ x ∷ [])) id ≡ held (x ∷ reverse xs) id
last_held xs x id = ap (λ (ys : List Occurrence). held ys id) (reverse-append xs (x ∷ []))

nothing_more : (xs : List Occurrence) (id : Id) → held (reverse (xs ++ [])) id ≡ held (reverse xs) id
nothing_more xs id = ap (λ (ys : List Occurrence). held (reverse ys) id) (append-nil xs)

own_alone : (element : Option Elem) (sets : Id → List Elem) → first_held (own_element element) None sets ≡ own_source element
own_alone None sets = refl
own_alone (Some own) sets = one (is_equal own)
  where
    one : (b : Bool) → first_held (cond b None (Some own)) None sets ≡ cond b [] (own ∷ [])
    one true = refl
    one false = refl

own_first : (element : Option Elem) (from : Id) (sets : Id → List Elem) → first_held (own_element element) (Some from) sets ≡ held_by element (union (own_source element) (sets from))
own_first None from sets = refl
own_first (Some own) from sets = one (is_equal own)
  where
    one : (b : Bool) → first_held (cond b None (Some own)) (Some from) sets ≡ cond b [] (union (cond b [] (own ∷ [])) (sets from))
    one true = refl
    one false = refl

module _ (r : Registration) (k : ℕ) (xs : List Occurrence) (id : Id) where
  coming_other : (maker : Option Id) (n : ℕ) (found : Option LiveEntity) → nat_eq id.0 n ≡ false → held (reverse (xs ++ coming r k maker (record { 0 = n }) found)) id ≡ held (reverse xs) id
  coming_other maker n None other = nothing_more xs id
  coming_other maker n (Some e) other =
      last_held xs (labelled k (record { 0 = n }) (element_by r e.label) maker) id
      ∙ labelled_other k 0 (record { 0 = n }) (own_element (element_by r e.label)) maker (reverse xs) id other

  coming_itself : (maker : Option Id) (n : ℕ) (found : Option LiveEntity) (e : LiveEntity) → nat_eq id.0 n ≡ true → found ≡ Some e
      → held (reverse (xs ++ coming r k maker (record { 0 = n }) found)) id ≡ first_held (own_element (element_by r e.label)) maker (held (reverse xs))
  coming_itself maker n found e same is =
      ap (λ (x : Option LiveEntity). held (reverse (xs ++ coming r k maker (record { 0 = n }) x)) id) is
      ∙ last_held xs (labelled k (record { 0 = n }) (element_by r e.label) maker) id
      ∙ labelled_itself k 0 (record { 0 = n }) (own_element (element_by r e.label)) maker (reverse xs) id same

  relabelled_is : (o : Entities) (asked : Option (Id × Request))
      → held (reverse (xs ++ relabelling r o k asked)) id ≡ cond (gives_element r asked id) (own_source (element_at r o id)) (held (reverse xs) id)
  relabelled_is o None = nothing_more xs id
  relabelled_is o (Some asked) = one (has_element r.module asked.1) (is_id id asked.0) refl
    where
      new : Occurrence
      new = labelled k asked.0 (element_at r o asked.0) None

      one : (b same : Bool) → is_id id asked.0 ≡ same
          → held (reverse (xs ++ cond b (labelled k asked.0 (element_at r o asked.0) None ∷ []) [])) id ≡ cond (is_id id asked.0 && b) (own_source (element_at r o id)) (held (reverse xs) id)
      one true true is =
          last_held xs (labelled k asked.0 (element_at r o asked.0) None) id
          ∙ labelled_itself k 0 asked.0 (own_element (element_at r o asked.0)) None (reverse xs) id is
          ∙ own_alone (element_at r o asked.0) (held (reverse xs))
          ∙ ap (λ (x : Id). own_source (element_at r o x)) (sym (same_id id asked.0 is))
          ∙ sym (ap (λ (b : Bool). cond (b && true) (own_source (element_at r o id)) (held (reverse xs) id)) is)
      one true false is =
          last_held xs (labelled k asked.0 (element_at r o asked.0) None) id
          ∙ labelled_other k 0 asked.0 (own_element (element_at r o asked.0)) None (reverse xs) id is
          ∙ sym (ap (λ (b : Bool). cond (b && true) (own_source (element_at r o id)) (held (reverse xs) id)) is)
      one false same is =
          nothing_more xs id ∙ sym (ap (λ (b : Bool). cond b (own_source (element_at r o id)) (held (reverse xs) id)) (never (is_id id asked.0)))
        where
          never : (b : Bool) → b && false ≡ false
          never true = refl
          never false = refl

-- The opening

opening_below : (r : Registration) (o : Entities) (n : ℕ) (id : Id) (e : LiveEntity) → live_at o id ≡ Some e → id.0 < n
    → held (reverse (flat_map (coming_at r o 0 None) (range_with_len 0 n))) id ≡ own_source (element_by r e.label)
opening_below r o zero id e live below = absurd (omega (arith, below))
opening_below r o (suc n) id e live below =
    let next : suc n ≡ n + 1 = omega arith in
    ap (λ (m : ℕ). held (reverse (flat_map (coming_at r o 0 None) (range_with_len 0 m))) id) next
    ∙ ap (λ (ys : List Occurrence). held (reverse ys) id) (flat_range_more (coming_at r o 0 None) n)
    ∙ one (nat_eq id.0 n) refl (λ less. opening_below r o n id e live less)
  where
    first : List Occurrence
    first = flat_map (coming_at r o 0 None) (range_with_len 0 n)

    one : (b : Bool) → nat_eq id.0 n ≡ b → (id.0 < n → held (reverse (flat_map (coming_at r o 0 None) (range_with_len 0 n))) id ≡ own_source (element_by r e.label))
        → held (reverse (flat_map (coming_at r o 0 None) (range_with_len 0 n) ++ coming_at r o 0 None n)) id ≡ own_source (element_by r e.label)
    one true is rest =
        let here : id.0 ≡ n = grind (arith, nat_tests) in
        let there : live_at o (record { 0 = n }) ≡ Some e = ap (λ (m : ℕ). live_at o (record { 0 = m })) (sym here) ∙ live in
        coming_itself r 0 (flat_map (coming_at r o 0 None) (range_with_len 0 n)) id None n (live_at o (record { 0 = n })) e is there
        ∙ own_alone (element_by r e.label) (held (reverse (flat_map (coming_at r o 0 None) (range_with_len 0 n))))
    one false is rest =
        let less : id.0 < n = grind (arith, nat_tests, below) in
        coming_other r 0 (flat_map (coming_at r o 0 None) (range_with_len 0 n)) id None n (live_at o (record { 0 = n })) is ∙ rest less

pub opening_tied : (s : Script) (r : Registration) → IsRising 0 (opening_state s).objects.next (opening_state s).objects.live
    → Tied (opening_state s).objects (opening_sets s r) (flat_map (coming_at r (opening_state s).objects 0 None) (range_with_len 0 (opening_state s).objects.next))
opening_tied s r rising id e live =
    let o : Entities = (opening_state s).objects in
    opening_below r o o.next id e live (find_given id e 0 o.next o.live live rising)
    ∙ sym (ap (λ (found : Option LiveEntity). own_source (element_by r (values_of found))) live)

-- Calls

was_live : {caller : Option Id} {checks : List Item} (s : State) (id : Id) (found seen : Option LiveEntity) (e : LiveEntity) → HasObserved caller checks s id found seen → seen ≡ Some e
    → (old : LiveEntity) × (found ≡ Some old)
was_live s id _ _ e never is = cc
was_live s id _ _ e (unlowered old) is = (old, refl)
was_live s id _ _ e (lowered slot old mine at process sees) is = (old, refl)

module _ (r : Registration) (by : Deed) (s1 s' : State) (n k : ℕ) (xs : List Occurrence) (sets : Sets) (rising1 : IsRising 0 s1.objects.next s1.objects.live) (step : ChangesEntities by s1 s')
    (number_is : s1.objects.next ≡ n) (tied : Tied s1.objects sets xs) (alone : (asked : Id × Request) → by.asked ≡ Some asked → s'.objects.next ≡ s1.objects.next) where
  abbrev all : List Occurrence
  all = (xs ++ coming_at r s'.objects k by.caller n) ++ relabelling r s'.objects k by.asked

  stayed : (id : Id) (old new : LiveEntity) → live_at s1.objects id ≡ Some old → live_at s'.objects id ≡ Some new
      → held (reverse ((xs ++ coming_at r s'.objects k by.caller n) ++ relabelling r s'.objects k by.asked)) id
      ≡ set_after r (Some old) (Some new) (gives_element r by.asked id) (sets id) (set_of by.caller sets)
  stayed id old new was is =
      let below : id.0 < s1.objects.next = find_given id old 0 s1.objects.next s1.objects.live was rising1 in
      let other : nat_eq id.0 n ≡ false = apart id.0 n (omega (arith, below, number_is)) in
      relabelled_is r k (xs ++ coming_at r s'.objects k by.caller n) id s'.objects by.asked
      ∙ ap (λ (set : List Elem). cond (gives_element r by.asked id) (own_source (element_at r s'.objects id)) set)
      (coming_other r k xs id by.caller n (live_at s'.objects (record { 0 = n })) other ∙ tied id old was)
      ∙ ap (λ (found : Option LiveEntity). cond (gives_element r by.asked id) (own_source (element_by r (values_of found))) (sets id)) is
    where
      apart : (a b : ℕ) → a < b → nat_eq a b ≡ false
      apart a b less = grind (arith, nat_tests)

  each_tied : (id : Id) (found found' : Option LiveEntity) (e : LiveEntity) → live_at s1.objects id ≡ found → live_at s'.objects id ≡ found' → EntityChange by s1 id found found' → found' ≡ Some e
      → held (reverse ((xs ++ coming_at r s'.objects k by.caller n) ++ relabelling r s'.objects k by.asked)) id
      ≡ set_after r found found' (gives_element r by.asked id) (sets id) (set_of by.caller sets)
  each_tied id _ _ e was is absent now = cc
  each_tied id _ _ e was is (stays old new kind label) now = stayed id old new was is
  each_tied id _ _ e was is (gets_label old new request asked allowed what label) now = stayed id old new was is
  each_tied id _ _ e was is (comes new maker from made number live process label) now =
      let given : id.0 < s'.objects.next = find_given id new 0 s'.objects.next s'.objects.live is step.rising in
      let none : by.asked ≡ None = nobody by.asked refl given in
      let there : nat_eq id.0 n ≡ true = equal id.0 n (number ∙ number_is) in
      let found : live_at s'.objects (record { 0 = n }) ≡ Some new = ap (λ (m : ℕ). live_at s'.objects (record { 0 = m })) (sym (number ∙ number_is)) ∙ is in
      ap (λ (asked : Option (Id × Request)). held (reverse ((xs ++ coming_at r s'.objects k by.caller n) ++ relabelling r s'.objects k asked)) id) none
      ∙ nothing_more (xs ++ coming_at r s'.objects k by.caller n) id
      ∙ coming_itself r k xs id by.caller n (live_at s'.objects (record { 0 = n })) new there found
      ∙ ap (λ (who : Option Id). first_held (own_element (element_by r new.label)) who (held (reverse xs))) made
      ∙ own_first (element_by r new.label) from (held (reverse xs))
      ∙ ap (λ (set : List Elem). held_by (element_by r new.label) (union (own_source (element_by r new.label)) set)) (tied from maker live)
      ∙ sym (ap (λ (who : Option Id). held_by (element_by r new.label) (union (own_source (element_by r new.label)) (set_of who sets))) made)
    where
      nobody : (asked : Option (Id × Request)) → by.asked ≡ asked → id.0 < s'.objects.next → by.asked ≡ None
      nobody None is given = is
      nobody (Some one) is given = absurd (omega (arith, number, given, alone one is))

      equal : (a b : ℕ) → a ≡ b → nat_eq a b ≡ true
      equal a b same = grind (arith, nat_tests)
  each_tied id _ _ e was is (goes old given) now = cc

line_tied : (p : FlowPolicy) (r : Registration) (spec : Spec) (s s' : State) (k : ℕ) (task : List ℕ) (line : Line) (said : Reply) (sets : Sets) (xs : List Occurrence)
    → call_reply s task line.child line.call ≡ said → s' ≡ call_state s task line.child line.call
    → StateChange (deed_of s task line said) (observed s task line.child line.call) s' → IsFlowing p r spec s sets → Tied s.objects sets xs
    → Tied s'.objects (sets_after_line r s s' task (Some line) said sets) (xs ++ happened_at_line r s s' k task (Some line) said)
line_tied p r spec s s' k task line said sets xs is after_is shape flowing tied id e live =
    ap (λ (ys : List Occurrence). held (reverse ys) id) (sym (append_assoc xs moves (comes_in ++ relabels)) ∙ sym (append_assoc (xs ++ moves) comes_in relabels))
    ∙ each_tied r by s1 s' s.objects.next k (xs ++ moves) moved keeps.rooted.rising step keeps.next seen
    (λ asked one. ap (λ (x : State). x.objects.next) (after_is ∙ relabel_state s task line.child line.call said asked is one))
    id (live_at s1.objects id) (live_at s'.objects id) e refl refl (step.each id) live
    ∙ same_before r s id (live_at s.objects id) (live_at s1.objects id) (live_at s'.objects id) (gives_element r by.asked id) (moved id) (set_of by.caller moved) (keeps.each id)
  where
    by : Deed
    by = deed_of s task line said

    s1 : State
    s1 = observed s task line.child line.call

    keeps : ObservingKeeps (process_named s.objects (caller_name task line.child)) (checks_passed s task line.child line.call) s s1
    keeps = observing_keeps s s1 (observing s task line.child line.call flowing.held.kept.rooted) flowing.held.kept.rooted

    step : ChangesEntities by s1 s'
    step = changes_entities by s1 s' shape keeps.rooted.rising

    moved : Sets
    moved = moved_by_all r s.objects sets (moving r s task line said)

    moves : List Occurrence
    moves = moving_from r s (descriptor_of s task line) k 1 (passed said (plan_of s task line.child line.call).items)

    comes_in : List Occurrence
    comes_in = coming_at r s'.objects k (caller_of s task line) s.objects.next

    relabels : List Occurrence
    relabels = relabelling r s'.objects k (relabel_asked s task line said)

    seen : Tied s1.objects moved (xs ++ moves)
    seen other x there =
        let was = was_live s other (live_at s.objects other) (live_at s1.objects other) x (keeps.each other) there in
        items_tied r s (all_labelled r spec s flowing.held) (descriptor_of s task line) k sets xs 1 (passed said (plan_of s task line.child line.call).items)
        (fit_held p r s.objects sets flowing.fit) tied other was.0 was.1

-- Events

done_tied : (p : FlowPolicy) (r : Registration) (spec : Spec) (s : Script) (run : RunState) (k t : ℕ) (next : Option Line) (said : Reply) (sets : Sets) (xs : List Occurrence)
    → reply_at s run t next ≡ Some said → IsFlowing p r spec run.state sets → Tied run.state.objects sets xs
    → Tied (state_at s run t next).objects (sets_after_line r run.state (state_at s run t next) (name_of s t) next said sets)
    (xs ++ happened_at_line r run.state (state_at s run t next) k (name_of s t) next said)
done_tied p r spec s run k t None said sets xs is flowing tied = cc
done_tied p r spec s run k t (Some line) said sets xs is flowing tied =
    let same : call_reply run.state (name_of s t) line.child line.call ≡ said = cc in
    line_tied p r spec run.state (state_at s run t (Some line)) k (name_of s t) line said sets xs same refl (line_change s run t line said same flowing.held.kept.rooted) flowing tied

event_tied : (p : FlowPolicy) (r : Registration) (spec : Spec) (s : Script) (run : RunState) (k : ℕ) (e : Event) (sets : Sets) (xs : List Occurrence) → MayCome s run e
    → IsFlowing p r spec run.state sets → Tied run.state.objects sets xs
    → Tied (run_after s run e).state.objects (sets_after_event s r run e sets) (xs ++ happened_in s r run k e)
event_tied p r spec s run k (event.Enter t) sets xs may flowing tied = λ id e live. nothing_more xs id ∙ tied id e live
event_tied p r spec s run k (event.Done t line said) sets xs may flowing tied = done_tied p r spec s run k t (next_line s run.progress t) said sets xs may.2 flowing tied
event_tied p r spec s run k (event.Leave t) sets xs may flowing tied = λ id e live. nothing_more xs id ∙ tied id e live
event_tied p r spec s run k (event.Changed t line said) sets xs may flowing tied = λ id e live.
    nothing_more xs id
    ∙ tied id e (sym (ap (λ (o : Entities). live_at o id) (line_objects s run t (progress_at run.progress t).phase (next_line s run.progress t) may.1)) ∙ live)

pub run_tied : (p : FlowPolicy) (r : Registration) (spec : Spec) (s : Script) (run : RunState) (k : ℕ) (es : List Event) (sets : Sets) (xs : List Occurrence) → IsOf p r → AllMayCome s run es
    → IsFlowing p r spec run.state sets → Tied run.state.objects sets xs
    → Tied (fold (run_after s) run es).state.objects (sets_after s r run sets es) (xs ++ happened_from s r run k es)
run_tied p r spec s run k [] sets xs of may flowing tied id e live = nothing_more xs id ∙ tied id e live
run_tied p r spec s run k (x ∷ es) sets xs of may flowing tied id e live =
    ap (λ (ys : List Occurrence). held (reverse ys) id) (sym (append_assoc xs (happened_in s r run k x) (happened_from s r (run_after s run x) (k + 1) es)))
    ∙ run_tied p r spec s (run_after s run x) (k + 1) es (sets_after_event s r run x sets) (xs ++ happened_in s r run k x) of may.1
    (event_flowing p r spec s run x sets of may.0 flowing) (event_tied p r spec s run k x sets xs may.0 flowing tied) id e live
