-- Movements hand on sources.
use Rattle.std.proofs.Common.{◌≡◌, ◌⊎◌, inl, inr, Bool, true, false, cond, List, [], ◌∷◌, ◌++◌, Option, Some, None, refl, ap, sym, ◌∙◌, subst}
use Rattle.std.specs.Prelude.{IsSome, filter, fold}
use Rattle.std.specs.List.{AllByRecursion}
use Rattle.std.specs.Option.{option_map_or}
use Rattle.std.specs.Ordering.{is_eq, match_ordering}
use Rattle.std.specs.declared.cmp.Ordering.{Ordering}
use Rattle.std.specs.declared.cmp.Ordering.TheVariants.{Less, Equal, Greater}
use Rattle.std.specs.Cmp.Lexicographic.{nat_list_cmp_total}
use Rattle.mf_elem.specs.declared.elem.Elem.{Elem}
use Rattle.mf_elem.specs.Label.{is_equal}
use Rattle.mf_item.specs.Item.{Item}
use Rattle.mf_item.specs.declared.view.ObjectView.{ObjectView}
use Rattle.mf_policy.specs.Operations.{row_of}
use Rattle.mf_policy.specs.declared.operations.Movement.{Movement}
use Rattle.mf_policy.specs.declared.operations.Movement.TheVariants.{Still, ToSubject, ToObject, BothWays}
use Rattle.mf_policy.specs.declared.registration.Registration.{Registration}
use Rattle.mf_objects.specs.declared.id.Id.{Id}
use Rattle.mf_objects.specs.Live.{Entities, LiveEntity, label_at, live_at}
use Rattle.mf_plan.specs.declared.state.State.{State}
use Rattle.mf_plan.specs.Plan.{plan_of}
use Rattle.mf_perform.specs.Passed.{passed}
use Rattle.mf_flow.specs.Order.{elem_cmp, place_of, union}
use Rattle.mf_calls.specs.declared.script.Script.{Script}
use Rattle.mf_calls.specs.declared.script.Line.{Line}
use Rattle.mf_calls.specs.Tasks.{name_of}
use Rattle.mf_core.specs.declared.history.Event.{Event}
use Rattle.mf_core.specs.declared.history.Event.TheVariants as event
use Rattle.mf_core.specs.LegalHistory.{RunState, opening_run, run_after, run_state_of}
use Rattle.mf_flow.specs.Sources.{sets_after_line, sets_after, sets_after_event, sources_of, Sets, element_by, held_by, moved, moved_by, moves_between, moving, received, relabels, set_after}
use Rattle.mf_flow.specs.Transfers.{caller_of, counts, descriptor_of}
use Rattle.mf_flow.proofs.Across.{is_id, opening_sets}
use Rattle.mf_flow.proofs.Moves.{is_itself, same_id}
use Rattle.mf_moves.specs.Handed.{EventHandsOver, Has, IsOpen, LeadOpen, Stays, StaysIn}
use Rattle.mf_moves.specs.Laws.{DoneHandsOn, LeadsHandOn, MovementsHandOn}
use Rattle.mf_moves.specs.Moves.{Lead, moves_by, moves_of}

-- Sets

has_with : (x : Elem) (set : List Elem) (e : Elem) → ((ys : List Elem) → Has set e ⊎ Has ys e → Has (union set ys) e) → (ys : List Elem) → Has (x ∷ set) e ⊎ Has ys e
    → Has (union (x ∷ set) ys) e
has_with x set e rest [] (inl has) = has
has_with x set e rest [] (inr has) = absurd has
has_with x set e rest (y ∷ ys) has = one (elem_cmp x y) refl has (has_with x set e rest ys)
  where
    one : (o : Ordering) → elem_cmp x y ≡ o → Has (x ∷ set) e ⊎ Has (y ∷ ys) e → (Has (x ∷ set) e ⊎ Has ys e → Has (union (x ∷ set) ys) e)
        → Has (match_ordering o (x ∷ union set (y ∷ ys)) (x ∷ union set ys) (y ∷ union (x ∷ set) ys)) e
    one Less is (inl (inl same)) again = inl same
    one Less is (inl (inr has)) again = inr (rest (y ∷ ys) (inl has))
    one Less is (inr has) again = inr (rest (y ∷ ys) (inr has))
    one Equal is (inl (inl same)) again = inl same
    one Equal is (inl (inr has)) again = inr (rest ys (inl has))
    one Equal is (inr (inl same)) again = inl (ap is_eq (nat_list_cmp_total.congr (place_of x) (place_of y) (place_of e) is) ∙ same)
    one Equal is (inr (inr has)) again = inr (rest ys (inr has))
    one Greater is (inl has) again = inr (again (inl has))
    one Greater is (inr (inl same)) again = inl same
    one Greater is (inr (inr has)) again = inr (again (inr has))

has_union : (set others : List Elem) (e : Elem) → Has set e ⊎ Has others e → Has (union set others) e
has_union [] others e (inl has) = absurd has
has_union [] others e (inr has) = has
has_union (x ∷ set) others e has = has_with x set e (λ ys has. has_union set ys e has) others has

held_open : (element : Option Elem) (own : Elem) (set : List Elem) (e : Elem) → element ≡ Some own → is_equal own ≡ false → Has set e → Has (held_by element set) e
held_open element own set e is other has =
    subst (λ (x : Option Elem). Has (held_by x set) e) (sym is) (subst (λ (b : Bool). Has (cond b [] set) e) (sym other) has)

module _ (r : Registration) (o : Entities) (e : Elem) where
  -- what is received comes to one who isn't exempt
  comes_to : (to : Id) (given : List Elem) (sets : Sets) → IsOpen r o to → Has given e → Has (received r o to given sets to) e
  comes_to to given sets free has =
      subst (λ (b : Bool). Has (cond b (held_by (element_by r (label_at o to)) (union (sets to) given)) (sets to)) e) (sym (is_itself to))
      (held_open (element_by r (label_at o to)) free.element (union (sets to) given) e free.labelled free.other (has_union (sets to) given e (inr has)))

  -- and takes nothing away from one who isn't
  stays_with : (to at : Id) (given : List Elem) (sets : Sets) → IsOpen r o at → Has (sets at) e → Has (received r o to given sets at) e
  stays_with to at given sets free has = one (is_id at to) refl
    where
      here : at ≡ to → Has (held_by (element_by r (label_at o to)) (union (sets to) given)) e
      here is =
          subst (λ (x : Id). Has (held_by (element_by r (label_at o x)) (union (sets x) given)) e) is
          (held_open (element_by r (label_at o at)) free.element (union (sets at) given) e free.labelled free.other (has_union (sets at) given e (inl has)))

      one : (b : Bool) → is_id at to ≡ b → Has (cond b (held_by (element_by r (label_at o to)) (union (sets to) given)) (sets at)) e
      one true is = here (same_id at to is)
      one false is = has

  -- one check more: where the element is then, and how the movements go on from there
  abbrev GoesOn : List (Id × Id) → Id → Sets → Type 0
  GoesOn rest to sets = (at : Id) × IsOpen r o at × LeadOpen r o rest at to × Has (sets at) e

  between : (sets : Sets) (subject object : Id) (movement : Movement) (rest : List (Id × Id)) (from to : Id) → IsOpen r o from
      → LeadOpen r o (moves_between subject object movement ++ rest) from to → Has (sets from) e
      → GoesOn rest to (moved r o sets (moves_between subject object movement))
  between sets subject object Still rest from to free lead has = (from, free, lead, has)
  between sets subject object ToSubject rest from to free (inl lead) has = (from, free, lead, stays_with subject from (sets object) sets free has)
  between sets subject object ToSubject rest from to free (inr next) has =
      (subject, next.1, next.2, comes_to subject (sets object) sets next.1 (subst (λ (x : Id). Has (sets x) e) (sym next.0) has))
  between sets subject object ToObject rest from to free (inl lead) has = (from, free, lead, stays_with object from (sets subject) sets free has)
  between sets subject object ToObject rest from to free (inr next) has =
      (object, next.1, next.2, comes_to object (sets subject) sets next.1 (subst (λ (x : Id). Has (sets x) e) (sym next.0) has))
  between sets subject object BothWays rest from to free (inl (inl lead)) has = (
    from,
    free,
    lead,
    stays_with object from (sets subject) (received r o subject (sets object) sets) free (stays_with subject from (sets object) sets free has),
  )
  between sets subject object BothWays rest from to free (inl (inr next)) has = (
    object,
    next.1,
    next.2,
    comes_to object (sets subject) (received r o subject (sets object) sets) next.1 (subst (λ (x : Id). Has (sets x) e) (sym next.0) has),
  )
  between sets subject object BothWays rest from to free (inr (is, own, inl lead)) has = (
    subject,
    own,
    lead,
    stays_with object subject (sets subject) (received r o subject (sets object) sets) own
        (comes_to subject (sets object) sets own (subst (λ (x : Id). Has (sets x) e) (sym is) has)),
  )
  between sets subject object BothWays rest from to free (inr (is, own, inr next)) has = (
    object,
    next.1,
    next.2,
    stays_with object object (sets subject) (received r o subject (sets object) sets) next.1
        (stays_with subject object (sets object) sets next.1 (subst (λ (x : Id). Has (sets x) e) (sym is) has)),
  )

  by_item : (item : Item) (rest : List (Id × Id)) (sets : Sets) (from to : Id) → IsOpen r o from → LeadOpen r o (moves_by item ++ rest) from to → Has (sets from) e
      → GoesOn rest to (moved_by r o sets item)
  by_item item rest sets from to free lead has = one item.object lead
    where
      subject : Id
      subject = record { 0 = item.subject.id }

      one : (object : Option ObjectView)
          → LeadOpen r o (option_map_or (λ (v : ObjectView). moves_between (record { 0 = item.subject.id }) (record { 0 = v.id }) (row_of item.op).movement) object [] ++ rest) from to
          → GoesOn rest to (option_map_or (λ (v : ObjectView). moved r o sets (moves_between (record { 0 = item.subject.id }) (record { 0 = v.id }) (row_of item.op).movement)) object sets)
      one None lead = (from, free, lead, has)
      one (Some v) lead = between sets (record { 0 = item.subject.id }) (record { 0 = v.id }) (row_of item.op).movement rest from to free lead has

  all_handed : (items : List Item) (sets : Sets) (from to : Id) → IsOpen r o from → LeadOpen r o (moves_of items) from to → Has (sets from) e
      → Has (fold (moved_by r o) sets items to) e
  all_handed [] sets from to free is has = subst (λ (x : Id). Has (sets x) e) is has
  all_handed (item ∷ items) sets from to free lead has =
      let on = by_item item (moves_of items) sets from to free lead has in
      all_handed items (moved_by r o sets item) on.0 to on.1 on.2 on.3

-- what lives on and isn't relabelled keeps what it has after the checks
kept_after : (r : Registration) (before after : Option LiveEntity) (relabelled : Bool) (set maker : List Elem) (e : Elem) → IsSome before → IsSome after → relabelled ≡ false
    → Has set e → Has (set_after r before after relabelled set maker) e
kept_after r None after relabelled set maker e lived lives none has = cc
kept_after r (Some old) None relabelled set maker e lived lives none has = cc
kept_after r (Some old) (Some new) true set maker e lived lives none has = cc
kept_after r (Some old) (Some new) false set maker e lived lives none has = has

pub hand_on : MovementsHandOn
hand_on r s s' task line reply sets from to e free lead stays has =
    kept_after r (live_at s.objects to) (live_at s'.objects to) (relabels r s task line reply to) (fold (moved_by r s.objects) sets (moving r s task line reply) to)
    (option_map_or (fold (moved_by r s.objects) sets (moving r s task line reply)) (caller_of s task line) []) e stays.before stays.after stays.kept
    (all_handed r s.objects e (moving r s task line reply) sets from to free lead has)

-- Where all count, and nobody to whom they move is exempt

all_kept : (test : Item → Bool) (items : List Item) → AllByRecursion (λ item. test item ≡ true) items → filter test items ≡ items
all_kept test [] all = refl
all_kept test (item ∷ items) all =
    ap (λ (b : Bool). cond b (item ∷ filter test items) (filter test items)) all.0 ∙ ap (λ (rest : List Item). item ∷ rest) (all_kept test items all.1)

lead_open : (r : Registration) (o : Entities) (moves : List (Id × Id)) (from to : Id) → AllByRecursion (λ move. IsOpen r o move.1) moves → Lead moves from to
    → LeadOpen r o moves from to
lead_open r o [] from to all is = is
lead_open r o (move ∷ moves) from to all (inl lead) = inl (lead_open r o moves from to all.1 lead)
lead_open r o (move ∷ moves) from to all (inr next) = inr (next.0, all.0, lead_open r o moves move.1 to all.1 next.1)

pub leads_on : LeadsHandOn
leads_on r s s' task line reply sets from to e free over stays has =
    let items : List Item = passed reply (plan_of s task line.child line.call).items in
    hand_on r s s' task line reply sets from to e free
    (subst (λ (xs : List Item). LeadOpen r s.objects (moves_of xs) from to) (sym (all_kept (counts r s.specs (descriptor_of s task line)) items over.counted))
    (lead_open r s.objects (moves_of items) from to over.free over.lead))
    stays has

-- In an event

pub event_on : (s : Script) (r : Registration) (run : RunState) (sets : Sets) (x : Event) (from to : Id) (e : Elem) → IsOpen r run.state.objects from
    → EventHandsOver s r run x from to → StaysIn s r run x to → Has (sets from) e → Has (sets_after_event s r run x sets to) e
event_on s r run sets (event.Done t n reply) from to e free over stays has =
    let after : State = (run_after s run (event.Done t n reply)).state in
    let kept : (next : Option Line) → Bool = λ next. option_map_or (λ (line : Line). relabels r run.state (name_of s t) line reply to) next false in
    subst (λ (next : Option Line). Has (sets_after_line r run.state after (name_of s t) next reply sets to) e) (sym over.1)
    (leads_on r run.state after (name_of s t) over.0 reply sets from to e free over.2
    (subst (λ (next : Option Line). Stays run.state after (kept next) to) over.1 stays) has)
event_on s r run sets (event.Enter t) from to e free over stays has = absurd over
event_on s r run sets (event.Leave t) from to e free over stays has = absurd over
event_on s r run sets (event.Changed t n reply) from to e free over stays has = absurd over

pub after_more : (s : Script) (r : Registration) (run : RunState) (sets : Sets) (es more : List Event)
    → sets_after s r run sets (es ++ more) ≡ sets_after s r (fold (run_after s) run es) (sets_after s r run sets es) more
after_more s r run sets [] more = refl
after_more s r run sets (x ∷ es) more = after_more s r (run_after s run x) (sets_after_event s r run x sets) es more

pub done_on : DoneHandsOn
done_on s r es x from to e free over stays has =
    subst (λ (sets : Sets). Has (sets to) e) (sym (after_more s r (opening_run s) (opening_sets s r) es (x ∷ [])))
    (event_on s r (run_state_of s es) (sources_of s r es) x from to e free over stays has)
