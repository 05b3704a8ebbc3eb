-- The elements whose chains are kept, after what moves.
use Rattle.std.proofs.Common.{◌≡◌, ℕ, ◌+◌, Bool, true, false, cond, ◌&&◌, nat_eq, List, [], ◌∷◌, ◌++◌, map, reverse, Option, Some, None, refl, ap, sym, ◌∙◌, subst, append_assoc, append-nil}
use Rattle.std.specs.Prelude.{filter, fold}
use Rattle.std.specs.Option.{option_map_or}
use Rattle.std.specs.Ordering.{match_ordering, ordering_reverse}
use Rattle.std.specs.declared.cmp.Ordering.{Ordering}
use Rattle.std.specs.declared.cmp.Ordering.TheVariants.{Less, Equal, Greater}
use Rattle.std.specs.Cmp.Lexicographic.{nat_list_cmp_total}
use Rattle.std.proofs.lemmas.List.{reverse-append}
use Rattle.mf_elem.specs.declared.elem.Elem.{Elem}
use Rattle.mf_elem.specs.Label.{is_equal}
use Rattle.mf_item.specs.Item.{Item}
use Rattle.mf_item.specs.declared.view.ObjectView.{ObjectView}
use Rattle.mf_policy.specs.Operations.{row_of}
use Rattle.mf_policy.specs.declared.operations.Movement.{Movement}
use Rattle.mf_policy.specs.declared.operations.Movement.TheVariants.{Still, ToSubject, ToObject, BothWays}
use Rattle.mf_policy.specs.declared.registration.Registration.{Registration}
use Rattle.mf_objects.proofs.Entities.{label_of as values_of}
use Rattle.mf_objects.specs.declared.descriptors.Fd.{Fd}
use Rattle.mf_objects.specs.declared.id.Id.{Id}
use Rattle.mf_objects.specs.Live.{LiveEntity, Entities, live_at}
use Rattle.mf_plan.specs.declared.state.State.{State}
use Rattle.mf_flow.specs.Order.{elem_cmp, place_of, union}
use Rattle.mf_flow.specs.Rows.{may_come}
use Rattle.mf_flow.specs.Sources.{Sets, element_by, held_by, moved, moved_by, moves_between, received}
use Rattle.mf_flow.specs.Transfers.{counts}
use Rattle.mf_flow.proofs.Across.{element_at, is_id}
use Rattle.mf_flow.proofs.Bounds.{is_exempt}
use Rattle.mf_flow.proofs.Elements.{HasElement}
use Rattle.mf_flow.proofs.Moves.{is_itself, same_id}
use Rattle.mf_flow.proofs.Placing.{union_nothing}
use Rattle.mf_flow.proofs.RowsKept.{AllHeld, AllLabelled}
use Rattle.mf_chains.specs.declared.happening.Happening.{Happening}
use Rattle.mf_chains.specs.declared.happening.Happening.TheVariants.{Labelled, Moves}
use Rattle.mf_chains.specs.declared.happening.Occurrence.{Occurrence}
use Rattle.mf_chains.specs.declared.chain.Step.{Step}
use Rattle.mf_chains.specs.Chains.{giver_of, loses, maker_for, own_of, step_at}
use Rattle.mf_chains.specs.Happenings.{is_to_object, is_to_subject, moving_between, moving_from, moving_of, moving_with}
use Rattle.mf_chains.specs.Kept.{Kept, handed_on, kept, own_kept, stepped, with_lacking}
use Rattle.mf_chains.proofs.Receiving.{labelled_after, moved_after}
use Rattle.mf_chains.proofs.Joining.{lacking_nothing}

abbrev pub elements : List Kept → List Elem
elements set = map (λ (k : Kept). k.element) set

with_one : (x : Kept) (set : List Kept) → ((ys : List Kept) → elements (with_lacking set ys) ≡ union (elements set) (elements ys)) → (ys : List Kept)
    → elements (with_lacking (x ∷ set) ys) ≡ union (elements (x ∷ set)) (elements ys)
with_one x set rest [] = refl
with_one x set rest (y ∷ ys) = one (elem_cmp x.element y.element) (with_one x set rest ys)
  where
    one : (o : Ordering) → elements (with_lacking (x ∷ set) ys) ≡ union (elements (x ∷ set)) (elements ys)
        → elements (match_ordering o (x ∷ with_lacking set (y ∷ ys)) (x ∷ with_lacking set ys) (y ∷ with_lacking (x ∷ set) ys))
        ≡ match_ordering o (x.element ∷ union (elements set) (elements (y ∷ ys))) (x.element ∷ union (elements set) (elements ys)) (y.element ∷ union (elements (x ∷ set)) (elements ys))
    one Less again = ap (λ (es : List Elem). x.element ∷ es) (rest (y ∷ ys))
    one Equal again = ap (λ (es : List Elem). x.element ∷ es) (rest ys)
    one Greater again = ap (λ (es : List Elem). y.element ∷ es) again

elements_joined : (set others : List Kept) → elements (with_lacking set others) ≡ union (elements set) (elements others)
elements_joined [] others = refl
elements_joined (x ∷ set) others = with_one x set (elements_joined set) others

elements_stepped : (step : Step) (set : List Kept) → elements (map (stepped step) set) ≡ elements set
elements_stepped step [] = refl
elements_stepped step (k ∷ set) = ap (λ (es : List Elem). k.element ∷ es) (elements_stepped step set)

-- what a party holds
abbrev pub held : List Occurrence → Id → List Elem
held xs p = elements (kept xs p)

-- A label

abbrev pub first_held : Option Elem → Option Id → (Id → List Elem) → List Elem
first_held None maker sets = []
first_held (Some own) None sets = own ∷ []
first_held (Some own) (Some from) sets = union (own ∷ []) (sets from)

first_elements : (own : Option Elem) (maker : Option Id) (q : Id) (event : ℕ) (before : Id → List Kept) (step : Step)
    → elements (with_lacking (own_kept own q event) (handed_on (maker_for own maker) before step)) ≡ first_held own maker (λ p. elements (before p))
first_elements None maker q event before step = refl
first_elements (Some own) None q event before step = refl
first_elements (Some own) (Some from) q event before step =
    elements_joined (record { element = own; chain = _ } ∷ []) (map (stepped step) (before from)) ∙ ap (union (own ∷ [])) (elements_stepped step (before from))

pub labelled_itself : (event item : ℕ) (q : Id) (own : Option Elem) (maker : Option Id) (older : List Occurrence) (p : Id) → nat_eq p.0 q.0 ≡ true
    → held (record { event = event; item = item; what = Labelled q own maker } ∷ older) p ≡ first_held own maker (held older)
labelled_itself event item q own maker older p is =
    ap elements (labelled_after event item q own maker (kept older) p
    ∙ ap (λ (b : Bool). cond b (with_lacking (own_kept own q event) (handed_on (maker_for own maker) (kept older) (record { party = q; event = event; item = item }))) (kept older p)) is)
    ∙ first_elements own maker q event (kept older) (record { party = q; event = event; item = item })

pub labelled_other : (event item : ℕ) (q : Id) (own : Option Elem) (maker : Option Id) (older : List Occurrence) (p : Id) → nat_eq p.0 q.0 ≡ false
    → held (record { event = event; item = item; what = Labelled q own maker } ∷ older) p ≡ held older p
labelled_other event item q own maker older p is =
    ap elements (labelled_after event item q own maker (kept older) p
    ∙ ap (λ (b : Bool). cond b (with_lacking (own_kept own q event) (handed_on (maker_for own maker) (kept older) (record { party = q; event = event; item = item }))) (kept older p)) is)

-- What moves

abbrev joined : (Id → List Elem) → Id → Option Id → List Elem
joined sets p None = sets p
joined sets p (Some giver) = union (sets p) (sets giver)

moved_held : (x : Occurrence) (older : List Occurrence) (p : Id) (subject object : Id) (to_subject to_object : Bool) → x.what ≡ Moves subject object to_subject to_object
    → held (x ∷ older) p ≡ joined (held older) p (giver_of (Moves subject object to_subject to_object) p)
moved_held x older p subject object to_subject to_object is =
    ap elements (moved_after x giver (kept older) p (ap (λ (w : Happening). own_of w p) is) (ap (λ (w : Happening). loses w p) is) (ap (λ (w : Happening). giver_of w p) is)) ∙ one giver
  where
    giver : Option Id
    giver = giver_of (Moves subject object to_subject to_object) p

    one : (g : Option Id) → elements (with_lacking (kept older p) (handed_on g (kept older) (step_at x p))) ≡ joined (held older) p g
    one None = ap elements (lacking_nothing (kept older p))
    one (Some from) = elements_joined (kept older p) (map (stepped (step_at x p)) (kept older from)) ∙ ap (union (held older p)) (elements_stepped (step_at x p) (kept older from))

-- a set with itself is itself
pub same_place : (x : Elem) → elem_cmp x x ≡ Equal
same_place x = one (elem_cmp x x) (nat_list_cmp_total.antisymm (place_of x) (place_of x))
  where
    one : (o : Ordering) → o ≡ ordering_reverse o → o ≡ Equal
    one Less is = cc
    one Equal is = refl
    one Greater is = cc

pub with_itself : (set : List Elem) → union set set ≡ set
with_itself [] = refl
with_itself (x ∷ set) =
    ap (λ (o : Ordering). match_ordering o (x ∷ union set (x ∷ set)) (x ∷ union set set) (x ∷ union (x ∷ set) set)) (same_place x)
    ∙ ap (λ (es : List Elem). x ∷ es) (with_itself set)

module _ (r : Registration) (o : Entities) (labelled : AllLabelled r o) where
  abbrev Tied : Sets → List Occurrence → Type 0
  Tied sets xs = (id : Id) (e : LiveEntity) → live_at o id ≡ Some e → held (reverse xs) id ≡ sets id

  -- what a party then has to which something comes from another
  comes_to : (own : Elem) (b : Bool) → is_equal own ≡ b → (mine set theirs given : List Elem) → (b ≡ true → set ≡ []) → mine ≡ set → (from : Option Elem)
      → (is_exempt from ≡ true → given ≡ []) → ((x : Elem) → from ≡ Some x → theirs ≡ given)
      → cond (may_come (Some own) from) (union mine theirs) mine ≡ held_by (Some own) (union set given)
  comes_to own true equal mine set theirs given none is None gone told = rw equal (is ∙ none refl)
  comes_to own true equal mine set theirs given none is (Some x) gone told = rw equal (is ∙ none refl)
  comes_to own false plain mine set theirs given none is None gone told = rw plain (is ∙ sym (ap (union set) (gone refl) ∙ union_nothing set))
  comes_to own false plain mine set theirs given none is (Some x) gone told =
      rw plain (ap (λ (es : List Elem). union es theirs) is ∙ ap (union set) (told x refl))

  pub came : (sets : Sets) (xs : List Occurrence) (to from : Id) (e : LiveEntity) → AllHeld r o sets → Tied sets xs → live_at o to ≡ Some e
      → cond (may_come (element_at r o to) (element_at r o from)) (union (held (reverse xs) to) (held (reverse xs) from)) (held (reverse xs) to)
      ≡ held_by (element_at r o to) (union (sets to) (sets from))
  came sets xs to from e all tied live =
      let has : HasElement (element_by r e.label) = labelled to e live in
      let is : element_at r o to ≡ Some has.0 = ap (λ (found : Option LiveEntity). element_by r (values_of found)) live ∙ has.1 in
      subst (λ (element : Option Elem). cond (may_come element (element_at r o from)) (union (held (reverse xs) to) (held (reverse xs) from)) (held (reverse xs) to) ≡ held_by element (union (sets to) (sets from)))
      (sym is)
      (comes_to has.0 (is_equal has.0) refl (held (reverse xs) to) (sets to) (held (reverse xs) from) (sets from)
      (subst (λ (element : Option Elem). is_exempt element ≡ true → sets to ≡ []) is (all to)) (tied to e live) (element_at r o from) (all from) (given_by (live_at o from) refl))
    where
      given_by : (found : Option LiveEntity) → live_at o from ≡ found → (x : Elem) → element_by r (values_of found) ≡ Some x → held (reverse xs) from ≡ sets from
      given_by None is x some = cc
      given_by (Some giver) is x some = tied from giver is

  -- one way
  one_way : (sets : Sets) (xs : List Occurrence) (to from p : Id) (e : LiveEntity) → AllHeld r o sets → Tied sets xs → live_at o p ≡ Some e
      → joined (held (reverse xs)) p (cond (may_come (element_at r o to) (element_at r o from) && is_id p to) (Some from) None) ≡ received r o to (sets from) sets p
  one_way sets xs to from p e all tied live = one (is_id p to) refl (may_come (element_at r o to) (element_at r o from)) refl
    where
      one : (b : Bool) → is_id p to ≡ b → (comes : Bool) → may_come (element_at r o to) (element_at r o from) ≡ comes
          → joined (held (reverse xs)) p (cond (comes && b) (Some from) None) ≡ cond b (held_by (element_at r o to) (union (sets to) (sets from))) (sets p)
      one true is comes mays =
          let here : p ≡ to = same_id p to is in
          two comes ∙ ap (λ (q : Id). cond comes (union (held (reverse xs) q) (held (reverse xs) from)) (held (reverse xs) q)) here
          ∙ ap (λ (b : Bool). cond b (union (held (reverse xs) to) (held (reverse xs) from)) (held (reverse xs) to)) (sym mays)
          ∙ came sets xs to from e all tied (ap (live_at o) (sym here) ∙ live)
        where
          two : (c : Bool) → joined (held (reverse xs)) p (cond (c && true) (Some from) None) ≡ cond c (union (held (reverse xs) p) (held (reverse xs) from)) (held (reverse xs) p)
          two true = refl
          two false = refl
      one false is true mays = tied p e live
      one false is false mays = tied p e live

  abbrev both_giver : Id → Id → Id → Option Id
  both_giver subject object p =
      cond (may_come (element_at r o subject) (element_at r o object) && is_id p subject) (Some object)
      (cond (may_come (element_at r o object) (element_at r o subject) && is_id p object) (Some subject) None)

  none_there : (may b : Bool) → b ≡ false → may && b ≡ false
  none_there true b is = is
  none_there false b is = refl

  -- where only the object is this party
  there_only : (sets : Sets) (subject object p : Id) → is_id p object ≡ true → is_id p subject ≡ false
      → received r o object (sets subject) sets p ≡ received r o object (sets subject) (received r o subject (sets object) sets) p
  there_only sets subject object p is is' =
      let here : p ≡ object = same_id p object is in
      let other : is_id object subject ≡ false = ap (λ (x : Id). is_id x subject) (sym here) ∙ is' in
      ap (λ (b : Bool). cond b (held_by (element_at r o object) (union (sets object) (sets subject))) (sets p)) is
      ∙ sym (ap (λ (b : Bool). cond b (held_by (element_at r o object) (union (received r o subject (sets object) sets object) (sets subject))) (received r o subject (sets object) sets p)) is
      ∙ ap (λ (b : Bool). held_by (element_at r o object) (union (cond b (held_by (element_at r o subject) (union (sets subject) (sets object))) (sets object)) (sets subject))) other)

  -- a party with itself
  self_set : (own : Elem) (b : Bool) → is_equal own ≡ b → (mine set : List Elem) → (b ≡ true → set ≡ []) → mine ≡ set
      → cond (may_come (Some own) (Some own)) (union mine mine) (cond (may_come (Some own) (Some own)) (union mine mine) mine)
      ≡ held_by (Some own) (union (held_by (Some own) (union set set)) set)
  self_set own true equal mine set none is = rw equal (is ∙ none refl)
  self_set own false plain mine set none is =
      rw plain (ap (λ (es : List Elem). union es es) is ∙ sym (ap (λ (es : List Elem). union es set) (with_itself set)))

  with_self : (sets : Sets) (xs : List Occurrence) (p : Id) (e : LiveEntity) → AllHeld r o sets → Tied sets xs → live_at o p ≡ Some e
      → joined (held (reverse xs)) p (both_giver p p p) ≡ received r o p (sets p) (received r o p (sets p) sets) p
  with_self sets xs p e all tied live =
      let has : HasElement (element_by r e.label) = labelled p e live in
      let is : element_at r o p ≡ Some has.0 = ap (λ (found : Option LiveEntity). element_by r (values_of found)) live ∙ has.1 in
      let m : Bool = may_come (element_at r o p) (element_at r o p) in
      ap (λ (b : Bool). joined (held (reverse xs)) p (cond (m && b) (Some p) (cond (m && b) (Some p) None))) (is_itself p)
      ∙ two m
      ∙ subst (λ (element : Option Elem). cond (may_come element element) (union (held (reverse xs) p) (held (reverse xs) p)) (cond (may_come element element) (union (held (reverse xs) p) (held (reverse xs) p)) (held (reverse xs) p))
      ≡ held_by element (union (held_by element (union (sets p) (sets p))) (sets p))) (sym is)
      (self_set has.0 (is_equal has.0) refl (held (reverse xs) p) (sets p) (subst (λ (element : Option Elem). is_exempt element ≡ true → sets p ≡ []) is (all p)) (tied p e live))
      ∙ sym (ap (λ (b : Bool). cond b (held_by (element_at r o p) (union (cond b (held_by (element_at r o p) (union (sets p) (sets p))) (sets p)) (sets p)))
      (cond b (held_by (element_at r o p) (union (sets p) (sets p))) (sets p))) (is_itself p))
    where
      two : (c : Bool) → joined (held (reverse xs)) p (cond (c && true) (Some p) (cond (c && true) (Some p) None))
          ≡ cond c (union (held (reverse xs) p) (held (reverse xs) p)) (cond c (union (held (reverse xs) p) (held (reverse xs) p)) (held (reverse xs) p))
      two true = refl
      two false = refl

  -- both ways
  both_way : (sets : Sets) (xs : List Occurrence) (subject object p : Id) (e : LiveEntity) → AllHeld r o sets → Tied sets xs → live_at o p ≡ Some e
      → joined (held (reverse xs)) p (both_giver subject object p) ≡ received r o object (sets subject) (received r o subject (sets object) sets) p
  both_way sets xs subject object p e all tied live = one (is_id p object) refl (is_id p subject) refl
    where
      one : (b : Bool) → is_id p object ≡ b → (a : Bool) → is_id p subject ≡ a
          → joined (held (reverse xs)) p (both_giver subject object p) ≡ received r o object (sets subject) (received r o subject (sets object) sets) p
      one true is true is' =
          subst (λ (x : Id). joined (held (reverse xs)) p (both_giver subject x p) ≡ received r o x (sets subject) (received r o subject (sets x) sets) p) (same_id p object is)
          (subst (λ (x : Id). joined (held (reverse xs)) p (both_giver x p p) ≡ received r o p (sets x) (received r o x (sets p) sets) p) (same_id p subject is')
          (with_self sets xs p e all tied live))
      one true is false is' =
          ap (joined (held (reverse xs)) p) (ap (λ (b : Bool). cond b (Some object) (cond (may_come (element_at r o object) (element_at r o subject) && is_id p object) (Some subject) None))
          (none_there (may_come (element_at r o subject) (element_at r o object)) (is_id p subject) is'))
          ∙ one_way sets xs object subject p e all tied live
          ∙ there_only sets subject object p is is'
      one false is a is' =
          ap (joined (held (reverse xs)) p) (ap (λ (b : Bool). cond (may_come (element_at r o subject) (element_at r o object) && is_id p subject) (Some object) (cond b (Some subject) None))
          (none_there (may_come (element_at r o object) (element_at r o subject)) (is_id p object) is))
          ∙ one_way sets xs subject object p e all tied live
          ∙ sym (ap (λ (b : Bool). cond b (held_by (element_at r o object) (union (received r o subject (sets object) sets object) (sets subject))) (received r o subject (sets object) sets p)) is)

  -- the check of an operation
  between_tied : (sets : Sets) (xs : List Occurrence) (event number : ℕ) (subject object : Id) (movement : Movement) → AllHeld r o sets → Tied sets xs
      → Tied (moved r o sets (moves_between subject object movement)) (xs ++ moving_between r o event number movement subject object ∷ [])
  between_tied sets xs event number subject object movement all tied p e live =
      ap (λ (ys : List Occurrence). held ys p) (reverse-append xs (x ∷ [])) ∙ moved_held x (reverse xs) p subject object _ _ refl ∙ one movement
    where
      x : Occurrence
      x = moving_between r o event number movement subject object

      one : (m : Movement)
          → joined (held (reverse xs)) p
          (giver_of (Moves subject object (is_to_subject m && may_come (element_at r o subject) (element_at r o object)) (is_to_object m && may_come (element_at r o object) (element_at r o subject))) p)
          ≡ moved r o sets (moves_between subject object m) p
      one Still = tied p e live
      one ToSubject = one_way sets xs subject object p e all tied live
      one ToObject = one_way sets xs object subject p e all tied live
      one BothWays = both_way sets xs subject object p e all tied live

-- A party that is exempt from sources has none, after what moves

nothing_held : (element : Option Elem) (set : List Elem) → is_exempt element ≡ true → held_by element set ≡ []
nothing_held None set exempt = refl
nothing_held (Some own) set equal = rw equal refl

module _ (r : Registration) (o : Entities) where
  received_held : (to : Id) (given : List Elem) (sets : Sets) → AllHeld r o sets → AllHeld r o (received r o to given sets)
  received_held to given sets all id = one (is_id id to) refl
    where
      one : (b : Bool) → is_id id to ≡ b → is_exempt (element_at r o id) ≡ true → cond b (held_by (element_at r o to) (union (sets to) given)) (sets id) ≡ []
      one true same exempt =
          nothing_held (element_at r o to) (union (sets to) given) (ap (λ (x : Id). is_exempt (element_at r o x)) (sym (same_id id to same)) ∙ exempt)
      one false other exempt = all id exempt

  between_held : (sets : Sets) (subject object : Id) (movement : Movement) → AllHeld r o sets → AllHeld r o (moved r o sets (moves_between subject object movement))
  between_held sets subject object Still all = all
  between_held sets subject object ToSubject all = received_held subject (sets object) sets all
  between_held sets subject object ToObject all = received_held object (sets subject) sets all
  between_held sets subject object BothWays all = received_held object (sets subject) (received r o subject (sets object) sets) (received_held subject (sets object) sets all)

module _ (r : Registration) (s : State) (labelled : AllLabelled r s.objects) (fd : Option Fd) (event : ℕ) where
  abbrev pub TiedIn : Sets → List Occurrence → Type 0
  TiedIn sets xs = (id : Id) (e : LiveEntity) → live_at s.objects id ≡ Some e → held (reverse xs) id ≡ sets id

  -- checks that passed
  pub items_tied : (sets : Sets) (xs : List Occurrence) (n : ℕ) (items : List Item) → AllHeld r s.objects sets → TiedIn sets xs
      → TiedIn (fold (moved_by r s.objects) sets (filter (counts r s.specs fd) items)) (xs ++ moving_from r s fd event n items)
  items_tied sets xs n [] all tied = λ id e live. ap (λ (ys : List Occurrence). held (reverse ys) id) (append-nil xs) ∙ tied id e live
  items_tied sets xs n (item ∷ items) all tied =
      subst (λ (ys : List Occurrence). TiedIn (fold (moved_by r s.objects) sets (filter (counts r s.specs fd) (item ∷ items))) ys)
      (append_assoc xs (moving_of r s fd event n item) (moving_from r s fd event (n + 1) items))
      (one (counts r s.specs fd item) (λ more ys held_more tied_more. items_tied more ys (n + 1) items held_more tied_more))
    where
      one : (b : Bool) → ((more : Sets) (ys : List Occurrence) → AllHeld r s.objects more → TiedIn more ys → TiedIn (fold (moved_by r s.objects) more (filter (counts r s.specs fd) items)) (ys ++ moving_from r s fd event (n + 1) items))
          → TiedIn (fold (moved_by r s.objects) sets (cond b (item ∷ filter (counts r s.specs fd) items) (filter (counts r s.specs fd) items)))
          ((xs ++ cond b (moving_with r s.objects event n item item.object) []) ++ moving_from r s fd event (n + 1) items)
      one false next = next sets (xs ++ []) all (λ id e live. ap (λ (ys : List Occurrence). held (reverse ys) id) (append-nil xs) ∙ tied id e live)
      one true next = two item.object
        where
          two : (object : Option ObjectView)
              → TiedIn (fold (moved_by r s.objects)
              (option_map_or (λ object. moved r s.objects sets (moves_between (record { 0 = item.subject.id }) (record { 0 = object.id }) (row_of item.op).movement)) object sets)
              (filter (counts r s.specs fd) items))
              ((xs ++ moving_with r s.objects event n item object) ++ moving_from r s fd event (n + 1) items)
          two None = next sets (xs ++ []) all (λ id e live. ap (λ (ys : List Occurrence). held (reverse ys) id) (append-nil xs) ∙ tied id e live)
          two (Some object) =
              next (moved r s.objects sets (moves_between (record { 0 = item.subject.id }) (record { 0 = object.id }) (row_of item.op).movement))
              (xs ++ moving_between r s.objects event n (row_of item.op).movement (record { 0 = item.subject.id }) (record { 0 = object.id }) ∷ [])
              (between_held r s.objects sets (record { 0 = item.subject.id }) (record { 0 = object.id }) (row_of item.op).movement all)
              (between_tied r s.objects labelled sets xs event n (record { 0 = item.subject.id }) (record { 0 = object.id }) (row_of item.op).movement all tied)
