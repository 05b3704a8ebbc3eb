-- The rows that are kept, after a step: one more where an entity comes, and the new element alone where one is relabelled.
use Rattle.std.proofs.Common.{◌≡◌, ◌≢◌, ℕ, ◌<◌, ◌≤◌, ◌+◌, Bool, true, false, cond, ◌&&◌, nat_eq, nat_lt, List, [], ◌∷◌, ◌++◌, length, set, Option, Some, None, refl, ap, sym, ◌∙◌, subst, arith, length-set, length-append, get_or-set_same, get_or-set_other}
use Rattle.std.specs.Prelude.{find}
use Rattle.std.proofs.lemmas.Bool.Decides.{nat_tests}
use Rattle.mf_elem.specs.declared.elem.Elem.{Elem}
use Rattle.mf_elem.specs.declared.label.Request.{Request}
use Rattle.mf_policy.specs.declared.registration.Registration.{Registration}
use Rattle.mf_list.specs.Asked.{slot_of}
use Rattle.mf_objects.proofs.Entities.{label_of as values_of}
use Rattle.mf_objects.specs.declared.id.Id.{Id}
use Rattle.mf_objects.specs.Live.{LiveEntity, live_at}
use Rattle.mf_objects.specs.Lives.{is_from}
use Rattle.mf_objects.specs.Population.{IsRising}
use Rattle.mf_plan.specs.declared.state.State.{State}
use Rattle.mf_objects.proofs.Finding.{find_given}
use Rattle.mf_perform.proofs.EntityChange.{EntityChange, ChangesEntities}
use Rattle.mf_perform.proofs.EntityChange.EntityChange.{absent, stays, gets_label, comes, goes}
use Rattle.mf_perform.proofs.StateChange.{Deed, StateChange}
use Rattle.mf_perform.proofs.StateChange.StateChange.{same as still, created, changed, relabels, removed, unlinked, loaded, unloaded, set_to}
use Rattle.mf_flow.specs.Order.{union}
use Rattle.mf_flow.specs.Rows.{AreRows, Rows, set_at, element_of, element_numbered, new_row, maker_row, rows_created, rows_given}
use Rattle.mf_flow.specs.Sources.{Sets, element_by, held_by, own_source, has_element, set_after}
use Rattle.mf_flow.proofs.Across.{gives_element, set_of, sets_across, is_id}
use Rattle.mf_flow.proofs.Moves.{same_id}
use Rattle.mf_flow.proofs.RowsKept.{first_from, former_row, last_row}

-- a step gives at most one id
pub change_next : (by : Deed) (s s' : State) → StateChange by s s' → s'.objects.next ≤ s.objects.next + 1
change_next by s s' (still is) = omega (arith, ap (λ (x : State). x.objects.next) is)
change_next by s s' (created from maker name what own live process is) = omega (arith, ap (λ (x : State). x.objects.next) is)
change_next by s s' (changed change id kind is) = omega (arith, ap (λ (x : State). x.objects.next) is)
change_next by s s' (relabels id e request asked live allowed is) = omega (arith, ap (λ (x : State). x.objects.next) is)
change_next by s s' (removed gone is) = omega (arith, ap (λ (x : State). x.objects.next) is)
change_next by s s' (unlinked id is) = omega (arith, ap (λ (x : State). x.objects.next) is)
change_next by s s' (loaded m none is) = omega (arith, ap (λ (x : State). x.objects.next) is)
change_next by s s' (unloaded m ok is) = omega (arith, ap (λ (x : State). x.objects.next) is)
change_next by s s' (set_to m change leaving is) = omega (arith, ap (λ (x : State). x.objects.next) is)

module _ (r : Registration) (by : Deed) (s s' : State) (rising : IsRising 0 s.objects.next s.objects.live) (step : ChangesEntities by s s') (sets : Sets) where
  -- the sources after a step that relabels what this says
  abbrev across : (Id → Bool) → Sets
  across relabelled = sets_across r s s' by.caller relabelled sets

  module _ (rows : Rows) (are : AreRows s.objects sets rows) (at_most : s'.objects.next ≤ s.objects.next + 1) where
    maker_is : (from : Id) (maker : LiveEntity) → by.caller ≡ Some from → live_at s.objects from ≡ Some maker → maker_row rows by.caller ≡ set_of by.caller sets
    maker_is from maker made live =
        subst (λ (x : Option Id). maker_row rows x ≡ set_of x sets) (sym made) (are.each from maker live)

    abbrev new : List Elem
    new = new_row (slot_of r) (find (is_from s.objects.next) s'.objects.live) (maker_row rows by.caller)

    old_row : (id : Id) (old : LiveEntity) → live_at s.objects id ≡ Some old → (b : Bool) → set_at (cond b (rows ++ new ∷ []) rows) id.0 ≡ sets id
    old_row id old was true =
        former_row rows new id.0 (omega (arith, are.count, find_given id old 0 s.objects.next s.objects.live was rising)) ∙ are.each id old was
    old_row id old was false = are.each id old was

    -- the row of an entity that is live after the step, before it is relabelled
    kept_row : (id : Id) (found found' : Option LiveEntity) (e : LiveEntity) → live_at s.objects id ≡ found → live_at s'.objects id ≡ found' → EntityChange by s id found found' → found' ≡ Some e
        → (b : Bool) → nat_lt s.objects.next s'.objects.next ≡ b
        → set_at (cond b (rows ++ new ∷ []) rows) id.0 ≡ set_after r found found' false (sets id) (set_of by.caller sets)
    kept_row id _ _ e was is absent now b more = cc
    kept_row id _ _ e was is (stays old next kind label) now b more = old_row id old was b
    kept_row id _ _ e was is (gets_label old next request asked allowed what label) now b more = old_row id old was b
    kept_row id _ _ e was is (comes next maker from made number live process label) now false more =
        let given : id.0 < s'.objects.next = find_given id next 0 s'.objects.next s'.objects.live is step.rising in
        let none : s'.objects.next ≤ s.objects.next = not_less s.objects.next s'.objects.next more in
        absurd (omega arith)
      where
        not_less : (a b : ℕ) → nat_lt a b ≡ false → b ≤ a
        not_less a b test = grind (arith, nat_tests)
    kept_row id _ _ e was is (comes next maker from made number live process label) now true more =
        let first : find (is_from id.0) s'.objects.live ≡ Some next = first_from id next 0 s'.objects.next s'.objects.live step.rising is in
        let found : find (is_from s.objects.next) s'.objects.live ≡ Some next = subst (λ (n : ℕ). find (is_from n) s'.objects.live ≡ Some next) number first in
        let place : id.0 ≡ length rows = number ∙ sym are.count in
        ap (set_at (rows ++ new ∷ [])) place ∙ last_row rows new
        ∙ ap (λ (x : Option LiveEntity). new_row (slot_of r) x (maker_row rows by.caller)) found
        ∙ ap (λ (xs : List Elem). held_by (element_by r next.label) (union (own_source (element_by r next.label)) xs)) (maker_is from maker made live)
    kept_row id _ _ e was is (goes old given) now b more = cc

    created_count : (b : Bool) → nat_lt s.objects.next s'.objects.next ≡ b → length (cond b (rows ++ new ∷ []) rows) ≡ s'.objects.next
    created_count true more =
        let less : s.objects.next < s'.objects.next = grind (arith, nat_tests) in
        omega (arith, are.count, length-append rows (new ∷ []), at_most)
    created_count false more =
        let none : s'.objects.next ≤ s.objects.next = grind (arith, nat_tests) in
        omega (arith, are.count, step.next)

    -- the rows after a call, before what it relabels
    pub created_rows : AreRows s'.objects (across (λ id. false)) (rows_created (slot_of r) s.objects.next s'.objects by.caller rows)
    created_rows =
        record {
          count = created_count (nat_lt s.objects.next s'.objects.next) refl;
          each = λ id e live. kept_row id (live_at s.objects id) (live_at s'.objects id) e refl refl (step.each id) live (nat_lt s.objects.next s'.objects.next) refl;
        }

  -- what is relabelled has its new element alone, where no entity comes
  new_alone : (id : Id) (found found' : Option LiveEntity) (e : LiveEntity) → live_at s'.objects id ≡ found' → EntityChange by s id found found' → found' ≡ Some e
      → s'.objects.next ≡ s.objects.next → own_source (element_of (slot_of r) (values_of found')) ≡ set_after r found found' true (sets id) (set_of by.caller sets)
  new_alone id _ _ e is absent now none = cc
  new_alone id _ _ e is (stays old next kind label) now none = refl
  new_alone id _ _ e is (gets_label old next request asked allowed what label) now none = refl
  new_alone id _ _ e is (comes next maker from made number live process label) now none =
      let given : id.0 < s'.objects.next = find_given id next 0 s'.objects.next s'.objects.live is step.rising in
      absurd (omega (arith, number, none))
  new_alone id _ _ e is (goes old given) now none = cc

  -- the rows after a relabel that gives an element
  relabelled_rows : (to : Id) (rows : Rows) → s'.objects.next ≡ s.objects.next → AreRows s'.objects (across (λ id. false)) rows
      → AreRows s'.objects (across (λ id. is_id id to && true)) (set rows to.0 (own_source (element_numbered (slot_of r) s'.objects to.0)))
  relabelled_rows to rows none are =
      record { count = length-set rows to.0 own ∙ are.count; each = λ id e live. one id e live (is_id id to) refl }
    where
      own : List Elem
      own = own_source (element_numbered (slot_of r) s'.objects to.0)

      one : (id : Id) (e : LiveEntity) → live_at s'.objects id ≡ Some e → (b : Bool) → is_id id to ≡ b
          → set_at (set rows to.0 own) id.0 ≡ set_after r (live_at s.objects id) (live_at s'.objects id) (b && true) (sets id) (set_of by.caller sets)
      one id e live true same =
          let here : id ≡ to = same_id id to same in
          let within : id.0 < length rows = omega (arith, are.count, find_given id e 0 s'.objects.next s'.objects.live live step.rising) in
          ap (λ (x : Id). set_at (set rows x.0 (own_source (element_numbered (slot_of r) s'.objects x.0))) id.0) (sym here)
          ∙ get_or-set_same rows id.0 (own_source (element_numbered (slot_of r) s'.objects id.0)) [] within
          ∙ new_alone id (live_at s.objects id) (live_at s'.objects id) e refl (step.each id) live none
      one id e live false other =
          let differ : id.0 ≢ to.0 = λ same. differs id.0 to.0 other same in
          get_or-set_other rows to.0 id.0 own [] differ ∙ are.each id e live
        where
          differs : (a b : ℕ) → nat_eq a b ≡ false → a ≡ b → ⊥
          differs a b test equal = grind (arith, nat_tests)

  -- a relabel that gives no element leaves the rows
  same_rows : (to : Id) (rows : Rows) → AreRows s'.objects (across (λ id. false)) rows → AreRows s'.objects (across (λ id. is_id id to && false)) rows
  same_rows to rows are =
      record {
        count = are.count;
        each = λ id e live. are.each id e live
            ∙ ap (λ (b : Bool). set_after r (live_at s.objects id) (live_at s'.objects id) b (sets id) (set_of by.caller sets)) (sym (never (is_id id to)));
      }
    where
      never : (b : Bool) → b && false ≡ false
      never true = refl
      never false = refl

  -- the rows after what a call relabels; a call that relabels makes no entity
  pub given_rows : (asked : Option (Id × Request)) (rows : Rows) → ((one : Id × Request) → asked ≡ Some one → s'.objects.next ≡ s.objects.next)
      → AreRows s'.objects (across (λ id. false)) rows → AreRows s'.objects (across (gives_element r asked)) (rows_given (slot_of r) r.module s'.objects asked rows)
  given_rows None rows none are = are
  given_rows (Some asked) rows none are = one (has_element r.module asked.1)
    where
      one : (b : Bool) → AreRows s'.objects (across (λ id. is_id id asked.0 && b)) (cond b (set rows asked.0.0 (own_source (element_numbered (slot_of r) s'.objects asked.0.0))) rows)
      one true = relabelled_rows asked.0 rows (none asked refl) are
      one false = same_rows asked.0 rows are
