-- What the checks of a call keep of label slots: which are set, and that each holds a valid label where its policy stays. They write the slot of
-- mac_lomac alone, and of two elements without compartments one remains.
use Rattle.std.proofs.Common.{◌≡◌, ℕ, zero, suc, Bool, true, false, not, nat_eq, cond, ◌&&◌, List, [], ◌∷◌, set, get_or, Option, Some, None, refl, ap, sym, ◌∙◌, subst, ◌⊎◌, inl, inr, slice_index_or, eq-eqb}
use Rattle.std.specs.Option.{option_eq, option_map_or}
use Rattle.std.specs.Prelude.{find, is_none, option_and_then}
use Rattle.std.specs.List.{AllByRecursion}
use Rattle.std.proofs.lemmas.Bool.{and_parts}
use Rattle.mf_errno.specs.declared.module.Module.{Module}
use Rattle.mf_errno.specs.declared.module.Module.TheVariants.{Lomac}
use Rattle.mf_errno.proofs.Modules.{same_module-is}
use Rattle.mf_elem.specs.declared.elem.Elem.{Elem}
use Rattle.mf_elem.specs.declared.label.LabelValue.{LabelValue}
use Rattle.mf_elem.specs.declared.label.LabelValue.TheVariants.{Unset, Range, Number}
use Rattle.mf_elem.specs.Elem.{dominates, is_plain}
use Rattle.mf_item.specs.declared.view.Kind.{Kind}
use Rattle.mf_item.specs.Item.{Item}
use Rattle.mf_policy.specs.Lowering.{after_checks, lomac_slot, lowered_element, lowered_value}
use Rattle.mf_policy.specs.Registration.{Entry, holds_slot, is_of}
use Rattle.mf_objects.specs.declared.id.Id.{Id}
use Rattle.mf_objects.specs.Live.{Entities, LiveEntity, is_set, kind_of, live_at, value_in}
use Rattle.mf_objects.specs.Lives.{value_at}
use Rattle.mf_objects.specs.Labels.{with_value}
use Rattle.mf_objects.proofs.Entities.{label_of}
use Rattle.mf_plan.specs.declared.state.State.{State}
use Rattle.mf_perform.proofs.Observing.{HasObserved, Observing, ObservingKeeps, Sees, after_checks_keep, observing_keeps}
use Rattle.mf_perform.proofs.Observing.HasObserved.{absent, lowered as is_lowered, unlowered}
use Rattle.mf_lifetimes.specs.Marks.{Mark, added_marks, made_marks}
use Rattle.mf_lifetimes.specs.Laws.{AreMarksOf}
use Rattle.mf_lifetimes.proofs.Kept.{AllValid, Holding, IsKept, same_policies}
use Rattle.mf_lifetimes.proofs.Listing.{AtMostOne, IsPinned, NoneLasting, found_passes}
use Rattle.mf_lifetimes.proofs.Valid.{IsValidOf}

-- The slot that is written

-- one place of a list gets another value
set_at : {A : Type 0} (xs : List A) (k j : ℕ) (x d : A) → (get_or (set xs k x) j d ≡ get_or xs j d) ⊎ ((k ≡ j) × (get_or (set xs k x) j d ≡ x))
set_at [] k j x d = inl refl
set_at (y ∷ ys) zero zero x d = inr (refl, refl)
set_at (y ∷ ys) zero (suc j) x d = inl refl
set_at (y ∷ ys) (suc k) zero x d = inl refl
set_at (y ∷ ys) (suc k) (suc j) x d = elim (set_at ys k j x d) [ inl same ↦ inl same | inr there ↦ inr (ap (λ (n : ℕ). suc n) there.0, there.1) ]

-- a slot of one that has another value in one of its slots
value_now : (at slot : ℕ) (value : LabelValue) (e : LiveEntity)
    → (value_in slot (with_value at value e) ≡ value_in slot e) ⊎ ((at ≡ slot) × (value_in slot (with_value at value e) ≡ value))
value_now at slot value e = set_at e.label at slot value Unset

-- What is set stays set

lowered_set : (own other : LabelValue) → is_set (lowered_value own other) ≡ is_set own
lowered_set Unset other = refl
lowered_set (Range label) other = refl
lowered_set (Number n) other = refl

lowered_marks : (own other : LabelValue) (marks : List Mark) → AreMarksOf own marks → AreMarksOf (lowered_value own other) marks
lowered_marks Unset other marks agree = agree
lowered_marks (Range label) other marks agree = agree
lowered_marks (Number n) other marks agree = agree

module _ (slot at : ℕ) (e : LiveEntity) (o : Entities) (checks : List Item) (sees : AllByRecursion (Sees o) checks) where
  abbrev now : LiveEntity
  now = with_value at (after_checks at (value_in at e) checks) e

  pub lowered_is_set : is_set (value_in slot now) ≡ is_set (value_in slot e)
  lowered_is_set = one (value_now at slot (after_checks at (value_in at e) checks) e)
    where
      P : LabelValue → Type 0
      P value = is_set value ≡ is_set (value_in at e)

      one : (value_in slot now ≡ value_in slot e) ⊎ ((at ≡ slot) × (value_in slot now ≡ after_checks at (value_in at e) checks))
          → is_set (value_in slot now) ≡ is_set (value_in slot e)
      one (inl same) = ap is_set same
      one (inr there) =
          ap is_set there.1
          ∙ after_checks_keep P o at checks (value_in at e) sees (λ own id same. lowered_set own (value_at o id at) ∙ same) (λ own same. lowered_set own Unset ∙ same) refl
          ∙ ap (λ (n : ℕ). is_set (value_in n e)) there.0

  pub lowered_keeps_marks : (marks : List Mark) → AreMarksOf (value_in slot e) marks → AreMarksOf (value_in slot now) marks
  lowered_keeps_marks marks agree = one (value_now at slot (after_checks at (value_in at e) checks) e)
    where
      P : LabelValue → Type 0
      P value = AreMarksOf value marks

      one : (value_in slot now ≡ value_in slot e) ⊎ ((at ≡ slot) × (value_in slot now ≡ after_checks at (value_in at e) checks)) → AreMarksOf (value_in slot now) marks
      one (inl same) = subst P (sym same) agree
      one (inr there) =
          subst P (sym there.1)
          (after_checks_keep P o at checks (value_in at e) sees (λ own id agree. lowered_marks own (value_at o id at) marks agree) (λ own agree. lowered_marks own Unset marks agree)
          (subst (λ (n : ℕ). AreMarksOf (value_in n e) marks) (sym there.0) agree))

-- What is added to the marks is read from which slots are set: so it is the same by the entity before the checks and by the one after them.
pub same_added : {caller : Option Id} {checks : List Item} (s : State) (id : Id) (specs : List Entry) (slot : ℕ) (marks : List Mark) (found found1 found' : Option LiveEntity)
    → HasObserved caller checks s id found found1 → added_marks specs slot marks found1 found' ≡ added_marks specs slot marks found found'
same_added s id specs slot marks _ _ found' absent = refl
same_added s id specs slot marks _ _ found' (unlowered e) = refl
same_added s id specs slot marks _ _ None (is_lowered at e named listed process sees) = refl
same_added {checks = checks} s id specs slot marks _ _ (Some new) (is_lowered at e named listed process sees) =
    ap (λ (was : Bool). cond (not was && is_set (value_in slot new)) (made_marks specs slot new) []) (lowered_is_set slot at e s.objects checks sees)

-- Who holds the slot of mac_lomac

missing : (p test : Entry → Bool) (es : List Entry) (y : Entry) → find p es ≡ None → find test es ≡ Some y → p y ≡ false
missing p test [] y none found = cc
missing p test (e ∷ es) y none found = one (p e) (test e) refl (missing p test es y) none found
  where
    one : (here hit : Bool) → p e ≡ here → (find p es ≡ None → find test es ≡ Some y → p y ≡ false) → cond here (Some e) (find p es) ≡ None
        → cond hit (Some e) (find test es) ≡ Some y → p y ≡ false
    one true hit is rest some found = cc
    one false true is rest none found = let same : e ≡ y = cc in ap p (sym same) ∙ is
    one false false is rest none found = rest none found

-- whoever is listed with a slot that one policy holds is that one
same_holder : (slot : ℕ) (test : Entry → Bool) (es : List Entry) (x y : Entry) → AtMostOne slot es → find (holds_slot slot) es ≡ Some x → find test es ≡ Some y
    → holds_slot slot y ≡ true → x ≡ y
same_holder slot test [] x y single found other own = cc
same_holder slot test (e ∷ es) x y single found other own =
    one (holds_slot slot e) (test e) refl (same_holder slot test es x y single.1) found other
  where
    one : (here hit : Bool) → holds_slot slot e ≡ here → (find (holds_slot slot) es ≡ Some x → find test es ≡ Some y → holds_slot slot y ≡ true → x ≡ y)
        → cond here (Some e) (find (holds_slot slot) es) ≡ Some x → cond hit (Some e) (find test es) ≡ Some y → x ≡ y
    one true true is rest found other = cc
    one true false is rest found other =
        let not_own : holds_slot slot y ≡ false = missing (holds_slot slot) test es y (single.0 is) other in
        cc
    one false true is rest found other =
        let same : e ≡ y = cc in
        let not_own : holds_slot slot y ≡ false = ap (holds_slot slot) (sym same) ∙ is in
        cc
    one false false is rest found other = rest found other own

-- where one policy holds the slot of mac_lomac, it is mac_lomac
pub lomac_holds : (slot : ℕ) (specs : List Entry) (x : Entry) → AtMostOne slot specs → find (holds_slot slot) specs ≡ Some x → lomac_slot specs ≡ Some slot
    → Lomac ≡ x.0.module
lomac_holds slot specs x single found listed = one (find (is_of Lomac) specs) refl listed
  where
    one : (at : Option Entry) → find (is_of Lomac) specs ≡ at → option_and_then (λ entry. entry.0.slot) at ≡ Some slot → Lomac ≡ x.0.module
    one None is none = cc
    one (Some y) is own =
        let holds : holds_slot slot y ≡ true = ap (λ (at : Option ℕ). option_eq nat_eq at (Some slot)) own ∙ eq-eqb slot slot refl in
        let same : x ≡ y = same_holder slot (is_of Lomac) specs x y single found is holds in
        same_module-is Lomac y.0.module (found_passes (is_of Lomac) specs y is) ∙ ap (λ (entry : Entry). entry.0.module) (sym same)

-- A lowered label is valid

-- of two elements without compartments one remains
plain_remains : (own other : Option Elem) (range other_range : Option (Elem × Elem)) → (option_map_or is_plain own false && is_none range) ≡ true
    → (option_map_or is_plain other false && is_none other_range) ≡ true → (option_map_or is_plain (lowered_element own other) false && is_none range) ≡ true
plain_remains None other range other_range own there = cc
plain_remains (Some s) None range other_range own there = own
plain_remains (Some s) (Some o) range other_range own there = one (dominates o s)
  where
    one : (b : Bool) → (is_plain (cond b s o) && is_none range) ≡ true
    one true = own
    one false = rw ((and_parts (is_plain o) (is_none other_range) there).0) ((and_parts (is_plain s) (is_none range) own).1)

lowered_valid : (kind kind' : Kind) (own other : LabelValue) → IsValidOf Lomac kind own → IsValidOf Lomac kind' other → IsValidOf Lomac kind (lowered_value own other)
lowered_valid kind kind' (Range own) (Range other) valid there = plain_remains own.effective other.effective own.range other.range valid there
lowered_valid kind kind' (Range own) Unset valid there = cc
lowered_valid kind kind' (Range own) (Number n) valid there = cc
lowered_valid kind kind' Unset other valid there = cc
lowered_valid kind kind' (Number n) other valid there = cc

lowered_by_none : (kind : Kind) (own : LabelValue) → IsValidOf Lomac kind own → IsValidOf Lomac kind (lowered_value own Unset)
lowered_by_none kind Unset valid = cc
lowered_by_none kind (Number n) valid = cc
lowered_by_none kind (Range own) valid = one own.effective valid
  where
    one : (effective : Option Elem) → (option_map_or is_plain effective false && is_none own.range) ≡ true
        → (option_map_or is_plain (lowered_element effective None) false && is_none own.range) ≡ true
    one None valid = cc
    one (Some element) valid = valid

module _ (slot : ℕ) (o : Entities) (all : AllValid slot Lomac o) (kind : Kind) where
  by_object : (own : LabelValue) (id : Id) → IsValidOf Lomac kind own → IsValidOf Lomac kind (lowered_value own (value_at o id slot))
  by_object own id valid = one (live_at o id) refl
    where
      one : (found : Option LiveEntity) → live_at o id ≡ found → IsValidOf Lomac kind (lowered_value own (slice_index_or (label_of found) slot Unset))
      one None none = lowered_by_none kind own valid
      one (Some e) live = lowered_valid kind (kind_of e.what) own (value_in slot e) valid (all id e live)

  -- after checks that see what lives
  after_valid : (checks : List Item) (value : LabelValue) → AllByRecursion (Sees o) checks → IsValidOf Lomac kind value → IsValidOf Lomac kind (after_checks slot value checks)
  after_valid checks value sees valid = after_checks_keep (IsValidOf Lomac kind) o slot checks value sees by_object (lowered_by_none kind) valid

-- the slot of an entity holds a valid label of the policy that stays
module _ (slot : ℕ) (entry : Entry) (s : State) (single : AtMostOne slot s.specs) (pinned : IsPinned slot entry s.specs s.numbers) (all : AllValid slot entry.0.module s.objects) where
  lowered_holds : (at : ℕ) (e : LiveEntity) (id : Id) (checks : List Item) → live_at s.objects id ≡ Some e → lomac_slot s.specs ≡ Some at → AllByRecursion (Sees s.objects) checks
      → IsValidOf entry.0.module (kind_of e.what) (value_in slot (with_value at (after_checks at (value_in at e) checks) e))
  lowered_holds at e id checks live listed sees = one (value_now at slot (after_checks at (value_in at e) checks) e)
    where
      value : LabelValue
      value = after_checks at (value_in at e) checks

      valid : IsValidOf entry.0.module (kind_of e.what) (value_in slot e)
      valid = all id e live

      one : (value_in slot (with_value at value e) ≡ value_in slot e) ⊎ ((at ≡ slot) × (value_in slot (with_value at value e) ≡ value))
          → IsValidOf entry.0.module (kind_of e.what) (value_in slot (with_value at value e))
      one (inl same) = subst (IsValidOf entry.0.module (kind_of e.what)) (sym same) valid
      one (inr there) =
          let is : Lomac ≡ entry.0.module = lomac_holds slot s.specs entry single pinned.found (listed ∙ ap (λ (n : ℕ). Some n) there.0) in
          let own : IsValidOf Lomac (kind_of e.what) (after_checks slot (value_in slot e) checks) =
          after_valid slot s.objects (subst (λ (m : Module). AllValid slot m s.objects) (sym is) all) (kind_of e.what) checks (value_in slot e) sees
          (subst (λ (m : Module). IsValidOf m (kind_of e.what) (value_in slot e)) (sym is) valid) in
          subst (IsValidOf entry.0.module (kind_of e.what)) (sym (there.1 ∙ ap (λ (n : ℕ). after_checks n (value_in n e) checks) there.0))
          (subst (λ (m : Module). IsValidOf m (kind_of e.what) (after_checks slot (value_in slot e) checks)) is own)

  observed_valid : (caller : Option Id) (checks : List Item) (id : Id) (found found1 : Option LiveEntity) (e : LiveEntity) → live_at s.objects id ≡ found
      → HasObserved caller checks s id found found1 → found1 ≡ Some e → IsValidOf entry.0.module (kind_of e.what) (value_in slot e)
  observed_valid caller checks id _ _ e was absent now = cc
  observed_valid caller checks id _ _ e was (unlowered x) now = all id e (was ∙ now)
  observed_valid caller checks id _ _ e was (is_lowered at x named listed process sees) now =
      as_now e (with_value at (after_checks at (value_in at x) checks) x) now (lowered_holds at x id checks was listed sees)
    where
      as_now : (e new : LiveEntity) → Some new ≡ Some e → IsValidOf entry.0.module (kind_of new.what) (value_in slot new) → IsValidOf entry.0.module (kind_of e.what) (value_in slot e)
      as_now e new is valid =
          let same : new ≡ e = cc in
          subst (λ (x : LiveEntity). IsValidOf entry.0.module (kind_of x.what) (value_in slot x)) same valid

pub observing_valid : {caller : Option Id} {checks : List Item} (slot : ℕ) (entry : Entry) (s s1 : State) → ObservingKeeps caller checks s s1 → AtMostOne slot s.specs
    → IsPinned slot entry s.specs s.numbers → AllValid slot entry.0.module s.objects → AllValid slot entry.0.module s1.objects
observing_valid {caller = caller} {checks = checks} slot entry s s1 keeps single pinned all id e live =
    observed_valid slot entry s single pinned all caller checks id (live_at s.objects id) (live_at s1.objects id) e refl (keeps.each id) live

-- the checks keep what every step keeps
pub observing_kept : {caller : Option Id} {checks : List Item} (slot : ℕ) (s s1 : State) → Observing caller checks s s1 → IsKept slot s → IsKept slot s1
observing_kept {caller = caller} {checks = checks} slot s s1 shape kept =
    record {
      rooted = keeps.rooted;
      booted = keeps.booted ∙ kept.booted;
      slots = record {
        below = rw (keeps.numbers, keeps.specs) (kept.slots.below);
        single = rw (keeps.specs) (kept.slots.single);
      };
      holding = one kept.holding;
    }
  where
    keeps : ObservingKeeps caller checks s s1
    keeps = observing_keeps s s1 shape kept.rooted

    one : Holding slot s → Holding slot s1
    one (inl held) =
        inl (held.0, same_policies slot held.0 s s1 keeps.specs keeps.numbers held.1, observing_valid slot held.0 s s1 keeps kept.slots.single held.1 held.2)
    one (inr none) = inr (subst (NoneLasting slot) (sym keeps.specs) none)
