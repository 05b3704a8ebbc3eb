-- A search by id among entities that stand by rising id.
use Rattle.std.proofs.Common.{◌≡◌, ℕ, ◌<◌, ◌≤◌, ◌+◌, List, [], ◌∷◌, Some, None, Result, Ok, Err, length, get_or, ◌≢◌, eq-eqb, refl, ap, sym, arith, zero, suc, nat_eq, nat_lt, Bool, true, false, position, inl, inr, not, nat_le, ◌∙◌, slice_get}
use Rattle.std.specs.Prelude.{find}
use Rattle.std.specs.List.{position_or_len}
use Rattle.std.specs.Result.{result_ok}
use Rattle.std.specs.Ordering.{nat_cmp, ordering_index}
use Rattle.std.specs.List.Sorted.{IsSearchInRange, IsBinarySearchResult, IsNonDecreasingBy, IsPartitionedBy, IsPartitionPoint}
use Rattle.std.proofs.lemmas.Cmp.{ranked}
use Rattle.std.proofs.lemmas.Bool.{cases_eq, cases_lt, lt-ltb}
use Rattle.std.proofs.lemmas.List.Sums.{position_or_len_is}
use Rattle.std.proofs.lemmas.List.Folds.{find_at}
use Rattle.std.proofs.lemmas.Bool.Decides.{nat_tests}
use Rattle.std.proofs.lemmas.List.{get_or-map, length-map}
use Rattle.mf_slots.specs.Zones.{Contents}
use Rattle.mf_objects.specs.declared.id.Id.{Id}
use Rattle.mf_objects.specs.declared.entity.Entity.{Entity}
use Rattle.mf_objects.specs.Live.{LiveEntity}
use Rattle.mf_objects.specs.Population.{IsRising}
use Rattle.mf_objects.specs.Sound.{live_entity, live_of, IsById}
use Rattle.mf_objects.proofs.Rising.{at_least}

-- the entities of rising ids stand by rising id
pub stand_by_id : (zones : Contents) (least next : ℕ) (es : List Entity) → IsRising least next (live_of zones es) → IsById es
stand_by_id zones least next [] rising i j d before within = absurd (omega arith)
stand_by_id zones least next (e ∷ es) rising zero zero d before within = absurd (omega arith)
stand_by_id zones least next (e ∷ es) rising zero (suc j) d before within =
    let same : get_or (live_of zones es) j (live_entity zones d) ≡ live_entity zones (get_or es j d) = get_or-map (live_entity zones) es j d (live_entity zones d) (omega arith) in
    let later : e.id.0 + 1 ≤ (get_or (live_of zones es) j (live_entity zones d)).id.0 = at_least (e.id.0 + 1) next (live_of zones es) j (live_entity zones d) (omega (arith, within, length-map es (live_entity zones))) rising.1 in
    omega (arith, later, ap (λ (l : LiveEntity). l.id.0) same)
stand_by_id zones least next (e ∷ es) rising (suc i) zero d before within = absurd (omega arith)
stand_by_id zones least next (e ∷ es) rising (suc i) (suc j) d before within =
    stand_by_id zones (e.id.0 + 1) next es rising.1 i j d (omega arith) (omega arith)

-- of two places the later one has no smaller number
no_smaller : (es : List Entity) (i j : ℕ) (d : Entity) → IsById es → i ≤ j → j < length es → (get_or es i d).id.0 ≤ (get_or es j d).id.0
no_smaller es i j d by_id most within = elim (cases_eq i j) [
  | inl same ↦ omega (arith, ap (λ (k : ℕ). (get_or es k d).id.0) same)
  | inr differ ↦ let l : (get_or es i d).id.0 < (get_or es j d).id.0 = by_id i j d (omega (arith, differ)) within in omega (arith, l)
]

module _ (es : List Entity) (id : Id) (by_id : IsById es) where
  -- the comparisons with an id rise
  rises : IsNonDecreasingBy (λ (e : Entity). ordering_index (nat_cmp e.id.0 id.0)) es
  rises i j d most within = ranks (get_or es i d).id.0 (get_or es j d).id.0 (no_smaller es i j d by_id most within)
    where
      ranks : (a b : ℕ) → a ≤ b → ordering_index (nat_cmp a id.0) ≤ ordering_index (nat_cmp b id.0)
      ranks a b l = grind (arith, nat_tests)

-- the first place at which the test passes, or the end
position_at : (p : Entity → Bool) (es : List Entity) (i : ℕ) (d : Entity) → i < length es → p (get_or es i d) ≡ true → ((k : ℕ) → k < i → p (get_or es k d) ≡ false)
    → position p es ≡ Some i
position_at p es i d within hit before =
    let first : position_or_len p es ≡ i = position_or_len_is p es i d (omega arith) before (λ _. hit) in
    let yes : nat_lt i (length es) ≡ true = lt-ltb i (length es) within in
    rw (first, yes) refl

position_none : (p : Entity → Bool) (es : List Entity) (d : Entity) → ((k : ℕ) → k < length es → p (get_or es k d) ≡ false) → position p es ≡ None
position_none p es d never =
    let end : position_or_len p es ≡ length es = position_or_len_is p es (length es) d (omega arith) never (λ l. absurd (omega (arith, l))) in
    let no : nat_lt (length es) (length es) ≡ false = grind (arith, nat_tests) in
    rw (end, no) refl

-- the place where an entity has the id
pub place_at : (es : List Entity) (id : Id) (i : ℕ) (d : Entity) → IsById es → i < length es → (get_or es i d).id.0 ≡ id.0 → position (λ (e : Entity). nat_eq e.id.0 id.0) es ≡ Some i
place_at es id i d by_id within same =
    position_at (λ (x : Entity). nat_eq x.id.0 id.0) es i d within (eq-eqb (get_or es i d).id.0 id.0 same)
    (λ k before. differs (get_or es k d).id.0 id.0 (λ other. let l : (get_or es k d).id.0 < (get_or es i d).id.0 = by_id k i d before within in omega (arith, l, same, other)))
  where
    differs : (a b : ℕ) → a ≢ b → nat_eq a b ≡ false
    differs a b ne = grind (arith, nat_tests)

-- the search finds the place of the id
pub searched : (es : List Entity) (id : Id) (r : Result ℕ ℕ) → IsById es → IsSearchInRange r (length es) → IsBinarySearchResult (λ (e : Entity). nat_cmp e.id.0 id.0) es r
    → result_ok r ≡ position (λ (e : Entity). nat_eq e.id.0 id.0) es
searched [] id (Ok i) by_id within is = absurd (omega (arith, within))
searched [] id (Err i) by_id within is = refl
searched (e ∷ es) id (Ok i) by_id within is =
    let all : List Entity = e ∷ es in
    let same : (get_or all i e).id.0 ≡ id.0 = ranked (get_or all i e).id.0 id.0 _ (sym (is e)) in
    sym (place_at all id i e by_id within same)
searched (e ∷ es) id (Err i) by_id within is =
    let all : List Entity = e ∷ es in
    let parted = is (rises all id by_id) in
    sym (position_none (λ (x : Entity). nat_eq x.id.0 id.0) all e (λ k l. elim (cases_lt k i) [
      | inl early ↦ below (get_or all k e).id.0 id.0 (ranked (get_or all k e).id.0 id.0 _ (sym (parted.0 k e (omega arith) early)))
      | inr late ↦ above (get_or all k e).id.0 id.0 (ranked (get_or all k e).id.0 id.0 _ (sym (parted.1 k e late l)))
    ]))
  where
    below : (a b : ℕ) → a < b → nat_eq a b ≡ false
    below a b l = grind (arith, nat_tests)

    above : (a b : ℕ) → b < a → nat_eq a b ≡ false
    above a b l = grind (arith, nat_tests)

-- the first entity whose number is at least n stands at the first place behind the smaller ones
pub least_at : (es : List Entity) (n i : ℕ) → i ≤ length es → IsPartitionPoint (λ (e : Entity). not (nat_le n e.id.0) ≡ true) (λ (e : Entity). not (nat_le n e.id.0) ≡ false) es i
    → find (λ (e : Entity). nat_le n e.id.0) es ≡ slice_get es i
least_at [] n i within point = refl
least_at (e ∷ es) n i within point =
    let all : List Entity = e ∷ es in
    let first : position_or_len (λ (x : Entity). nat_le n x.id.0) all ≡ i =
    position_or_len_is (λ (x : Entity). nat_le n x.id.0) all i e within
    (λ k before. not_true (nat_le n (get_or all k e).id.0) (point.0 k e (omega arith) before))
    (λ l. not_false (nat_le n (get_or all i e).id.0) (point.1 i e (omega arith) l)) in
    find_at (λ (x : Entity). nat_le n x.id.0) all ∙ ap (λ (k : ℕ). slice_get all k) first
  where
    not_true : (b : Bool) → not b ≡ true → b ≡ false
    not_true true is = cc is
    not_true false is = refl

    not_false : (b : Bool) → not b ≡ false → b ≡ true
    not_false true is = refl
    not_false false is = cc is

-- the numbers below n come first
pub below_first : (es : List Entity) (n : ℕ) → IsById es → IsPartitionedBy (λ (e : Entity). not (nat_le n e.id.0)) es
below_first es n by_id i j d most within is = still (get_or es i d).id.0 (get_or es j d).id.0 (no_smaller es i j d by_id most within) is
  where
    still : (a b : ℕ) → a ≤ b → not (nat_le n b) ≡ true → not (nat_le n a) ≡ true
    still a b l is = grind (arith, nat_tests)

-- an entity whose number is n is the first one from n on
pub least_here : (es : List Entity) (n i : ℕ) (d : Entity) → IsById es → i < length es → (get_or es i d).id.0 ≡ n → find (λ (e : Entity). nat_le n e.id.0) es ≡ slice_get es i
least_here es n i d by_id within same =
    let first : position_or_len (λ (x : Entity). nat_le n x.id.0) es ≡ i =
    position_or_len_is (λ (x : Entity). nat_le n x.id.0) es i d (omega arith)
    (λ k before. let l : (get_or es k d).id.0 < (get_or es i d).id.0 = by_id k i d before within in smaller (get_or es k d).id.0 (omega (arith, l, same)))
    (λ _. itself (get_or es i d).id.0 same) in
    find_at (λ (x : Entity). nat_le n x.id.0) es ∙ ap (λ (k : ℕ). slice_get es k) first
  where
    smaller : (a : ℕ) → a < n → nat_le n a ≡ false
    smaller a l = grind (arith, nat_tests)

    itself : (a : ℕ) → a ≡ n → nat_le n a ≡ true
    itself a e = grind (arith, nat_tests)
