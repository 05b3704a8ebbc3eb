-- Names in byte order are in order, and are the names.
use Rattle.std.proofs.Common.{◌≡◌, ℕ, ◌++◌, drop, refl, Bool, min, ◌<◌, ◌≤◌, ◌+◌, ◌-◌, List, [], ◌∷◌, length, get_or, take, ap, sym, ◌∙◌, subst, arith, inl, inr, true, false, not, cond, zero, suc, map, Bor}
use Rattle.std.specs.declared.cmp.Ordering.{Ordering}
use Rattle.std.specs.declared.cmp.Ordering.TheVariants.{Less, Equal, Greater}
use Rattle.std.specs.Ordering.{nat_cmp, is_le, is_lt, is_eq, ordering_reverse}
use Rattle.std.specs.Str.{bytes_eq}
use Rattle.std.specs.Prelude.{sum_by}
use Rattle.std.specs.Cmp.Lexicographic.{slice_cmp}
use Rattle.std.specs.List.{position_or_len, insert}
use Rattle.std.specs.List.Sorted.{IsSorted, IsPermutation}
use Rattle.std.proofs.lemmas.Bool.{cases_eq, cases_lt, false≢true}
use Rattle.std.proofs.lemmas.Cmp.{nat_list_cmp_total}
use Rattle.std.proofs.lemmas.List.{length-take, take-append-drop, take-map, get_or-map, length-map}
use Rattle.std.proofs.lemmas.List.Edits.{length-insert, get_or-insert_below, get_or-insert_at, get_or-insert_above}
use Rattle.std.proofs.lemmas.List.Sums.{sum_by-cons, prefix_len-le-length, prefix_len_stops, fails_before_first}
use Rattle.std.proofs.lemmas.List.Sorted.{IsPermutation-map, length_permutation, IsPermutation-refl, IsPermutation-cons, IsPermutation-trans, IsPermutation-insert, sum_by-IsPermutation, sorted_far}
use Rattle.std.proofs.lemmas.List.MinMax.{ranks_by}
use Rattle.std.proofs.lemmas.Map.Text.{is_eq-slice_cmp}
use Rattle.std.proofs.lemmas.Slice.Eq.{bytes_eq-Decides}
use Rattle.mf_objects.specs.declared.limits.TheConstants.{MOST_NAMES}
use Rattle.mf_objects.specs.Titles.{in_byte_order}
use Rattle.mf_objects.specs.Names.{IsFirstNames, comes_first, with_name}

flipped : (o : Ordering) → is_le o ≡ true → is_lt (ordering_reverse o) ≡ false
flipped Less le = refl
flipped Equal le = refl
flipped Greater le = absurd (false≢true le)

not_less : (o : Ordering) → is_le o ≡ false → is_lt o ≡ false
not_less Less le = absurd (false≢true (sym le))
not_less Equal le = refl
not_less Greater le = refl

-- the second of two names, where the first comes first, isn't before it
later_name : (name other : List ℕ) → comes_first name other ≡ true → is_lt (slice_cmp nat_cmp other name) ≡ false
later_name name other first = ap is_lt (nat_list_cmp_total.antisymm other name) ∙ flipped (slice_cmp nat_cmp name other) first

passed : (name : List ℕ) (names : List (List ℕ)) (d : List ℕ) → position_or_len (comes_first name) names < length names
    → comes_first name (get_or names (position_or_len (comes_first name) names) d) ≡ true
passed name names d within = flip (comes_first name (get_or names (position_or_len (comes_first name) names) d)) (prefix_len_stops (λ (n : List ℕ). not (comes_first name n)) names d within)
  where
    flip : (b : Bool) → not b ≡ false → b ≡ true
    flip true h = refl
    flip false h = absurd (false≢true (sym h))

pub sorted_with : (name : List ℕ) (names : List (List ℕ)) → IsSorted (slice_cmp nat_cmp) names → IsSorted (slice_cmp nat_cmp) (with_name name names)
sorted_with name names sorted k d low high =
    let p : ℕ = position_or_len (comes_first name) names in
    let most : p ≤ length names = prefix_len-le-length (λ (n : List ℕ). not (comes_first name n)) names in
    let long : k + 1 < length names + 1 = omega (arith, high, length-insert names p name most) in
    let Goal : List ℕ → List ℕ → Type 0 = λ x y. is_lt (slice_cmp nat_cmp x y) ≡ false in
    let put : (x y : List ℕ) → get_or (insert names p name) (k + 1) d ≡ x → get_or (insert names p name) k d ≡ y → Goal x y
    → Goal (get_or (insert names p name) (k + 1) d) (get_or (insert names p name) k d) =
    λ x y e f goal. subst (λ z. Goal z (get_or (insert names p name) k d)) (sym e) (subst (λ z. Goal x z) (sym f) goal) in
    elim (cases_lt (k + 1) p) [
      | inl before ↦
          put (get_or names (k + 1) d) (get_or names k d) (get_or-insert_below names p name d (k + 1) before most) (get_or-insert_below names p name d k (omega arith) most)
          (sorted k d low (omega arith))
      | inr from ↦
          elim (cases_eq (k + 1) p) [
            | inl here ↦
                put name (get_or names k d) (ap (λ n. get_or (insert names p name) n d) here ∙ get_or-insert_at names p name d most)
                (get_or-insert_below names p name d k (omega (arith, here)) most)
                (not_less (slice_cmp nat_cmp name (get_or names k d)) (fails_before_first (comes_first name) names k d (omega (arith, here))))
            | inr past ↦
                elim (cases_eq k p) [
                  | inl here ↦
                      put (get_or names k d) name (get_or-insert_above names p name d k (omega (arith, here)) most)
                      (ap (λ n. get_or (insert names p name) n d) here ∙ get_or-insert_at names p name d most)
                      (later_name name (get_or names k d) (ap (λ n. comes_first name (get_or names n d)) here ∙ passed name names d (omega (arith, here, long))))
                  | inr after ↦
                      let j : ℕ = k - 1 in
                      let next : k ≡ j + 1 = omega (arith, from, past, after) in
                      put (get_or names k d) (get_or names j d) (get_or-insert_above names p name d k (omega (arith, from, past, after)) most)
                      (ap (λ n. get_or (insert names p name) n d) next ∙ get_or-insert_above names p name d j (omega (arith, from, past, after)) most)
                      (subst (λ n. Goal (get_or names n d) (get_or names j d)) (sym next) (sorted j d (omega arith) (omega (arith, next, long))))
                ]
          ]
    ]

pub byte_order_sorted : (names : List (List ℕ)) → IsSorted (slice_cmp nat_cmp) (in_byte_order names)
byte_order_sorted [] = λ k d low high. absurd (omega arith)
byte_order_sorted (name ∷ names) = sorted_with name (in_byte_order names) (byte_order_sorted names)

pub byte_order_permutation : (names : List (List ℕ)) → IsPermutation names (in_byte_order names)
byte_order_permutation [] = IsPermutation-refl []
byte_order_permutation (name ∷ names) =
    IsPermutation-trans (name ∷ names) (name ∷ in_byte_order names) (with_name name (in_byte_order names))
    (IsPermutation-cons name names (in_byte_order names) (byte_order_permutation names))
    (IsPermutation-insert (in_byte_order names) (position_or_len (comes_first name) (in_byte_order names)) name)

-- Two lists in byte order that are permutations of each other are one

-- the order of names as a test
abbrev pub before : List ℕ → List ℕ → Bool
before name other = is_lt (slice_cmp nat_cmp name other)

unordered : (o : Ordering) → is_lt o ≡ false → is_lt (ordering_reverse o) ≡ false → is_eq o ≡ true
unordered Less one other = absurd (false≢true (sym one))
unordered Equal one other = refl
unordered Greater one other = absurd (false≢true (sym other))

same_name : (name other : List ℕ) → before name other ≡ false → before other name ≡ false → name ≡ other
same_name name other one never =
    let equal : is_eq (slice_cmp nat_cmp name other) ≡ true =
    unordered (slice_cmp nat_cmp name other) one (ap is_lt (sym (nat_list_cmp_total.antisymm other name)) ∙ never) in
    (bytes_eq-Decides name other).0 (sym (is_eq-slice_cmp name other) ∙ equal)

-- they have the same sums, so they have the same elements
abbrev pub HaveSameSums : List (List ℕ) → List (List ℕ) → Type 0
HaveSameSums xs ys = (f : List ℕ → ℕ) → sum_by f xs ≡ sum_by f ys

-- 1 for this name, and else 0
is_this : List ℕ → List ℕ → ℕ
is_this name other = cond (bytes_eq name other) 1 0

-- a name that is counted stands somewhere
stands : (name : List ℕ) (names : List (List ℕ)) → 1 ≤ sum_by (is_this name) names → (k : ℕ) × (k < length names) × ((d : List ℕ) → get_or names k d ≡ name)
unfolding is_this
stands name [] some = absurd (omega arith)
stands name (x ∷ names) some =
    let split : sum_by (is_this name) (x ∷ names) ≡ is_this name x + sum_by (is_this name) names = sum_by-cons (is_this name) x names in
    one (bytes_eq name x) refl (λ more. stands name names more) (omega (arith, split, some))
  where
    one : (b : Bool) → bytes_eq name x ≡ b → (1 ≤ sum_by (is_this name) names → (k : ℕ) × (k < length names) × ((d : List ℕ) → get_or names k d ≡ name)) → 1 ≤ cond b 1 0 + sum_by (is_this name) names → (k : ℕ) × (k < length (x ∷ names)) × ((d : List ℕ) → get_or (x ∷ names) k d ≡ name)
    one true here later some = (zero, omega arith, λ d. sym ((bytes_eq-Decides name x).0 here))
    one false other later some =
        let rest = later (omega (arith, some)) in
        (suc rest.0, omega (arith, rest.1), rest.2)

counted : (name : List ℕ) (names : List (List ℕ)) → 1 ≤ sum_by (is_this name) (name ∷ names)
unfolding is_this
counted name names =
    let split : sum_by (is_this name) (name ∷ names) ≡ is_this name name + sum_by (is_this name) names = sum_by-cons (is_this name) name names in
    let here : is_this name name ≡ 1 = ap (λ (b : Bool). cond b 1 0) ((bytes_eq-Decides name name).1 refl) in
    omega (arith, split, here)

-- the first name is before none of a list in order
first_least : (x : List ℕ) (xs : List (List ℕ)) (k : ℕ) (d : List ℕ) → IsSorted (slice_cmp nat_cmp) (x ∷ xs) → k < length (x ∷ xs) → before (get_or (x ∷ xs) k d) x ≡ false
first_least x xs k d sorted within = sorted_far before (ranks_by nat_list_cmp_total (λ (n : List ℕ). n)) (x ∷ xs) sorted 0 k d (omega arith) within

heads_same : (x y : List ℕ) (xs ys : List (List ℕ)) → IsSorted (slice_cmp nat_cmp) (x ∷ xs) → IsSorted (slice_cmp nat_cmp) (y ∷ ys) → HaveSameSums (x ∷ xs) (y ∷ ys) → x ≡ y
heads_same x y xs ys sorted_x sorted_y sums =
    let x_in = stands x (y ∷ ys) (omega (arith, counted x xs, sums (is_this x))) in
    let y_in = stands y (x ∷ xs) (omega (arith, counted y ys, sums (is_this y))) in
    same_name x y
    (subst (λ (n : List ℕ). before n y ≡ false) (x_in.2 x) (first_least y ys x_in.0 x sorted_y x_in.1))
    (subst (λ (n : List ℕ). before n x ≡ false) (y_in.2 y) (first_least x xs y_in.0 y sorted_x y_in.1))

sorted_rest : (x : List ℕ) (xs : List (List ℕ)) → IsSorted (slice_cmp nat_cmp) (x ∷ xs) → IsSorted (slice_cmp nat_cmp) xs
sorted_rest x xs sorted k d low high =
    let next : suc k + 1 ≡ suc (k + 1) = omega arith in
    subst (λ (n : ℕ). before (get_or (x ∷ xs) n d) (get_or xs k d) ≡ false) next (sorted (suc k) d (omega arith) (omega (arith, high)))

one_order : (xs ys : List (List ℕ)) → IsSorted (slice_cmp nat_cmp) xs → IsSorted (slice_cmp nat_cmp) ys → HaveSameSums xs ys → xs ≡ ys
one_order [] [] sorted_x sorted_y sums = refl
one_order [] (y ∷ ys) sorted_x sorted_y sums = let some : 0 ≡ 1 + sum_by (λ (_ : List ℕ). 1) ys = sums (λ _. 1) ∙ sum_by-cons (λ (_ : List ℕ). 1) y ys in absurd (omega (arith, some))
one_order (x ∷ xs) [] sorted_x sorted_y sums = let some : 0 ≡ 1 + sum_by (λ (_ : List ℕ). 1) xs = sym (sums (λ _. 1)) ∙ sum_by-cons (λ (_ : List ℕ). 1) x xs in absurd (omega (arith, some))
one_order (x ∷ xs) (y ∷ ys) sorted_x sorted_y sums =
    let head : x ≡ y = heads_same x y xs ys sorted_x sorted_y sums in
    let rest : xs ≡ ys =
    one_order xs ys (sorted_rest x xs sorted_x) (sorted_rest y ys sorted_y) (λ f. let whole : f x + sum_by f xs ≡ f y + sum_by f ys = sym (sum_by-cons f x xs) ∙ sums f ∙ sum_by-cons f y ys in omega (arith, whole, ap f head)) in
    ap (λ (n : List ℕ). n ∷ xs) head ∙ ap (λ (ns : List (List ℕ)). y ∷ ns) rest

-- any list of the names in order is theirs in byte order
pub is_byte_order : (names sorted : List (List ℕ)) → IsPermutation names sorted → IsSorted (slice_cmp nat_cmp) sorted → sorted ≡ in_byte_order names
is_byte_order names sorted same order =
    one_order sorted (in_byte_order names) order (byte_order_sorted names)
    (λ f. sum_by-IsPermutation f names sorted same ∙ sym (sum_by-IsPermutation f names (in_byte_order names) (byte_order_permutation names)))

pub first_are_first : (names : List (List ℕ)) → IsFirstNames (take MOST_NAMES (in_byte_order names)) names
first_are_first names =
    let ordered : List (List ℕ) = in_byte_order names in
    let whole : take MOST_NAMES ordered ++ drop MOST_NAMES ordered ≡ ordered = take-append-drop MOST_NAMES ordered in
    record {
      rest = drop MOST_NAMES ordered;
      ordered = subst (IsSorted (slice_cmp nat_cmp)) (sym whole) (byte_order_sorted names);
      same = subst (IsPermutation names) (sym whole) (byte_order_permutation names);
      most = length-take MOST_NAMES ordered ∙ ap (min MOST_NAMES) (length_permutation names ordered (byte_order_permutation names));
    }
