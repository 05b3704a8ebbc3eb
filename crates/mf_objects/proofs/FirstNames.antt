-- The first names in byte order, as names come one after another.
use Rattle.std.proofs.Common.{◌≡◌, ℕ, ◌+◌, ◌-◌, ◌<◌, ◌≤◌, Bool, true, false, not, cond, zero, suc, List, [], ◌∷◌, ◌++◌, length, get_or, take, drop, map, Bor, min, refl, sym, ap, ◌∙◌, subst, arith}
use Rattle.std.specs.Ordering.{nat_cmp, is_gt, is_le, is_lt, ordering_reverse}
use Rattle.std.specs.declared.cmp.Ordering.{Ordering}
use Rattle.std.specs.declared.cmp.Ordering.TheVariants.{Less, Equal, Greater}
use Rattle.std.specs.Cmp.Lexicographic.{slice_cmp}
use Rattle.std.specs.List.{position_or_len, insert}
use Rattle.std.specs.List.Sorted.{IsSorted, IsPermutation}
use Rattle.std.proofs.lemmas.Bool.{false≢true}
use Rattle.std.proofs.lemmas.Cmp.{nat_list_cmp_total, upto}
use Rattle.std.proofs.lemmas.List.{get_or-map, get_or-take, length-map, length-take, map-append, take_more, take-append-le, take-map, take-take, take_all}
use Rattle.std.proofs.lemmas.List.MinMax.{ranks_by}
use Rattle.std.proofs.lemmas.List.Sorted.{IsPermutation-cons, IsPermutation-insert, IsPermutation-to_front, IsPermutation-trans, sorted_far}
use Rattle.std.proofs.lemmas.List.Sums.{position_or_len_is, prefix_len-le-length}
use Rattle.mf_objects.specs.declared.limits.TheConstants.{MOST_NAMES}
use Rattle.mf_objects.specs.declared.id.Id.{Id}
use Rattle.mf_objects.specs.declared.entity.Entity.{Entity}
use Rattle.mf_objects.specs.Live.{is_entry}
use Rattle.mf_objects.specs.Titles.{in_byte_order}
use Rattle.mf_objects.specs.Names.{comes_first, with_name}
use Rattle.mf_objects.proofs.ByteOrder.{before, byte_order_permutation, byte_order_sorted, is_byte_order, sorted_with}
use Rattle.mf_objects.proofs.Naming.{names_no, names_yes, raw_names}

-- one name behind all goes to its place
pub order_push : (names : List (List ℕ)) (name : List ℕ) → in_byte_order (names ++ name ∷ []) ≡ with_name name (in_byte_order names)
order_push names name =
    let ordered : List (List ℕ) = in_byte_order names in
    sym (is_byte_order (names ++ name ∷ []) (with_name name ordered)
    (IsPermutation-trans (names ++ name ∷ []) (name ∷ names) (with_name name ordered) (IsPermutation-to_front names name)
    (IsPermutation-trans (name ∷ names) (name ∷ ordered) (with_name name ordered)
    (IsPermutation-cons name names ordered (byte_order_permutation names))
    (IsPermutation-insert ordered (position_or_len (comes_first name) ordered) name)))
    (sorted_with name ordered (byte_order_sorted names)))

-- a name in front of the first, where it comes before it, and else behind it
with_head : (name other : List ℕ) (names : List (List ℕ)) → with_name name (other ∷ names) ≡ cond (comes_first name other) (name ∷ other ∷ names) (other ∷ with_name name names)
with_head name other names = one (comes_first name other)
  where
    one : (b : Bool) → insert (other ∷ names) (cond (not b) (1 + position_or_len (comes_first name) names) 0) name ≡ cond b (name ∷ other ∷ names) (other ∷ with_name name names)
    one true = refl
    one false =
        let next : 1 + position_or_len (comes_first name) names ≡ suc (position_or_len (comes_first name) names) = omega arith in
        ap (λ n. insert (other ∷ names) n name) next

-- which names are first depends on those alone that were first before
pub first_with : (most : ℕ) (name : List ℕ) (names : List (List ℕ)) → take most (with_name name (take most names)) ≡ take most (with_name name names)
first_with zero name names = refl
first_with (suc most) name [] = refl
first_with (suc most) name (other ∷ names) =
    ap (take (suc most)) (with_head name other (take most names))
    ∙ one (comes_first name other) (first_with most name names)
    ∙ ap (take (suc most)) (sym (with_head name other names))
  where
    again : (n : ℕ) → take n (other ∷ take n names) ≡ take n (other ∷ names)
    again zero = refl
    again (suc n) = ap (λ (ns : List (List ℕ)). other ∷ ns) (take-take n (suc n) names (omega arith))

    one : (b : Bool) → take most (with_name name (take most names)) ≡ take most (with_name name names)
        → take (suc most) (cond b (name ∷ other ∷ take most names) (other ∷ with_name name (take most names)))
        ≡ take (suc most) (cond b (name ∷ other ∷ names) (other ∷ with_name name names))
    one true rest = ap (λ (ns : List (List ℕ)). name ∷ ns) (again most)
    one false rest = ap (λ (ns : List (List ℕ)). other ∷ ns) rest

-- one name more among those of which the first are kept
pub first_push : (names first : List (List ℕ)) (name : List ℕ) → first ≡ take MOST_NAMES (in_byte_order names)
    → take MOST_NAMES (with_name name first) ≡ take MOST_NAMES (in_byte_order (names ++ name ∷ []))
first_push names first name is =
    ap (λ (ns : List (List ℕ)). take MOST_NAMES (with_name name ns)) is
    ∙ first_with MOST_NAMES name (in_byte_order names)
    ∙ ap (take MOST_NAMES) (sym (order_push names name))

pub first_sorted : (names first : List (List ℕ)) → first ≡ take MOST_NAMES (in_byte_order names) → IsSorted (slice_cmp nat_cmp) first
first_sorted names first is = subst (IsSorted (slice_cmp nat_cmp)) (sym is) (λ k d low high.
    let ordered : List (List ℕ) = in_byte_order names in
    let size : length (take MOST_NAMES ordered) ≡ min MOST_NAMES (length ordered) = length-take MOST_NAMES ordered in
    rw (get_or-take MOST_NAMES ordered (k + 1) d (omega (arith, high, size)), get_or-take MOST_NAMES ordered k d (omega (arith, high, size)))
    (byte_order_sorted names k d low (omega (arith, high, size))))

pub first_few : (names first : List (List ℕ)) → first ≡ take MOST_NAMES (in_byte_order names) → length first ≤ MOST_NAMES
first_few names first is = omega (arith, ap length is, length-take MOST_NAMES (in_byte_order names))

-- ---- one name put in its place among references
map_drop : {X Y : Type 0} (f : X → Y) (n : ℕ) (xs : List X) → map f (drop n xs) ≡ drop n (map f xs)
map_drop f zero xs = refl
map_drop f (suc n) [] = refl
map_drop f (suc n) (x ∷ xs) = map_drop f n xs

map_insert : {X Y : Type 0} (f : X → Y) (xs : List X) (n : ℕ) (x : X) → map f (insert xs n x) ≡ insert (map f xs) n (f x)
map_insert f xs n x =
    map-append f (take n xs) (x ∷ drop n xs)
    ∙ ap (λ ys. ys ++ map f (x ∷ drop n xs)) (sym (take-map f n xs))
    ∙ ap (λ ys. take n (map f xs) ++ f x ∷ ys) (map_drop f n xs)

-- the first of a list with one more, which is one of them
insert_first : {X : Type 0} (most n : ℕ) (xs : List X) (x : X) → n ≤ most → insert (take most xs) n x ≡ take (suc most) (insert xs n x)
insert_first most zero xs x within = refl
insert_first zero (suc n) xs x within = absurd (omega arith)
insert_first (suc most) (suc n) [] x within = refl
insert_first (suc most) (suc n) (y ∷ xs) x within = ap (λ ys. y ∷ ys) (insert_first most n xs x (omega arith))

-- and which isn't
insert_behind : {X : Type 0} (most n : ℕ) (xs : List X) (x : X) → most ≤ n → n ≤ length xs → length xs ≤ most → xs ≡ take most (insert xs n x)
insert_behind most n xs x behind within few =
    let here : n ≡ length xs = omega arith in
    let whole : take n xs ≡ xs = take_all n xs (omega arith) in
    sym (ap (λ ys. take most (ys ++ x ∷ drop n xs)) whole ∙ take-append-le most xs (x ∷ drop n xs) (omega arith) ∙ take_all most xs few)

abbrev pub texts : List (Bor (List ℕ)) → List (List ℕ)
texts names = map (λ (n : Bor (List ℕ)). n.now) names

pub place_within : (name : List ℕ) (names : List (List ℕ)) → position_or_len (comes_first name) names ≤ length names
place_within name names = prefix_len-le-length (λ (n : List ℕ). not (comes_first name n)) names

pub put_in_place : (names : List (Bor (List ℕ))) (name : Bor (List ℕ)) (place : ℕ) → place ≡ position_or_len (comes_first name.now) (texts names) → place < MOST_NAMES
    → texts (insert (take 15 names) place name) ≡ take MOST_NAMES (with_name name.now (texts names))
put_in_place names name place is within =
    map_insert (λ (n : Bor (List ℕ)). n.now) (take 15 names) place name
    ∙ ap (λ (ns : List (List ℕ)). insert ns place name.now) (sym (take-map (λ (n : Bor (List ℕ)). n.now) 15 names))
    ∙ insert_first 15 place (texts names) name.now (omega arith)
    ∙ ap (λ n. take MOST_NAMES (insert (texts names) n name.now)) is

pub out_of_place : (names : List (Bor (List ℕ))) (name : Bor (List ℕ)) (place : ℕ) → place ≡ position_or_len (comes_first name.now) (texts names) → MOST_NAMES ≤ place → length (texts names) ≤ MOST_NAMES
    → texts names ≡ take MOST_NAMES (with_name name.now (texts names))
out_of_place names name place is behind few =
    insert_behind MOST_NAMES place (texts names) name.now behind (omega (arith, is, place_within name.now (texts names))) few
    ∙ ap (λ n. take MOST_NAMES (insert (texts names) n name.now)) is

-- ---- the place, looked for from the end
turned : (o : Ordering) → is_lt (ordering_reverse o) ≡ is_gt o
turned Less = refl
turned Equal = refl
turned Greater = refl

no_more : (o : Ordering) → is_le o ≡ true → is_gt o ≡ false
no_more Less le = refl
no_more Equal le = refl
no_more Greater le = absurd (false≢true le)

more : (o : Ordering) → is_le o ≡ false → is_gt o ≡ true
more Less le = absurd (false≢true (sym le))
more Equal le = absurd (false≢true (sym le))
more Greater le = refl

-- a name behind one of a list in order is behind all before that
behind_all : (name : List ℕ) (names : List (List ℕ)) (place : ℕ) (d : List ℕ) → IsSorted (slice_cmp nat_cmp) names → place < length names
    → comes_first name (get_or names place d) ≡ false → (k : ℕ) → k ≤ place → comes_first name (get_or names k d) ≡ false
behind_all name names place d sorted within behind k before_it = one (comes_first name (get_or names k d)) refl
  where
    rises : is_gt (slice_cmp nat_cmp (get_or names k d) (get_or names place d)) ≡ false
    rises =
        sym (turned (slice_cmp nat_cmp (get_or names k d) (get_or names place d)))
        ∙ sym (ap is_lt (nat_list_cmp_total.antisymm (get_or names place d) (get_or names k d)))
        ∙ sorted_far before (ranks_by nat_list_cmp_total (λ (n : List ℕ). n)) names sorted k place d before_it within

    one : (b : Bool) → comes_first name (get_or names k d) ≡ b → b ≡ false
    one false is = refl
    one true is = absurd (false≢true (
        sym (upto nat_list_cmp_total name (get_or names k d) (get_or names place d) (no_more (slice_cmp nat_cmp name (get_or names k d)) is) rises)
        ∙ more (slice_cmp nat_cmp name (get_or names place d)) behind))

-- the place is where the search ends: at the start, or behind a name that comes first
pub at_start : (name : List ℕ) (names : List (List ℕ)) (place : ℕ) → place ≡ 0 → ((d : List ℕ) → place < length names → comes_first name (get_or names place d) ≡ true)
    → place ≡ position_or_len (comes_first name) names
at_start name names place start behind =
    sym (position_or_len_is (comes_first name) names place [] (omega arith) (λ k l. absurd (omega (arith, l, start))) (behind []))

pub at_place : (name : List ℕ) (names : List (List ℕ)) (place : ℕ) (d : List ℕ) → IsSorted (slice_cmp nat_cmp) names → 0 < place → place ≤ length names
    → comes_first name (get_or names (place - 1) d) ≡ false → ((d : List ℕ) → place < length names → comes_first name (get_or names place d) ≡ true)
    → place ≡ position_or_len (comes_first name) names
at_place name names place d sorted some within first behind =
    sym (position_or_len_is (comes_first name) names place d within
    (λ k l. behind_all name names (place - 1) d sorted (omega arith) first k (omega (arith, l))) (behind d))

-- ---- one entity more
next_taken : (es : List Entity) (i : ℕ) (e : Entity) → i < length es → e ≡ get_or es i e → take (i + 1) es ≡ take i es ++ e ∷ []
next_taken es i e within is = take_more es i e within ∙ ap (λ (x : Entity). take i es ++ x ∷ []) (sym is)

pub entry_kept : (dir : Id) (es : List Entity) (i : ℕ) (e : Entity) (first new : List (List ℕ)) → i < length es → e ≡ get_or es i e → is_entry dir e.what ≡ true
    → first ≡ take MOST_NAMES (in_byte_order (raw_names dir (take i es))) → new ≡ take MOST_NAMES (with_name e.name first)
    → new ≡ take MOST_NAMES (in_byte_order (raw_names dir (take (i + 1) es)))
entry_kept dir es i e first new within is entry so_far new_is =
    new_is
    ∙ first_push (raw_names dir (take i es)) first e.name so_far
    ∙ ap (λ (ns : List (List ℕ)). take MOST_NAMES (in_byte_order ns)) (sym (names_yes dir (take i es) e entry))
    ∙ ap (λ (xs : List Entity). take MOST_NAMES (in_byte_order (raw_names dir xs))) (sym (next_taken es i e within is))

pub other_passed : (dir : Id) (es : List Entity) (i : ℕ) (e : Entity) (first : List (List ℕ)) → i < length es → e ≡ get_or es i e → is_entry dir e.what ≡ false
    → first ≡ take MOST_NAMES (in_byte_order (raw_names dir (take i es))) → first ≡ take MOST_NAMES (in_byte_order (raw_names dir (take (i + 1) es)))
other_passed dir es i e first within is entry so_far =
    so_far
    ∙ ap (λ (ns : List (List ℕ)). take MOST_NAMES (in_byte_order ns)) (sym (names_no dir (take i es) e entry))
    ∙ ap (λ (xs : List Entity). take MOST_NAMES (in_byte_order (raw_names dir xs))) (sym (next_taken es i e within is))

pub texts_few : (names : List (Bor (List ℕ))) (n : ℕ) → length names ≤ n → length (texts names) ≤ n
texts_few names n few = omega (arith, few, length-map names (λ (x : Bor (List ℕ)). x.now))

pub few_texts : (names : List (Bor (List ℕ))) (n : ℕ) → length (texts names) ≤ n → length names ≤ n
few_texts names n few = omega (arith, few, length-map names (λ (x : Bor (List ℕ)). x.now))

pub texts_length : (names : List (Bor (List ℕ))) → length (texts names) ≡ length names
texts_length names = length-map names (λ (x : Bor (List ℕ)). x.now)

-- the name at a place doesn't come behind this one
pub found_place : (name : List ℕ) (names : List (Bor (List ℕ))) (place : ℕ) (r : Bor (List ℕ)) (b : Bool) → IsSorted (slice_cmp nat_cmp) (texts names) → 0 < place → place ≤ length names
    → b ≡ is_le (slice_cmp nat_cmp name (get_or names (place - 1) r).now) → b ≡ false
    → ((d : List ℕ) → place < length names → comes_first name (get_or (texts names) place d) ≡ true)
    → place ≡ position_or_len (comes_first name) (texts names)
found_place name names place r b sorted some within is behind from_place =
    let size : length (texts names) ≡ length names = texts_length names in
    let read : get_or (texts names) (place - 1) [] ≡ (get_or names (place - 1) r).now = get_or-map (λ (x : Bor (List ℕ)). x.now) names (place - 1) r [] (omega arith) in
    at_place name (texts names) place [] sorted some (omega (arith, size)) (ap (comes_first name) read ∙ sym is ∙ behind) (λ d l. from_place d (omega (arith, l, size)))
