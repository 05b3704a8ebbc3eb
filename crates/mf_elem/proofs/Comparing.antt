-- How rising lists of numbers that pass compare, and by which bits of their words two sets do.
use Rattle.std.proofs.Common.{◌≡◌, ℕ, ◌+◌, ◌-◌, ◌*◌, ◌/◌, ◌%◌, ◌^◌, ◌<◌, ◌≤◌, zero, suc, Bool, true, false, not, cond, ◌||◌, eqb, List, [], ◌∷◌, filter, get_or, bit_and, bit_xor, ◌≢◌, inl, inr, refl, ap, sym, ◌∙◌, subst, arith, w64}
use Rattle.std.specs.Prelude.{nat_lt, nat_eq}
use Rattle.std.specs.Int.{bit_at, trailing_zeros}
use Rattle.std.specs.List.{AllByRecursion, list_any, range_with_len}
use Rattle.std.specs.Ordering.{nat_cmp, ordering_then}
use Rattle.std.specs.declared.cmp.Ordering.{Ordering}
use Rattle.std.specs.declared.cmp.Ordering.TheVariants.{Less, Equal, Greater}
use Rattle.std.specs.Cmp.{tied_itself}
use Rattle.std.specs.Cmp.Lexicographic.{slice_cmp, nat_list_cmp_total}
use Rattle.std.proofs.lemmas.Nat.{pow_pos, div-add-mod', mod_below, xor_lt}
use Rattle.std.proofs.lemmas.Bool.{cases_lt, ne_eqb}
use Rattle.std.proofs.lemmas.Bool.Decides.{nat_tests}
use Rattle.std.proofs.lemmas.Grind.{same_number_lists}
use Rattle.std.proofs.lemmas.Nat.Bits.{bit_at-lt, bit_at-zero, bit_at-trailing_zeros, bit_at_cat_high, bit_at_xor, bit_at_above, shr_and_one, same_from_bits, same_from_bits_below}
use Rattle.mf_elem.specs.Bounds.{AreWords}
use Rattle.mf_elem.specs.Comps.{DifferFirstAt, is_there, rising}
use Rattle.mf_elem.proofs.CompsLaws.{is_bit, is_bit_at, there_is_bit}

-- the numbers that pass are no less than the first
above : (test : ℕ → Bool) (least a more : ℕ) → least < a → AllByRecursion (λ m. least < m) (filter test (range_with_len a more))
above test least a zero l = tt
above test least a (suc more) l = one (test a) (above test least (a + 1) more (omega arith))
  where
    one : (b : Bool) → AllByRecursion (λ m. least < m) (filter test (range_with_len (a + 1) more))
        → AllByRecursion (λ m. least < m) (cond b (a ∷ filter test (range_with_len (a + 1) more)) (filter test (range_with_len (a + 1) more)))
    one true rest = (l, rest)
    one false rest = rest

first_is : (test : ℕ → Bool) (ns : List ℕ) → list_any test ns ≡ false → filter test ns ≡ []
first_is test [] none = refl
first_is test (n ∷ ns) none = one (test n) none (first_is test ns)
  where
    one : (b : Bool) → (b || list_any test ns) ≡ false → (list_any test ns ≡ false → filter test ns ≡ []) → cond b (n ∷ filter test ns) (filter test ns) ≡ []
    one true none rest = cc
    one false none rest = rest none

less : (a b : ℕ) → a < b → nat_cmp a b ≡ Less
less a b l =
    let test : nat_lt a b ≡ true = grind (arith, nat_tests) in
    rw test refl

greater : (a b : ℕ) → b < a → nat_cmp a b ≡ Greater
greater a b l =
    let test : nat_lt a b ≡ false = grind (arith, nat_tests) in
    let other : nat_eq a b ≡ false = grind (arith, nat_tests) in
    rw (test, other) refl

equal : (a : ℕ) → nat_cmp a a ≡ Equal
equal a =
    let test : nat_lt a a ≡ false = grind (arith, nat_tests) in
    let other : nat_eq a a ≡ true = grind (arith, nat_tests) in
    rw (test, other) refl

some_there : (test : ℕ → Bool) (ns : List ℕ) → list_any test ns ≡ true → (m : ℕ) × (rest : List ℕ) × (filter test ns ≡ m ∷ rest)
some_there test [] some = cc
some_there test (n ∷ ns) some = one (test n) some (some_there test ns)
  where
    one : (b : Bool) → (b || list_any test ns) ≡ true → (list_any test ns ≡ true → (m : ℕ) × (rest : List ℕ) × (filter test ns ≡ m ∷ rest))
        → (m : ℕ) × (rest : List ℕ) × (cond b (n ∷ filter test ns) (filter test ns) ≡ m ∷ rest)
    one true some rest = (n, filter test ns, refl)
    one false some rest = rest some

-- a number that the one list alone has comes first, unless the other is at its end
in_front : (n : ℕ) (mine theirs : List ℕ) (test : ℕ → Bool) (ns : List ℕ) (b : Bool) → theirs ≡ filter test ns → AllByRecursion (λ m. n < m) theirs → list_any test ns ≡ b
    → slice_cmp nat_cmp (n ∷ mine) theirs ≡ cond b Less Greater
in_front n mine theirs test ns true is all some =
    let there = some_there test ns some in
    let head : theirs ≡ there.0 ∷ there.1 = is ∙ there.2 in
    let more : n < there.0 = (subst (AllByRecursion (λ (m : ℕ). n < m)) head all).0 in
    rw head (ap (λ (o : Ordering). ordering_then o (slice_cmp nat_cmp mine there.1)) (less n there.0 more))
in_front n mine theirs test ns false is all none = rw (is, first_is test ns none) refl

in_front_theirs : (n : ℕ) (mine theirs : List ℕ) (test : ℕ → Bool) (ns : List ℕ) (b : Bool) → mine ≡ filter test ns → AllByRecursion (λ m. n < m) mine → list_any test ns ≡ b
    → slice_cmp nat_cmp mine (n ∷ theirs) ≡ cond b Greater Less
in_front_theirs n mine theirs test ns true is all some =
    let there = some_there test ns some in
    let head : mine ≡ there.0 ∷ there.1 = is ∙ there.2 in
    let more : n < there.0 = (subst (AllByRecursion (λ (m : ℕ). n < m)) head all).0 in
    rw head (ap (λ (o : Ordering). ordering_then o (slice_cmp nat_cmp there.1 theirs)) (greater there.0 n more))
in_front_theirs n mine theirs test ns false is all none = rw (is, first_is test ns none) refl

-- how the numbers from one on that pass compare
abbrev pub compared : (ℕ → Bool) → (ℕ → Bool) → ℕ → ℕ → Ordering
compared f g a more = slice_cmp nat_cmp (filter f (range_with_len a more)) (filter g (range_with_len a more))

-- a number that both have or neither leaves the order
same_front : (f g : ℕ → Bool) (a more : ℕ) → f a ≡ g a → compared f g a (suc more) ≡ compared f g (a + 1) more
same_front f g a more same = one (f a) (g a) same
  where
    mine : List ℕ
    mine = filter f (range_with_len (a + 1) more)

    theirs : List ℕ
    theirs = filter g (range_with_len (a + 1) more)

    one : (b c : Bool) → b ≡ c → slice_cmp nat_cmp (cond b (a ∷ mine) mine) (cond c (a ∷ theirs) theirs) ≡ slice_cmp nat_cmp mine theirs
    one true true same = ap (λ (o : Ordering). ordering_then o (slice_cmp nat_cmp mine theirs)) (equal a)
    one false false same = refl
    one true false same = cc
    one false true same = cc

-- so do many
same_fronts : (f g : ℕ → Bool) (k a more : ℕ) → k ≤ more → ((q : ℕ) → q < k → f (a + q) ≡ g (a + q)) → compared f g a more ≡ compared f g (a + k) (more - k)
same_fronts f g zero a more within same =
    let here : a + 0 ≡ a = omega arith in
    let all : more - 0 ≡ more = omega arith in
    rw (here, all) refl
same_fronts f g (suc k) a more within same =
    let rest : more - k ≡ suc (more - suc k) = omega arith in
    let next : a + k + 1 ≡ a + suc k = omega arith in
    same_fronts f g k a more (omega arith) (λ q l. same q (omega (arith, l)))
    ∙ ap (compared f g (a + k)) rest
    ∙ same_front f g (a + k) (more - suc k) (same k (omega arith))
    ∙ ap (λ n. compared f g n (more - suc k)) next

not_false : (b : Bool) → true ≡ not b → b ≡ false
not_false true e = cc
not_false false e = refl

not_true : (b : Bool) → false ≡ not b → b ≡ true
not_true true e = refl
not_true false e = cc

behind_first : (g : ℕ → Bool) (a more : ℕ) → g a ≡ false → list_any g (range_with_len a (suc more)) ≡ list_any g (range_with_len (a + 1) more)
behind_first g a more none = rw none refl

-- the first that differs
mine_first : (f g : ℕ → Bool) (a more : ℕ) (some : Bool) → f a ≡ true → g a ≡ false → some ≡ list_any g (range_with_len a (suc more)) → cond some Less Greater ≡ compared f g a (suc more)
mine_first f g a more some has hasnt is =
    let any : list_any g (range_with_len (a + 1) more) ≡ some = sym (is ∙ behind_first g a more hasnt) in
    let ns : List ℕ = range_with_len (a + 1) more in
    rw (has, hasnt) (sym (in_front a (filter f ns) (filter g ns) g ns some refl (above g a (a + 1) more (omega arith)) any))

theirs_first : (f g : ℕ → Bool) (a more : ℕ) (some : Bool) → f a ≡ false → g a ≡ true → some ≡ list_any f (range_with_len a (suc more)) → cond some Greater Less ≡ compared f g a (suc more)
theirs_first f g a more some hasnt has is =
    let any : list_any f (range_with_len (a + 1) more) ≡ some = sym (is ∙ behind_first f a more hasnt) in
    let ns : List ℕ = range_with_len (a + 1) more in
    rw (has, hasnt) (sym (in_front_theirs a (filter f ns) (filter g ns) f ns some refl (above f a (a + 1) more (omega arith)) any))

-- two sets compare from the place on in which they differ first
from_place : (words others : List ℕ) (place : ℕ) → DifferFirstAt words others place
    → compared (is_there words) (is_there others) 1 256 ≡ compared (is_there words) (is_there others) (place + 1) (suc (255 - place))
from_place words others place first =
    let rest : 256 - place ≡ suc (255 - place) = omega (arith, first.within) in
    let here : 1 + place ≡ place + 1 = omega arith in
    same_fronts (is_there words) (is_there others) place 1 256 (omega (arith, first.within))
    (λ q l. let at : 1 + q ≡ q + 1 = omega arith in rw at (first.same q l))
    ∙ ap (compared (is_there words) (is_there others) (1 + place)) rest
    ∙ ap (λ a. compared (is_there words) (is_there others) a (suc (255 - place))) here

rising_order : (words others : List ℕ) → compared (is_there words) (is_there others) 1 256 ≡ slice_cmp nat_cmp (rising (record { words = words })) (rising (record { words = others }))
unfolding rising
rising_order words others = refl

any_rest : (words : List ℕ) (place : ℕ) → place < 256 → list_any (is_there words) (range_with_len (place + 1) (256 - place)) ≡ list_any (is_there words) (range_with_len (place + 1) (suc (255 - place)))
any_rest words place within =
    let rest : 256 - place ≡ suc (255 - place) = omega arith in
    ap (λ n. list_any (is_there words) (range_with_len (place + 1) n)) rest

pub mine_is_first : (words others : List ℕ) (place : ℕ) (some : Bool) → DifferFirstAt words others place → is_there words (place + 1) ≡ true
    → some ≡ list_any (is_there others) (range_with_len (place + 1) (256 - place))
    → cond some Less Greater ≡ slice_cmp nat_cmp (rising (record { words = words })) (rising (record { words = others }))
mine_is_first words others place some first has is =
    mine_first (is_there words) (is_there others) (place + 1) (255 - place) some has (not_false (is_there others (place + 1)) (sym has ∙ first.differ)) (is ∙ any_rest others place first.within)
    ∙ sym (from_place words others place first)
    ∙ rising_order words others

pub theirs_is_first : (words others : List ℕ) (place : ℕ) (some : Bool) → DifferFirstAt words others place → is_there words (place + 1) ≡ false
    → some ≡ list_any (is_there words) (range_with_len (place + 1) (256 - place))
    → cond some Greater Less ≡ slice_cmp nat_cmp (rising (record { words = words })) (rising (record { words = others }))
theirs_is_first words others place some first hasnt is =
    theirs_first (is_there words) (is_there others) (place + 1) (255 - place) some hasnt (not_true (is_there others (place + 1)) (sym hasnt ∙ first.differ)) (is ∙ any_rest words place first.within)
    ∙ sym (from_place words others place first)
    ∙ rising_order words others

-- ---- the place of the first
pub there_at : (words : List ℕ) (m : ℕ) → is_there words (m + 1) ≡ is_bit words m
there_at words m = let next : m + 1 ≡ suc m = omega arith in ap (is_there words) next ∙ there_is_bit words m

bit_there : (words : List ℕ) (k i : ℕ) → i < 64 → is_there words (64 * k + i + 1) ≡ eqb (bit_at (get_or words k 0) i) 1
bit_there words k i l = there_at words (64 * k + i) ∙ is_bit_at words k i l

bits_same : (a b : ℕ) → a < 2 → b < 2 → (a + b) % 2 ≡ 0 → a ≡ b
bits_same a b la lb e = omega arith

bits_differ : (a b : ℕ) → a < 2 → b < 2 → (a + b) % 2 ≡ 1 → eqb a 1 ≡ not (eqb b 1)
bits_differ zero zero la lb e = absurd (omega arith)
bits_differ zero (suc zero) la lb e = refl
bits_differ (suc zero) zero la lb e = refl
bits_differ (suc zero) (suc zero) la lb e = absurd (omega arith)
bits_differ (suc (suc a)) b la lb e = absurd (omega arith)
bits_differ a (suc (suc b)) la lb e = absurd (omega arith)

xor_fits : (a b : ℕ) → a < 2 ^ 64 → b < 2 ^ 64 → bit_xor a b < 2 ^ 64
xor_fits a b la lb = xor_lt 64 a b la lb

pub no_difference : (a b : ℕ) → a < 2 ^ 64 → b < 2 ^ 64 → bit_xor a b ≡ 0 → a ≡ b
no_difference a b la lb none =
    same_from_bits_below 64 a b la lb (λ i l.
    bits_same (bit_at a i) (bit_at b i) (bit_at-lt a i) (bit_at-lt b i) (sym (bit_at_xor a b i) ∙ ap (λ n. bit_at n i) none ∙ bit_at-zero i))

pub first_difference : (words others : List ℕ) (k : ℕ) → k < 4 → AreWords words → AreWords others → ((j : ℕ) → j < k → get_or words j 0 ≡ get_or others j 0)
    → 0 < bit_xor (get_or words k 0) (get_or others k 0)
    → DifferFirstAt words others (64 * k + trailing_zeros w64 (bit_xor (get_or words k 0) (get_or others k 0)))
first_difference words others k within are are_too same some =
    let a : ℕ = get_or words k 0 in
    let b : ℕ = get_or others k 0 in
    let t : ℕ = trailing_zeros w64 (bit_xor a b) in
    let lowest = bit_at-trailing_zeros w64 (bit_xor a b) some (xor_fits a b (are.fit k) (are_too.fit k)) in
    let small : t < 64 = lowest.0 in
    record {
      within = omega (arith, small);
      same = λ m l. same_below words others k same m
          (λ i li here. bits_same (bit_at a i) (bit_at b i) (bit_at-lt a i) (bit_at-lt b i) (sym (bit_at_xor a b i) ∙ lowest.2 i (omega (arith, l, here))))
          (omega (arith, l, small));
      differ =
          bit_there words k t small
          ∙ bits_differ (bit_at a t) (bit_at b t) (bit_at-lt a t) (bit_at-lt b t) (sym (bit_at_xor a b t) ∙ lowest.1)
          ∙ ap not (sym (bit_there others k t small));
    }
  where
    same_below : (words others : List ℕ) (k : ℕ) → ((j : ℕ) → j < k → get_or words j 0 ≡ get_or others j 0) → (m : ℕ)
        → ((i : ℕ) → i < 64 → 64 * k + i ≡ m → bit_at (get_or words k 0) i ≡ bit_at (get_or others k 0) i)
        → m < 64 * k + 64 → is_there words (m + 1) ≡ is_there others (m + 1)
    same_below words others k same m here l =
        there_at words m
        ∙ (elim (cases_lt (m / 64) k) [
          | inl below ↦ ap (λ w. eqb (bit_at w (m % 64)) 1) (same (m / 64) below)
          | inr not_below ↦
              let at : m / 64 ≡ k = omega arith in
              ap (λ j. eqb (bit_at (get_or words j 0) (m % 64)) 1) at
              ∙ ap (λ n. eqb n 1) (here (m % 64) (omega arith) (omega arith))
              ∙ ap (λ j. eqb (bit_at (get_or others j 0) (m % 64)) 1) (sym at)
        ])
        ∙ sym (there_at others m)

pub equal_words : (words others : List ℕ) → AreWords words → AreWords others → ((j : ℕ) → j < 4 → get_or words j 0 ≡ get_or others j 0)
    → Equal ≡ slice_cmp nat_cmp (rising (record { words = words })) (rising (record { words = others }))
equal_words words others are are_too same =
    let is : words ≡ others = same_number_lists words others (are.four ∙ sym are_too.four) (λ k l. same k (omega (arith, l, are.four))) in
    sym (ap (λ (ws : List ℕ). slice_cmp nat_cmp (rising (record { words = words })) (rising (record { words = ws }))) (sym is) ∙ tied_itself nat_list_cmp_total (rising (record { words = words })))

-- ---- whether a bit is set from a place on
none_in : (f : ℕ → Bool) (a more : ℕ) → list_any f (range_with_len a more) ≡ false → (q : ℕ) → a ≤ q → q < a + more → f q ≡ false
none_in f a zero none q least most = absurd (omega arith)
none_in f a (suc more) none q least most =
    let split = both_false (f a) (list_any f (range_with_len (a + 1) more)) none in
    elim (cases_lt a q) [
      | inl behind ↦ none_in f (a + 1) more split.1 q (omega (arith, behind)) (omega arith)
      | inr here ↦ let at : q ≡ a = omega arith in ap f at ∙ split.0
    ]
  where
    both_false : (b c : Bool) → (b || c) ≡ false → (b ≡ false) × (c ≡ false)
    both_false true c h = cc
    both_false false c h = (refl, h)

none_of : (f : ℕ → Bool) (a more : ℕ) → ((q : ℕ) → a ≤ q → q < a + more → f q ≡ false) → list_any f (range_with_len a more) ≡ false
none_of f a zero none = refl
none_of f a (suc more) none =
    let first : f a ≡ false = none a (omega arith) (omega arith) in
    rw first (none_of f (a + 1) more (λ q least most. none q (omega (arith, least)) (omega (arith, most))))

shifted : (n i j : ℕ) → bit_at (n / 2 ^ i) j ≡ bit_at n (i + j)
shifted n i j =
    let whole : n / 2 ^ i * 2 ^ i + n % 2 ^ i ≡ n = div-add-mod' n (2 ^ i) in
    let left : i + j - i ≡ j = omega arith in
    sym (ap (λ m. bit_at m (i + j)) (sym whole)
    ∙ bit_at_cat_high (n / 2 ^ i) i (n % 2 ^ i) (i + j) (mod_below n (2 ^ i) (pow_pos i)) (omega arith)
    ∙ ap (bit_at (n / 2 ^ i)) left)

no_one : (b : ℕ) → b < 2 → eqb b 1 ≡ false → b ≡ 0
no_one zero l e = refl
no_one (suc zero) l e = cc
no_one (suc (suc b)) l e = absurd (omega arith)

not_one : (b : ℕ) → b ≡ 0 → eqb b 1 ≡ false
not_one b e = ap (λ n. eqb n 1) e

-- a part of a word that isn't 0 has a bit
pub some_from : (words : List ℕ) (place i j : ℕ) → place ≤ 64 * j + i → j < 4 → AreWords words → get_or words j 0 / 2 ^ i ≢ 0
    → true ≡ list_any (is_there words) (range_with_len (place + 1) (256 - place))
some_from words place i j least four are some = one (list_any (is_there words) (range_with_len (place + 1) (256 - place))) refl
  where
    one : (b : Bool) → list_any (is_there words) (range_with_len (place + 1) (256 - place)) ≡ b → true ≡ b
    one true is = refl
    one false is = absurd (some (same_from_bits (get_or words j 0 / 2 ^ i) 0 (λ l.
        shifted (get_or words j 0) i l
        ∙ (elim (cases_lt (i + l) 64) [
          | inl within ↦
              no_one (bit_at (get_or words j 0) (i + l)) (bit_at-lt (get_or words j 0) (i + l))
              (sym (bit_there words j (i + l) within)
              ∙ none_in (is_there words) (place + 1) (256 - place) is (64 * j + (i + l) + 1) (omega arith) (omega (arith, within)))
          | inr over ↦ bit_at_above (get_or words j 0) 64 (i + l) (are.fit j) over
        ])
        ∙ sym (bit_at-zero l))))

pub none_from : (words : List ℕ) (place : ℕ) → place < 256 → get_or words (place / 64) 0 / 2 ^ (place % 64) ≡ 0
    → ((j : ℕ) → place / 64 < j → j < 4 → get_or words j 0 ≡ 0)
    → false ≡ list_any (is_there words) (range_with_len (place + 1) (256 - place))
none_from words place within first others =
    sym (none_of (is_there words) (place + 1) (256 - place) (λ q least most.
    let m : ℕ = q - 1 in
    let next : q ≡ m + 1 = omega (arith, least) in
    ap (is_there words) next
    ∙ there_at words m
    ∙ not_one (bit_at (get_or words (m / 64) 0) (m % 64)) (at m (omega (arith, least)) (omega (arith, least, most)))))
  where
    at : (m : ℕ) → place ≤ m → m < 256 → bit_at (get_or words (m / 64) 0) (m % 64) ≡ 0
    at m least most = elim (cases_lt (place / 64) (m / 64)) [
      | inl later ↦ ap (λ w. bit_at w (m % 64)) (others (m / 64) later (omega arith)) ∙ bit_at-zero (m % 64)
      | inr same ↦
          let word : m / 64 ≡ place / 64 = omega arith in
          let bit : m % 64 ≡ place % 64 + (m % 64 - place % 64) = omega arith in
          ap (λ k. bit_at (get_or words k 0) (m % 64)) word
          ∙ ap (bit_at (get_or words (place / 64) 0)) bit
          ∙ sym (shifted (get_or words (place / 64) 0) (place % 64) (m % 64 - place % 64))
          ∙ ap (λ w. bit_at w (m % 64 - place % 64)) first
          ∙ bit_at-zero (m % 64 - place % 64)
    ]

pub some_word : (words : List ℕ) (place j : ℕ) → place / 64 < j → j < 4 → AreWords words → get_or words j 0 ≢ 0
    → true ≡ list_any (is_there words) (range_with_len (place + 1) (256 - place))
some_word words place j later four are some =
    let whole : get_or words j 0 / 2 ^ 0 ≡ get_or words j 0 = omega arith in
    some_from words place 0 j (omega (arith, later)) four are (λ none. some (sym whole ∙ none))

-- ---- the bit that is read
pub there : (words : List ℕ) (place : ℕ) → bit_and (get_or words (place / 64) 0 / 2 ^ (place % 64)) 1 ≡ 1 → is_there words (place + 1) ≡ true
there words place one =
    there_at words place ∙ ap (λ b. eqb b 1) (sym (shr_and_one (get_or words (place / 64) 0) (place % 64)) ∙ one)

pub not_there : (words : List ℕ) (place : ℕ) → bit_and (get_or words (place / 64) 0 / 2 ^ (place % 64)) 1 ≢ 1 → is_there words (place + 1) ≡ false
not_there words place other =
    there_at words place
    ∙ ne_eqb (bit_at (get_or words (place / 64) 0) (place % 64)) 1 (λ e. other (shr_and_one (get_or words (place / 64) 0) (place % 64) ∙ e))
