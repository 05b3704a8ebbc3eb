-- What a set of compartments contains, and that its words are those that it came from.
use Rattle.std.proofs.Common.{◌≡◌, ℕ, ◌+◌, ◌-◌, ◌*◌, ◌/◌, ◌%◌, ◌^◌, ◌<◌, ◌≤◌, Bool, true, false, cond, eqb, ltb, ◌&&◌, List, [], ◌∷◌, length, get_or, set as set_at, bit_or, bit_and, filter, min, length-set, ◌⊎◌, ◌≢◌, w64, refl, sym, ap, ◌∙◌, subst, arith, suc, zero, inl, inr, lit<, add-one}
use Rattle.std.proofs.lemmas.Bool.{cases_lt, cases_eq, ltb-true, eqb-true, lt-ltb, le-ltb}
use Rattle.std.proofs.Math.Nat.{mod-eq_of_lt}
use Rattle.std.proofs.Math.Pow.{pow-lt}
use Rattle.std.proofs.lemmas.Nat.{or_lt, and_le_l}
use Rattle.std.proofs.lemmas.Grind.{common_steps, same_number_lists}
use Rattle.std.specs.Int.{bit_at}
use Rattle.std.specs.Ordering.{nat_cmp}
use Rattle.std.specs.FinSet as set
use Rattle.std.specs.FinSet.{FinSet, members, contains-from_list_nat, contains-empty, contains-is_subset, is_subset-contains, same_set, nat_cmp-IsAntisymmetric}
use Rattle.std.specs.Cmp.{nat_cmp_total}
use Rattle.std.proofs.lemmas.Nat.Bits.{same_from_bits_below, bit_at-lt, bit_at-zero, bit_at_set_same, bit_at_set_other, bit_at_and}
use Rattle.std.proofs.lemmas.List.{get_or-set_same, get_or-set_other}
use Rattle.mf_elem.specs.Comps.{is_there, rising, compartments_of, no_comps, with_compartment}
use Rattle.mf_elem.specs.OfSets.{number_with, word_of, words_of, comps_of}
use Rattle.mf_elem.specs.declared.comps.Comps.{Comps}
use Rattle.mf_elem.proofs.NumberBits.{bit_at_with, bits_with}
use Rattle.mf_elem.proofs.Among.{numbers_to, range_is, among_is, above, zero_not_among, filter_same}
use Rattle.mf_elem.specs.Bounds.{AreWords}

-- whether the bit of this place is set, counted through the words
abbrev pub is_bit : List ℕ → ℕ → Bool
is_bit words i = eqb (bit_at (get_or words (i / 64) 0) (i % 64)) 1

-- the set that four words stand for
abbrev pub numbers_of : List ℕ → FinSet nat_cmp
numbers_of words = compartments_of (record { words = words })

pub there_is_bit : (words : List ℕ) (m : ℕ) → is_there words (suc m) ≡ is_bit words m
there_is_bit words m = let e : suc m - 1 ≡ m = omega arith in ap (is_bit words) e

all_within : (m : ℕ) (b : Bool) → ltb m 256 ≡ true → (ltb m 256 && b) ≡ b
all_within m b h = rw h refl

none_over : (m : ℕ) (b : Bool) → ltb m 256 ≡ false → (ltb m 256 && b) ≡ false
none_over m b h = rw h refl

-- ---- what the set contains, number by number
pub rising_to : (comps : Comps) → rising comps ≡ filter (is_there comps.words) (numbers_to 256)
unfolding rising
rising_to comps = ap (filter (is_there comps.words)) (range_is 256)

among_rising : (words : List ℕ) (q : ℕ) → set.contains (numbers_of words) q ≡ set.contains (set.from_list {K = ℕ} {R = nat_cmp} (filter (is_there words) (numbers_to 256))) q
among_rising words q = ap (λ (ns : List ℕ). set.contains (set.from_list {K = ℕ} {R = nat_cmp} ns) q) (rising_to (record { words = words }))

pub contains_suc : (words : List ℕ) (m : ℕ) → set.contains (numbers_of words) (suc m) ≡ (ltb m 256 && is_bit words m)
contains_suc words m =
    among_rising words (suc m)
    ∙ contains-from_list_nat (filter (is_there words) (numbers_to 256)) (suc m)
    ∙ (elim (cases_lt m 256) [
      | inl within ↦
          among_is (is_there words) 256 (suc m) (omega arith) (omega (arith, within))
          ∙ there_is_bit words m
          ∙ sym (all_within m (is_bit words m) (lt-ltb m 256 within))
      | inr over ↦ above (is_there words) 256 (suc m) (omega (arith, over)) ∙ sym (none_over m (is_bit words m) (le-ltb m 256 over))
    ])

pub contains_zero : (words : List ℕ) → set.contains (numbers_of words) 0 ≡ false
contains_zero words = among_rising words 0 ∙ contains-from_list_nat (filter (is_there words) (numbers_to 256)) 0 ∙ zero_not_among (is_there words) 256

-- the rising compartments are those that the set contains
pub rising_contained : (comps : Comps) → rising comps ≡ filter (set.contains (compartments_of comps)) (numbers_to 256)
rising_contained comps =
    let test : ℕ → Bool = is_there comps.words in
    rising_to comps
    ∙ filter_same test (set.contains (compartments_of comps)) 256 (λ q least most.
    sym (among_rising comps.words q ∙ contains-from_list_nat (filter test (numbers_to 256)) q ∙ among_is test 256 q least most))

-- a place in a word, counted through the words
place_word : (k i : ℕ) → i < 64 → (64 * k + i) / 64 ≡ k
place_word k i h = omega arith

place_bit : (k i : ℕ) → i < 64 → (64 * k + i) % 64 ≡ i
place_bit k i h = omega arith

pub is_bit_at : (words : List ℕ) (k i : ℕ) → i < 64 → is_bit words (64 * k + i) ≡ eqb (bit_at (get_or words k 0) i) 1
is_bit_at words k i h =
    ap (λ w. eqb (bit_at (get_or words w 0) ((64 * k + i) % 64)) 1) (place_word k i h)
    ∙ ap (λ b. eqb (bit_at (get_or words k 0) b) 1) (place_bit k i h)

within_all : (m : ℕ) (b : Bool) → m < 256 → (ltb m 256 && b) ≡ b
within_all m b h = grind (arith, common_steps)

-- whether the set has the number of a place
pub contains_at : (words : List ℕ) (k i : ℕ) → k < 4 → i < 64 → set.contains (numbers_of words) (64 * k + i + 1) ≡ eqb (bit_at (get_or words k 0) i) 1
contains_at words k i hk hi =
    let m : ℕ = 64 * k + i in
    ap (set.contains (numbers_of words)) (add-one m)
    ∙ contains_suc words m
    ∙ within_all m (is_bit words m) (omega arith)
    ∙ is_bit_at words k i hi

bit_again : (b : ℕ) → b < 2 → cond (eqb b 1) 1 0 ≡ b
bit_again zero h = refl
bit_again (suc zero) h = refl
bit_again (suc (suc b)) h = absurd (omega arith)

-- a word comes back
word_again : (words : List ℕ) → AreWords words → (k : ℕ) → k < 4 → word_of (numbers_of words) k ≡ get_or words k 0
word_again words are k hk =
    let s : FinSet nat_cmp = numbers_of words in
    let f : ℕ → Bool = λ i. set.contains s (64 * k + i + 1) in
    same_from_bits_below 64 (number_with f 64) (get_or words k 0) (bits_with f 64) (are.fit k) (λ i hi.
    bit_at_with f 64 i hi
    ∙ ap (λ b. cond b 1 0) (contains_at words k i hk hi)
    ∙ bit_again (bit_at (get_or words k 0) i) (bit_at-lt (get_or words k 0) i))

four_words : (s : FinSet nat_cmp) (k : ℕ) → k < 4 → get_or (words_of s) k 0 ≡ word_of s k
four_words s zero h = refl
four_words s (suc zero) h = refl
four_words s (suc (suc zero)) h = refl
four_words s (suc (suc (suc zero))) h = refl
four_words s (suc (suc (suc (suc k)))) h = absurd (omega arith)

pub words_again : (words : List ℕ) → AreWords words → words_of (numbers_of words) ≡ words
words_again words are =
    let s : FinSet nat_cmp = numbers_of words in
    same_number_lists (words_of s) words (sym are.four) (λ k h. four_words s k h ∙ word_again words are k h)

pub contains_number : (words : List ℕ) (m : ℕ) → m < 256 → set.contains (numbers_of words) (m + 1) ≡ is_bit words m
contains_number words m h = ap (set.contains (numbers_of words)) (add-one m) ∙ contains_suc words m ∙ within_all m (is_bit words m) h

-- ---- no bit set: no number
abbrev zeros : List ℕ
zeros = 0 ∷ 0 ∷ 0 ∷ 0 ∷ []

zero_words : (k : ℕ) → get_or zeros k 0 ≡ 0
zero_words zero = refl
zero_words (suc zero) = refl
zero_words (suc (suc zero)) = refl
zero_words (suc (suc (suc zero))) = refl
zero_words (suc (suc (suc (suc k)))) = refl

and_false : (a b : Bool) → b ≡ false → (a && b) ≡ false
and_false true b h = h
and_false false b h = refl

no_bit : (m : ℕ) → is_bit zeros m ≡ false
no_bit m =
    ap (λ w. eqb (bit_at w (m % 64)) 1) (zero_words (m / 64))
    ∙ ap (λ b. eqb b 1) (bit_at-zero (m % 64))

none_at : (q : ℕ) → set.contains (numbers_of zeros) q ≡ set.contains (set.empty {K = ℕ} {R = nat_cmp}) q
none_at zero = contains_zero zeros ∙ sym (contains-empty nat_cmp 0)
none_at (suc m) =
    contains_suc zeros m
    ∙ and_false (ltb m 256) (is_bit zeros m) (no_bit m)
    ∙ sym (contains-empty nat_cmp (suc m))

pub none_of : numbers_of zeros ≡ set.empty
none_of = same_set nat_cmp_total nat_cmp-IsAntisymmetric (numbers_of zeros) (set.empty {K = ℕ} {R = nat_cmp}) none_at

-- ---- one bit more: one number more
-- the word at k with the bit j set
pub record SetsBit (words : List ℕ) (m w : ℕ) : Type 0 where
  pub within : m < 256
  pub four : length words ≡ 4
  pub is : w ≡ bit_or (get_or words (m / 64) 0) (1 * 2 ^ (m % 64) % 2 ^ 64)

set_here : (words : List ℕ) (m w : ℕ) → SetsBit words m w → is_bit (set_at words (m / 64) w) m ≡ true
set_here words m w h =
    let k : m / 64 < length words = omega (arith, h.within, h.four) in
    ap (λ v. eqb (bit_at v (m % 64)) 1) (get_or-set_same words (m / 64) w 0 k)
    ∙ ap (λ v. eqb (bit_at v (m % 64)) 1) h.is
    ∙ ap (λ b. eqb b 1) (bit_at_set_same w64 (get_or words (m / 64) 0) (m % 64) (omega arith))

set_elsewhere : (words : List ℕ) (m w j : ℕ) → SetsBit words m w → j ≢ m → is_bit (set_at words (m / 64) w) j ≡ is_bit words j
set_elsewhere words m w j h ne =
    elim (cases_eq (j / 64) (m / 64)) [
      | inl same ↦
          let k : m / 64 < length words = omega (arith, h.within, h.four) in
          let other : j % 64 ≢ m % 64 = λ e. ne (omega (arith, e, same)) in
          let read : get_or (set_at words (m / 64) w) (j / 64) 0 ≡ bit_or (get_or words (m / 64) 0) (1 * 2 ^ (m % 64) % 2 ^ 64) =
          ap (λ i. get_or (set_at words (m / 64) w) i 0) same ∙ get_or-set_same words (m / 64) w 0 k ∙ h.is in
          ap (λ v. eqb (bit_at v (j % 64)) 1) read
          ∙ ap (λ b. eqb b 1) (bit_at_set_other w64 (get_or words (m / 64) 0) (m % 64) (omega arith) (j % 64) other)
          ∙ ap (λ i. eqb (bit_at (get_or words i 0) (j % 64)) 1) (sym same)
      | inr differ ↦ ap (λ v. eqb (bit_at v (j % 64)) 1) (get_or-set_other words (m / 64) (j / 64) w 0 differ)
    ]

insert_here : (s : FinSet nat_cmp) (m : ℕ) → set.contains (set.insert s (m + 1)) (suc m) ≡ true
insert_here s m = grind (arith, common_steps, members)

insert_elsewhere : (s : FinSet nat_cmp) (m j : ℕ) → j ≢ m → set.contains (set.insert s (m + 1)) (suc j) ≡ set.contains s (suc j)
insert_elsewhere s m j ne = grind (arith, common_steps, members)

insert_zero : (s : FinSet nat_cmp) (m : ℕ) → set.contains (set.insert s (m + 1)) 0 ≡ set.contains s 0
insert_zero s m = grind (arith, common_steps, members)

with_at : (words : List ℕ) (m w : ℕ) → SetsBit words m w → (q : ℕ) → set.contains (numbers_of (set_at words (m / 64) w)) q ≡ set.contains (set.insert (numbers_of words) (m + 1)) q
with_at words m w h zero = contains_zero (set_at words (m / 64) w) ∙ sym (contains_zero words) ∙ sym (insert_zero (numbers_of words) m)
with_at words m w h (suc j) =
    contains_suc (set_at words (m / 64) w) j
    ∙ (elim (cases_eq j m) [
      | inl same ↦
          ap (λ i. ltb i 256 && is_bit (set_at words (m / 64) w) i) same
          ∙ within_all m (is_bit (set_at words (m / 64) w) m) h.within
          ∙ set_here words m w h
          ∙ sym (insert_here (numbers_of words) m)
          ∙ ap (λ i. set.contains (set.insert (numbers_of words) (m + 1)) (suc i)) (sym same)
      | inr differ ↦
          ap (λ b. ltb j 256 && b) (set_elsewhere words m w j h differ)
          ∙ sym (contains_suc words j)
          ∙ sym (insert_elsewhere (numbers_of words) m j differ)
    ])

pub numbers_with : (words : List ℕ) (m w : ℕ) → SetsBit words m w → numbers_of (set_at words (m / 64) w) ≡ set.insert (numbers_of words) (m + 1)
numbers_with words m w h = same_set nat_cmp_total nat_cmp-IsAntisymmetric (numbers_of (set_at words (m / 64) w)) (set.insert (numbers_of words) (m + 1)) (with_at words m w h)

pub words_with : (words : List ℕ) (m w : ℕ) → SetsBit words m w → AreWords words → AreWords (set_at words (m / 64) w)
words_with words m w h are =
    record {
      four = length-set words (m / 64) w ∙ are.four;
      fit = λ k. elim (cases_eq k (m / 64)) [
        | inl same ↦
            let within : m / 64 < length words = omega (arith, h.within, h.four) in
            let bound : w < 2 ^ 64 = subst (λ v. v < 2 ^ 64) (sym h.is) (or_lt 64 (get_or words (m / 64) 0) (1 * 2 ^ (m % 64) % 2 ^ 64) (are.fit (m / 64)) (omega arith)) in
            subst (λ v. v < 2 ^ 64) (sym (ap (λ i. get_or (set_at words (m / 64) w) i 0) same ∙ get_or-set_same words (m / 64) w 0 within)) bound
        | inr differ ↦ subst (λ v. v < 2 ^ 64) (sym (get_or-set_other words (m / 64) k w 0 differ)) (are.fit k)
      ];
    }

-- ---- one set in another, word by word
both_true : (a b : Bool) → (a && b) ≡ true → (a ≡ true) × (b ≡ true)
both_true true b h = (refl, h)
both_true false b h = cc

bit_is_one : (b c : ℕ) → c < 2 → b ≡ 1 → min b c ≡ b → c ≡ 1
bit_is_one b c l e h = omega arith

covered_at : (c d : List ℕ) → ((j : ℕ) → j < 4 → bit_and (get_or d j 0) (get_or c j 0) ≡ get_or d j 0)
    → (q : ℕ) → set.contains (numbers_of d) q ≡ true → set.contains (numbers_of c) q ≡ true
covered_at c d each zero h = let e = sym (contains_zero d) ∙ h in cc
covered_at c d each (suc m) h =
    let split = both_true (ltb m 256) (is_bit d m) (sym (contains_suc d m) ∙ h) in
    let small : m < 256 = ltb-true m 256 split.0 in
    let k : ℕ = m / 64 in
    let i : ℕ = m % 64 in
    let one : bit_at (get_or d k 0) i ≡ 1 = eqb-true (bit_at (get_or d k 0) i) 1 split.1 in
    let kept : min (bit_at (get_or d k 0) i) (bit_at (get_or c k 0) i) ≡ bit_at (get_or d k 0) i =
    sym (bit_at_and (get_or d k 0) (get_or c k 0) i) ∙ ap (λ v. bit_at v i) (each k (omega arith)) in
    let also : bit_at (get_or c k 0) i ≡ 1 = bit_is_one (bit_at (get_or d k 0) i) (bit_at (get_or c k 0) i) (bit_at-lt (get_or c k 0) i) one kept in
    contains_suc c m ∙ within_all m (is_bit c m) small ∙ ap (λ b. eqb b 1) also

pub covers_all : (c d : List ℕ) → ((j : ℕ) → j < 4 → bit_and (get_or d j 0) (get_or c j 0) ≡ get_or d j 0) → set.is_subset (numbers_of d) (numbers_of c) ≡ true
covers_all c d each = contains-is_subset nat_cmp_total (numbers_of d) (numbers_of c) (covered_at c d each)

zero_or_one : (b : ℕ) → b < 2 → (b ≡ 0) ⊎ (b ≡ 1)
zero_or_one zero h = inl refl
zero_or_one (suc zero) h = inr refl
zero_or_one (suc (suc b)) h = absurd (omega arith)

-- where the set is in the other, each word is
pub covered_word : (c d : List ℕ) → AreWords d → set.is_subset (numbers_of d) (numbers_of c) ≡ true → (j : ℕ) → j < 4 → bit_and (get_or d j 0) (get_or c j 0) ≡ get_or d j 0
covered_word c d are within j hj =
    same_from_bits_below 64 (bit_and (get_or d j 0) (get_or c j 0)) (get_or d j 0)
    (omega (arith, and_le_l (get_or d j 0) (get_or c j 0), are.fit j))
    (are.fit j)
    (λ i hi.
    bit_at_and (get_or d j 0) (get_or c j 0) i
    ∙ (elim (zero_or_one (bit_at (get_or d j 0) i) (bit_at-lt (get_or d j 0) i)) [
      | inl none ↦ omega (arith, none)
      | inr one ↦
          let inside : set.contains (numbers_of d) (64 * j + i + 1) ≡ true = contains_at d j i hj hi ∙ ap (λ b. eqb b 1) one in
          let outside : set.contains (numbers_of c) (64 * j + i + 1) ≡ true = is_subset-contains nat_cmp_total (numbers_of d) (numbers_of c) within (64 * j + i + 1) inside in
          let also : bit_at (get_or c j 0) i ≡ 1 = eqb-true (bit_at (get_or c j 0) i) 1 (sym (contains_at c j i hj hi) ∙ outside) in
          omega (arith, one, also)
    ]))

-- the words with the bit set are those of the set with the number
pub words_set : (words : List ℕ) (m w : ℕ) → SetsBit words m w → AreWords words → set_at words (m / 64) w ≡ words_of (set.insert (numbers_of words) (m + 1))
words_set words m w h are = sym (words_again (set_at words (m / 64) w) (words_with words m w h are)) ∙ ap words_of (numbers_with words m w h)

-- ---- a value is the one that its set determines
pub comps_again : (words : List ℕ) → AreWords words → (s : FinSet nat_cmp) → numbers_of words ≡ s → record { words = words } ≡ comps_of s
unfolding comps_of
comps_again words are s is = ap (λ ws. record { words = ws }) (sym (words_again words are) ∙ ap words_of is)

zeros_are : AreWords zeros
zeros_are = record { four = refl; fit = λ k. subst (λ w. w < 2 ^ 64) (sym (zero_words k)) (lit< tt) }

pub none_is : no_comps ≡ comps_of set.empty
none_is = comps_again zeros zeros_are (set.empty {K = ℕ} {R = nat_cmp}) none_of

-- ---- one compartment more
one_bit : (m : ℕ) → 1 * 2 ^ (m % 64) % 2 ^ 64 ≡ 2 ^ (m % 64)
one_bit m =
    let small : m % 64 < 64 = omega arith in
    let one : 1 * 2 ^ (m % 64) ≡ 2 ^ (m % 64) = omega arith in
    ap (λ n. n % 2 ^ 64) one ∙ mod-eq_of_lt (pow-lt small)

pub with_is : (comps : Comps) (m w : ℕ) → w ≡ bit_or (get_or comps.words (m / 64) 0) (1 * 2 ^ (m % 64) % 2 ^ 64)
    → record { words = set_at comps.words (m / 64) w } ≡ with_compartment comps (m + 1)
unfolding with_compartment
with_is comps m w is =
    let e : m + 1 - 1 ≡ m = omega arith in
    ap (λ v. record { words = set_at comps.words (m / 64) v }) (is ∙ ap (bit_or (get_or comps.words (m / 64) 0)) (one_bit m))
    ∙ ap (λ k. record { words = set_at comps.words (k / 64) (bit_or (get_or comps.words (k / 64) 0) (2 ^ (k % 64))) }) (sym e)

-- ---- the words of two sets with the same numbers up to 256
number_same : (f g : ℕ → Bool) (k : ℕ) → ((i : ℕ) → i < k → f i ≡ g i) → number_with f k ≡ number_with g k
unfolding number_with
number_same f g zero same = refl
number_same f g (suc k) same = rw (number_same f g k (λ i h. same i (omega (arith, h)))) (rw (same k (omega arith)) refl)

word_same : (s t : FinSet nat_cmp) (k : ℕ) → k < 4 → ((q : ℕ) → 1 ≤ q → q ≤ 256 → set.contains s q ≡ set.contains t q) → word_of s k ≡ word_of t k
word_same s t k small same =
    number_same (λ i. set.contains s (64 * k + i + 1)) (λ i. set.contains t (64 * k + i + 1)) 64 (λ i h. same (64 * k + i + 1) (omega arith) (omega arith))

words_same : (s t : FinSet nat_cmp) → ((q : ℕ) → 1 ≤ q → q ≤ 256 → set.contains s q ≡ set.contains t q) → words_of s ≡ words_of t
words_same s t same =
    ap (λ w. w ∷ word_of s 1 ∷ word_of s 2 ∷ word_of s 3 ∷ []) (word_same s t 0 (omega arith) same)
    ∙ ap (λ w. word_of t 0 ∷ w ∷ word_of s 2 ∷ word_of s 3 ∷ []) (word_same s t 1 (omega arith) same)
    ∙ ap (λ w. word_of t 0 ∷ word_of t 1 ∷ w ∷ word_of s 3 ∷ []) (word_same s t 2 (omega arith) same)
    ∙ ap (λ w. word_of t 0 ∷ word_of t 1 ∷ word_of t 2 ∷ w ∷ []) (word_same s t 3 (omega arith) same)

pub comps_same : (s t : FinSet nat_cmp) → ((q : ℕ) → 1 ≤ q → q ≤ 256 → set.contains s q ≡ set.contains t q) → comps_of s ≡ comps_of t
unfolding comps_of
comps_same s t same = ap (λ ws. record { words = ws }) (words_same s t same)

-- ---- the value of a set
words_fit : (s : FinSet nat_cmp) (k : ℕ) → get_or (words_of s) k 0 < 2 ^ 64
words_fit s zero = bits_with (λ i. set.contains s (64 * 0 + i + 1)) 64
words_fit s (suc zero) = bits_with (λ i. set.contains s (64 * 1 + i + 1)) 64
words_fit s (suc (suc zero)) = bits_with (λ i. set.contains s (64 * 2 + i + 1)) 64
words_fit s (suc (suc (suc zero))) = bits_with (λ i. set.contains s (64 * 3 + i + 1)) 64
words_fit s (suc (suc (suc (suc k)))) = lit< tt

pub set_are_words : (s : FinSet nat_cmp) → AreWords (comps_of s).words
unfolding comps_of
set_are_words s = record { four = refl; fit = words_fit s }

bit_is : (b : Bool) → eqb (cond b 1 0) 1 ≡ b
bit_is true = refl
bit_is false = refl

bit_of_set : (s : FinSet nat_cmp) (m : ℕ) → m < 256 → is_bit (words_of s) m ≡ set.contains s (suc m)
bit_of_set s m h =
    let k : ℕ = m / 64 in
    let i : ℕ = m % 64 in
    let place : 64 * k + i + 1 ≡ suc m = omega arith in
    ap (λ w. eqb (bit_at w i) 1) (four_words s k (omega arith))
    ∙ ap (λ b. eqb b 1) (bit_at_with (λ i. set.contains s (64 * k + i + 1)) 64 i (omega arith))
    ∙ bit_is (set.contains s (64 * k + i + 1))
    ∙ ap (set.contains s) place

set_again : (s : FinSet nat_cmp) (q : ℕ) → 1 ≤ q → q ≤ 256 → set.contains (numbers_of (words_of s)) q ≡ set.contains s q
set_again s zero least most = absurd (omega arith)
set_again s (suc m) least most = contains_suc (words_of s) m ∙ within_all m (is_bit (words_of s) m) (omega (arith, most)) ∙ bit_of_set s m (omega (arith, most))

insert_same : (s t : FinSet nat_cmp) (n q : ℕ) → set.contains s q ≡ set.contains t q → set.contains (set.insert s n) q ≡ set.contains (set.insert t n) q
insert_same s t n q same = grind (arith, common_steps, members, same)

-- one number more in a set is one compartment more in its value
pub with_of_set : (s : FinSet nat_cmp) (n : ℕ) → 1 ≤ n → n ≤ 256 → with_compartment (comps_of s) n ≡ comps_of (set.insert s n)
unfolding comps_of
with_of_set s n least most =
    let m : ℕ = n - 1 in
    let words : List ℕ = words_of s in
    let w : ℕ = bit_or (get_or words (m / 64) 0) (1 * 2 ^ (m % 64) % 2 ^ 64) in
    let sets : SetsBit words m w = record { within = omega arith; four = refl; is = refl } in
    let next : m + 1 ≡ n = omega arith in
    ap (with_compartment (record { words = words })) (sym next)
    ∙ sym (with_is (record { words = words }) m w refl)
    ∙ ap (λ ws. record { words = ws }) (words_set words m w sets (record { four = refl; fit = words_fit s })
    ∙ words_same (set.insert (numbers_of words) (m + 1)) (set.insert s (m + 1)) (λ q l h. insert_same (numbers_of words) s (m + 1) q (set_again s q l h)))
    ∙ ap (λ k. comps_of (set.insert s k)) next
