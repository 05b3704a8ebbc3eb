-- What sets of numbers of rules have in them.
use Rattle.std.proofs.Common.{◌≡◌, ℕ, zero, suc, ◌+◌, ◌-◌, ◌*◌, ◌%◌, ◌^◌, ◌<◌, ◌≤◌, Bool, true, false, cond, ◌&&◌, ◌||◌, eqb, ltb, leb, ◌∷◌, bit_or, max, ◌≢◌, refl, sym, ap, ◌∙◌, arith, inl, inr}
use Rattle.std.proofs.lemmas.Bool.{cases_lt, cases_eq, eqb-true}
use Rattle.std.proofs.lemmas.Nat.{and_le_l}
use Rattle.std.proofs.lemmas.Grind.{common_steps}
use Rattle.std.proofs.lemmas.Nat.Bits.{bit_at_or, bit_at-lt, bit_at-zero, bit_at_set_same, bit_at_set_other, bit_at_clear_same, bit_at_clear_other, bit_at-trailing_zeros}
use Rattle.std.specs.Int.{bit_at, bit_not, trailing_zeros, w128}
use Rattle.std.specs.List.{filter, list_any, range_with_len}
use Rattle.mf_rule.specs.RuleBits.{has_bit, no_bits, word_with, with_bit, IsLeastBit, numbers}
use Rattle.mf_rule.specs.declared.rule_bits.Bits.{Bits}

-- a bit of two words together
one_of : (a b : ℕ) → a < 2 → b < 2 → eqb (max a b) 1 ≡ (eqb a 1 || eqb b 1)
one_of zero zero ha hb = refl
one_of zero (suc zero) ha hb = refl
one_of (suc zero) zero ha hb = refl
one_of (suc zero) (suc zero) ha hb = refl
one_of (suc (suc a)) b ha hb = absurd (omega arith)
one_of a (suc (suc b)) ha hb = absurd (omega arith)

bit_of_or : (a b i : ℕ) → eqb (bit_at (bit_or a b) i) 1 ≡ (eqb (bit_at a i) 1 || eqb (bit_at b i) 1)
bit_of_or a b i = ap (λ n. eqb n 1) (bit_at_or a b i) ∙ one_of (bit_at a i) (bit_at b i) (bit_at-lt a i) (bit_at-lt b i)

abbrev pub both : Bits → Bits → Bits
both a b = record { low = bit_or a.low b.low; high = bit_or a.high b.high }

pub bit_of_both : (n : ℕ) (a b : Bits) → has_bit n (both a b) ≡ (has_bit n a || has_bit n b)
bit_of_both n a b =
    elim (ltb n 128) as (λ is_low. eqb (cond is_low (bit_at (bit_or a.low b.low) n) (bit_at (bit_or a.high b.high) (n - 128))) 1 ≡ (eqb (cond is_low (bit_at a.low n) (bit_at a.high (n - 128))) 1 || eqb (cond is_low (bit_at b.low n) (bit_at b.high (n - 128))) 1)) [
      | true ↦ bit_of_or a.low b.low n
      | false ↦ bit_of_or a.high b.high (n - 128)
    ]

-- a word with a bit set or cleared
word_same : (word place : ℕ) (is_in : Bool) → place < 128 → eqb (bit_at (word_with place is_in word) place) 1 ≡ is_in
word_same word place true h = ap (λ n. eqb n 1) (bit_at_set_same w128 word place h)
word_same word place false h = ap (λ n. eqb n 1) (bit_at_clear_same w128 word place h)

word_other : (word place : ℕ) (is_in : Bool) (n : ℕ) → place < 128 → n < 128 → n ≢ place → bit_at (word_with place is_in word) n ≡ bit_at word n
word_other word place true n h hn other = bit_at_set_other w128 word place h n other
word_other word place false n h hn other = bit_at_clear_other w128 word place h n hn other

pub bit_same : (number : ℕ) (is_in : Bool) (bits : Bits) → number < 256 → has_bit number (with_bit number is_in bits) ≡ is_in
bit_same number is_in bits h =
    elim (cases_lt number 128) [
      | inl low ↦ let l : ltb number 128 ≡ true = grind arith in rw l (word_same bits.low number is_in low)
      | inr high ↦ let l : ltb number 128 ≡ false = grind arith in rw l (word_same bits.high (number - 128) is_in (omega arith))
    ]

pub bit_other : (number : ℕ) (is_in : Bool) (bits : Bits) (n : ℕ) → number < 256 → n < 256 → n ≢ number → has_bit n (with_bit number is_in bits) ≡ has_bit n bits
bit_other number is_in bits n h hn other =
    elim (cases_lt number 128) [
      | inl low ↦
          let l : ltb number 128 ≡ true = grind arith in
          elim (cases_lt n 128) [
            | inl n_low ↦
                let m : ltb n 128 ≡ true = grind arith in
                rw (l, m) (ap (λ b. eqb b 1) (word_other bits.low number is_in n low n_low other))
            | inr n_high ↦ let m : ltb n 128 ≡ false = grind arith in rw (l, m) refl
          ]
      | inr high ↦
          let l : ltb number 128 ≡ false = grind arith in
          elim (cases_lt n 128) [
            | inl n_low ↦ let m : ltb n 128 ≡ true = grind arith in rw (l, m) refl
            | inr n_high ↦
                let m : ltb n 128 ≡ false = grind arith in
                rw (l, m) (ap (λ b. eqb b 1) (word_other bits.high (number - 128) is_in (n - 128) (omega arith) (omega arith) (λ e. other (omega (arith, e)))))
          ]
    ]

pub bit_of_none : (n : ℕ) → has_bit n no_bits ≡ false
bit_of_none n =
    elim (ltb n 128) as (λ is_low. eqb (cond is_low (bit_at 0 n) (bit_at 0 (n - 128))) 1 ≡ false) [
      | true ↦ ap (λ b. eqb b 1) (bit_at-zero n)
      | false ↦ ap (λ b. eqb b 1) (bit_at-zero (n - 128))
    ]

-- the least number
pub least_low : (bits : Bits) → 0 < bits.low → bits.low < 2 ^ 128 → IsLeastBit (trailing_zeros w128 bits.low) bits
least_low bits some fits =
    let found = bit_at-trailing_zeros w128 bits.low some fits in
    let l : ltb (trailing_zeros w128 bits.low) 128 ≡ true = grind (arith, found) in
    record {
      within = omega (arith, found);
      there = rw l (ap (λ b. eqb b 1) found.1);
      least = λ n h.
          let m : ltb n 128 ≡ true = grind (arith, found) in
          rw m (ap (λ b. eqb b 1) (found.2 n h));
    }

pub least_high : (bits : Bits) → bits.low ≡ 0 → 0 < bits.high → bits.high < 2 ^ 128 → IsLeastBit (128 + trailing_zeros w128 bits.high) bits
least_high bits none some fits =
    let found = bit_at-trailing_zeros w128 bits.high some fits in
    let t : ℕ = trailing_zeros w128 bits.high in
    let l : ltb (128 + t) 128 ≡ false = grind arith in
    let back : (128 + t) - 128 ≡ t = omega arith in
    record {
      within = omega (arith, found);
      there = rw (l, back) (ap (λ b. eqb b 1) found.1);
      least = λ n h.
          elim (cases_lt n 128) [
            | inl n_low ↦
                let m : ltb n 128 ≡ true = grind arith in
                rw (m, none) (ap (λ b. eqb b 1) (bit_at-zero n))
            | inr n_high ↦
                let m : ltb n 128 ≡ false = grind arith in
                rw m (ap (λ b. eqb b 1) (found.2 (n - 128) (omega arith)))
          ];
    }

-- a word without one of its bits is less
word_less : (word place : ℕ) → place < 128 → eqb (bit_at word place) 1 ≡ true → word_with place false word < word
word_less word place h there =
    let cleared = word_same word place false h in
    let least = and_le_l word (bit_not w128 (1 * 2 ^ place % 2 ^ 128)) in
    elim (cases_eq (word_with place false word) word) [
      | inl same ↦ let e = sym cleared ∙ ap (λ w. eqb (bit_at w place) 1) same ∙ there in cc
      | inr other ↦ omega (arith, least, other)
    ]

pub bits_less : (number : ℕ) (bits : Bits) → number < 256 → has_bit number bits ≡ true
    → (with_bit number false bits).low + (with_bit number false bits).high < bits.low + bits.high
bits_less number bits h there =
    elim (cases_lt number 128) [
      | inl low ↦
          let l : ltb number 128 ≡ true = grind arith in
          let less = word_less bits.low number low (sym (ap (λ b. eqb (cond b (bit_at bits.low number) (bit_at bits.high (number - 128))) 1) l) ∙ there) in
          rw l (omega (arith, less))
      | inr high ↦
          let l : ltb number 128 ≡ false = grind arith in
          let less = word_less bits.high (number - 128) (omega arith) (sym (ap (λ b. eqb (cond b (bit_at bits.low number) (bit_at bits.high (number - 128))) 1) l) ∙ there) in
          rw l (omega (arith, less))
    ]

-- the numbers of a range that pass a test
none_within : (a n : ℕ) (b : Bool) → false ≡ (leb a n && (ltb n (a + 0) && b))
none_within a n b = grind (arith, common_steps)

at_first : (test : ℕ → Bool) (a k n : ℕ) → a ≡ n → test a ≡ true → (leb a n && (ltb n (a + suc k) && test n)) ≡ true
at_first test a k n same passes =
    let t : test n ≡ true = ap test (sym same) ∙ passes in
    rw t (grind (arith, common_steps, same))

not_first : (test : ℕ → Bool) (a k n : ℕ) → a ≡ n → test a ≡ false → (leb (a + 1) n && (ltb n (a + 1 + k) && test n)) ≡ (leb a n && (ltb n (a + suc k) && test n))
not_first test a k n same fails =
    let t : test n ≡ false = ap test (sym same) ∙ fails in
    rw t (grind (arith, common_steps))

behind_first : (b : Bool) (a k n : ℕ) → a ≢ n → (leb (a + 1) n && (ltb n (a + 1 + k) && b)) ≡ (leb a n && (ltb n (a + suc k) && b))
behind_first b a k n other = grind (arith, common_steps, other)

taken : (test : ℕ → Bool) (a k n : ℕ) (rest : Bool) → test a ≡ true → rest ≡ (leb (a + 1) n && (ltb n (a + 1 + k) && test n))
    → (eqb a n || rest) ≡ (leb a n && (ltb n (a + suc k) && test n))
taken test a k n rest passes is =
    elim (cases_eq a n) [
      | inl same ↦ let e : eqb a n ≡ true = grind (arith, same) in rw e (sym (at_first test a k n same passes))
      | inr other ↦ let e : eqb a n ≡ false = grind (arith, other) in rw e (is ∙ behind_first (test n) a k n other)
    ]

skipped : (test : ℕ → Bool) (a k n : ℕ) → test a ≡ false → (leb (a + 1) n && (ltb n (a + 1 + k) && test n)) ≡ (leb a n && (ltb n (a + suc k) && test n))
skipped test a k n fails =
    elim (cases_eq a n) [
      | inl same ↦ not_first test a k n same fails
      | inr other ↦ behind_first (test n) a k n other
    ]

pub among : (test : ℕ → Bool) (a k n : ℕ) → list_any (λ m. eqb m n) (filter test (range_with_len a k)) ≡ (leb a n && (ltb n (a + k) && test n))
among test a zero n = none_within a n (test n)
among test a (suc k) n =
    let rest = among test (a + 1) k n in
    let all = filter test (range_with_len (a + 1) k) in
    elim (test a) as (λ b. test a ≡ b → list_any (λ m. eqb m n) (cond b (a ∷ all) all) ≡ (leb a n && (ltb n (a + suc k) && test n))) [
      | true ↦ λ passes. taken test a k n (list_any (λ m. eqb m n) all) passes rest
      | false ↦ λ fails. rest ∙ skipped test a k n fails
    ] refl

pub has_number : (bits : Bits) (n : ℕ) → n < 250 → list_any (λ m. eqb m n) (numbers bits) ≡ has_bit n bits
unfolding numbers
has_number bits n h =
    let from : leb 0 n ≡ true = grind arith in
    let below : ltb n 250 ≡ true = grind arith in
    among (λ m. has_bit m bits) 0 250 n ∙ ap (λ b. b && (ltb n 250 && has_bit n bits)) from ∙ ap (λ b. b && has_bit n bits) below

pub no_number : (bits : Bits) (n : ℕ) → 250 ≤ n → list_any (λ m. eqb m n) (numbers bits) ≡ false
unfolding numbers
no_number bits n h =
    let from : leb 0 n ≡ true = grind arith in
    let beyond : ltb n 250 ≡ false = grind arith in
    among (λ m. has_bit m bits) 0 250 n ∙ ap (λ b. b && (ltb n 250 && has_bit n bits)) from ∙ ap (λ b. b && has_bit n bits) beyond

-- the same numbers by another test
pub same_numbers : (test other : ℕ → Bool) (a k : ℕ) → ((n : ℕ) → n < a + k → test n ≡ other n) → filter test (range_with_len a k) ≡ filter other (range_with_len a k)
same_numbers test other a zero same = refl
same_numbers test other a (suc k) same =
    rw (same a (omega arith), same_numbers test other (a + 1) k (λ n h. same n (omega (arith, h)))) refl

-- sets that compare as equal
pub same_bits : (a b : Bits) → true ≡ (eqb a.low b.low && eqb a.high b.high) → a ≡ b
same_bits a b same =
    elim (cases_eq a.low b.low) [
      | inr other ↦ let e : eqb a.low b.low ≡ false = grind (arith, other) in let f = same ∙ ap (λ x. x && eqb a.high b.high) e in cc
      | inl low ↦
          let e : eqb a.low b.low ≡ true = grind (arith, low) in
          let high = eqb-true a.high b.high (sym (same ∙ ap (λ x. x && eqb a.high b.high) e)) in
          ap (λ l. record { low = l; high = a.high }) low ∙ ap (λ h. record { low = b.low; high = h }) high
    ]
