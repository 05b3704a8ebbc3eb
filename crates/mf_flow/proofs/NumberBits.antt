-- Which numbers the words of a set have.
use Rattle.std.proofs.Common.{◌≡◌, ◌≢◌, ℕ, ◌*◌, ◌/◌, ◌%◌, ◌^◌, ◌<◌, ◌≤◌, zero, suc, Bool, true, false, ◌||◌, eqb, max, min, bit_and, bit_or, List, [], ◌∷◌, length, get_or, set, inl, inr, refl, sym, ap, ◌∙◌, arith, w64}
use Rattle.std.specs.Int.{bit_at}
use Rattle.std.proofs.lemmas.Bool.{cases_eq, cases_lt, eq-eqb, ne_eqb}
use Rattle.std.proofs.lemmas.List.{get_or-set_same, get_or-set_other}
use Rattle.std.proofs.lemmas.Nat.Bits.{bit_at-lt, bit_at-zero, bit_at_and, bit_at_or, bit_at_set_other, bit_at_set_same, same_from_bits}
use Rattle.mf_flow.specs.Listed.{has_bit}

or_true : (b : Bool) → true ≡ (b || true)
or_true true = refl
or_true false = refl

or_false : (b : Bool) → b ≡ (b || false)
or_false true = refl
or_false false = refl

-- one number more
pub bit_added : (old mid new : List ℕ) (number word : ℕ) → ((k : ℕ) → get_or mid k 0 ≡ get_or old k 0) → number / 64 < length mid → word ≡ get_or mid (number / 64) 0
    → new ≡ set mid (number / 64) (bit_or word (1 * 2 ^ (number % 64) % 2 ^ 64)) → (n : ℕ) → has_bit new n ≡ (has_bit old n || eqb n number)
bit_added old mid new number word same room word_is new_is n =
    ap (λ (ws : List ℕ). has_bit ws n) new_is
    ∙ (elim (cases_eq (n / 64) (number / 64)) [
      | inl here ↦
          let w : ℕ = bit_or word (1 * 2 ^ (number % 64) % 2 ^ 64) in
          let read : get_or (set mid (number / 64) w) (n / 64) 0 ≡ w =
          ap (λ k. get_or (set mid (number / 64) w) k 0) here ∙ get_or-set_same mid (number / 64) w 0 room in
          ap (λ v. eqb (bit_at v (n % 64)) 1) read
          ∙ (elim (cases_eq (n % 64) (number % 64)) [
            | inl bit ↦
                let is : n ≡ number = omega (arith, here, bit) in
                ap (λ i. eqb (bit_at w i) 1) bit
                ∙ ap (λ b. eqb b 1) (bit_at_set_same w64 word (number % 64) (omega arith))
                ∙ or_true (has_bit old n)
                ∙ ap (λ b. has_bit old n || b) (sym (eq-eqb n number is))
            | inr other ↦
                let differ : n ≢ number = λ e. other (ap (λ k. k % 64) e) in
                ap (λ b. eqb b 1) (bit_at_set_other w64 word (number % 64) (omega arith) (n % 64) other)
                ∙ ap (λ v. eqb (bit_at v (n % 64)) 1) (word_is ∙ ap (λ k. get_or mid k 0) (sym here) ∙ same (n / 64))
                ∙ or_false (has_bit old n)
                ∙ ap (λ b. has_bit old n || b) (sym (ne_eqb n number differ))
          ])
      | inr other ↦
          let differ : n ≢ number = λ e. other (ap (λ k. k / 64) e) in
          let w : ℕ = bit_or word (1 * 2 ^ (number % 64) % 2 ^ 64) in
          ap (λ v. eqb (bit_at v (n % 64)) 1) (get_or-set_other mid (number / 64) (n / 64) w 0 other ∙ same (n / 64))
          ∙ or_false (has_bit old n)
          ∙ ap (λ b. has_bit old n || b) (sym (ne_eqb n number differ))
    ])

-- the numbers of either
either : (a b : ℕ) → a < 2 → b < 2 → eqb (max a b) 1 ≡ (eqb a 1 || eqb b 1)
either zero zero la lb = refl
either zero (suc zero) la lb = refl
either (suc zero) zero la lb = refl
either (suc zero) (suc zero) la lb = refl
either (suc (suc a)) b la lb = absurd (omega arith)
either a (suc (suc b)) la lb = absurd (omega arith)

pub bits_of_either : (mine theirs both : List ℕ) → ((k : ℕ) → get_or both k 0 ≡ bit_or (get_or mine k 0) (get_or theirs k 0)) → (n : ℕ) → has_bit both n ≡ (has_bit mine n || has_bit theirs n)
bits_of_either mine theirs both is n =
    let a : ℕ = get_or mine (n / 64) 0 in
    let b : ℕ = get_or theirs (n / 64) 0 in
    ap (λ v. eqb (bit_at v (n % 64)) 1) (is (n / 64))
    ∙ ap (λ v. eqb v 1) (bit_at_or a b (n % 64))
    ∙ either (bit_at a (n % 64)) (bit_at b (n % 64)) (bit_at-lt a (n % 64)) (bit_at-lt b (n % 64))

pub beyond_words : (words : List ℕ) (k : ℕ) → length words ≤ k → get_or words k 0 ≡ 0
beyond_words [] k over = refl
beyond_words (w ∷ words) zero over = absurd (omega arith)
beyond_words (w ∷ words) (suc k) over = beyond_words words k (omega arith)

pub or_nothing : (a : ℕ) (b : ℕ) → b ≡ 0 → bit_or a b ≡ a
or_nothing a b none = ap (bit_or a) none ∙ same_from_bits (bit_or a 0) a (λ i.
    bit_at_or a 0 i ∙ ap (max (bit_at a i)) (bit_at-zero i) ∙ omega arith)

-- nothing more comes of a set that is there already
covered : (a b : ℕ) → a < 2 → b < 2 → min a b ≡ b → (eqb a 1 || eqb b 1) ≡ eqb a 1
covered zero zero la lb is = refl
covered zero (suc zero) la lb is = absurd (omega (arith, is))
covered (suc zero) zero la lb is = refl
covered (suc zero) (suc zero) la lb is = refl
covered (suc (suc a)) b la lb is = absurd (omega arith)
covered a (suc (suc b)) la lb is = absurd (omega arith)

pub all_there : (mine theirs : List ℕ) → ((k : ℕ) → k < length theirs → bit_and (get_or mine k 0) (get_or theirs k 0) ≡ get_or theirs k 0) → (n : ℕ) → (has_bit mine n || has_bit theirs n) ≡ has_bit mine n
all_there mine theirs all n =
    let a : ℕ = get_or mine (n / 64) 0 in
    let b : ℕ = get_or theirs (n / 64) 0 in
    covered (bit_at a (n % 64)) (bit_at b (n % 64)) (bit_at-lt a (n % 64)) (bit_at-lt b (n % 64)) (elim (cases_lt (n / 64) (length theirs)) [
      | inl within ↦ sym (bit_at_and a b (n % 64)) ∙ ap (λ v. bit_at v (n % 64)) (all (n / 64) within)
      | inr over ↦
          let none : bit_at b (n % 64) ≡ 0 = ap (λ v. bit_at v (n % 64)) (beyond_words theirs (n / 64) over) ∙ bit_at-zero (n % 64) in
          ap (min (bit_at a (n % 64))) none ∙ omega arith ∙ sym none
    ])

-- no number
nothing : (k : ℕ) → get_or {A = ℕ} (0 ∷ []) k 0 ≡ 0
nothing zero = refl
nothing (suc k) = refl

pub no_bits : (n : ℕ) → has_bit (0 ∷ []) n ≡ false
no_bits n = ap (λ v. eqb (bit_at v (n % 64)) 1) (nothing (n / 64)) ∙ ap (λ b. eqb b 1) (bit_at-zero (n % 64))
