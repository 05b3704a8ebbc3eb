-- The number whose bits are those of a test: that it fits, and each of its bits.
use Rattle.std.proofs.Common.{◌≡◌, ℕ, ◌+◌, ◌-◌, ◌*◌, ◌^◌, ◌<◌, ◌≤◌, Bool, true, false, cond, refl, sym, ap, ◌∙◌, arith, suc, zero, inl, inr, lit<}
use Rattle.std.proofs.lemmas.Bool.{cases_lt}
use Rattle.std.proofs.lemmas.Nat.Bits.{bit_at_cat_low, bit_at_cat_high}
use Rattle.std.specs.Int.{bit_at}
use Rattle.mf_elem.specs.OfSets.{number_with}

-- the number fits
one_more_bit : (n i c : ℕ) → n < 2 ^ i → c ≤ 2 ^ i → n + c < 2 ^ suc i
one_more_bit n i c h l = let e : 2 ^ suc i ≡ 2 ^ i + 2 ^ i = grind arith in omega (arith, e)

cond_le : (b : Bool) (n : ℕ) → cond b n 0 ≤ n
cond_le true n = omega arith
cond_le false n = omega arith

pub bits_with : (f : ℕ → Bool) (k : ℕ) → number_with f k < 2 ^ k
unfolding number_with
bits_with f zero = lit< tt
bits_with f (suc i) = one_more_bit (number_with f i) i (cond (f i) (2 ^ i) 0) (bits_with f i) (cond_le (f i) (2 ^ i))

-- the bits of the number
high_part : (b : Bool) (n i : ℕ) → n + cond b (2 ^ i) 0 ≡ cond b 1 0 * 2 ^ i + n
high_part true n i = omega arith
high_part false n i = omega arith

lowest_of : (b : Bool) → bit_at (cond b 1 0) 0 ≡ cond b 1 0
lowest_of true = refl
lowest_of false = refl

pub bit_at_with : (f : ℕ → Bool) (k j : ℕ) → j < k → bit_at (number_with f k) j ≡ cond (f j) 1 0
unfolding number_with
bit_at_with f zero j h = absurd (omega arith)
bit_at_with f (suc i) j h =
    let N : ℕ = number_with f i in
    let whole : bit_at (N + cond (f i) (2 ^ i) 0) j ≡ bit_at (cond (f i) 1 0 * 2 ^ i + N) j = ap (λ n. bit_at n j) (high_part (f i) N i) in
    whole ∙ (elim (cases_lt j i) [
      | inl l ↦ bit_at_cat_low (cond (f i) 1 0) i N j l ∙ bit_at_with f i j l
      | inr g ↦
          let e : j ≡ i = omega arith in
          let d : j - i ≡ 0 = omega arith in
          bit_at_cat_high (cond (f i) 1 0) i N j (bits_with f i) g
          ∙ ap (bit_at (cond (f i) 1 0)) d ∙ lowest_of (f i) ∙ ap (λ k. cond (f k) 1 0) (sym e)
    ])
