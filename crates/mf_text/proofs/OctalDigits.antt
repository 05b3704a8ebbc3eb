-- The digits of a number in base 8, of which the last stands behind those of its eighth.
use Rattle.std.proofs.Common.{◌≡◌, ℕ, zero, suc, ◌+◌, ◌/◌, ◌%◌, ◌^◌, ◌<◌, ◌≤◌, ◌==◌, Bool, true, false, cond, List, [], ◌∷◌, ◌++◌, arith, refl, ap, ◌∙◌, eq-eqb, ne_eqb}
use Rattle.std.proofs.lemmas.Bool.{lt-ltb}
use Rattle.std.specs.Fmt.{digit_glyph, digits, digits_onto}

glyph : (n : ℕ) → digit_glyph false (n % 8) ≡ 48 + n % 8
glyph n = ap (λ (few : Bool). cond few (48 + n % 8) (87 + n % 8)) (lt-ltb (n % 8) 10 (omega arith))

ended : (k n : ℕ) (acc : List ℕ) → n < 8 → digits_onto (suc k) 8 false n acc ≡ digit_glyph false (n % 8) ∷ acc
ended k n acc small = ap (λ (t : Bool). cond t (digit_glyph false (n % 8) ∷ acc) (digits_onto k 8 false (n / 8) (digit_glyph false (n % 8) ∷ acc))) (eq-eqb (n / 8) 0 (omega (arith, small)))

goes_on : (k n : ℕ) (acc : List ℕ) → 8 ≤ n → digits_onto (suc k) 8 false n acc ≡ digits_onto k 8 false (n / 8) (digit_glyph false (n % 8) ∷ acc)
goes_on k n acc large = ap (λ (t : Bool). cond t (digit_glyph false (n % 8) ∷ acc) (digits_onto k 8 false (n / 8) (digit_glyph false (n % 8) ∷ acc)))
    (ne_eqb (n / 8) 0 (λ none. absurd (omega (arith, large, none))))

-- room for a digit more changes nothing
enough : (k n : ℕ) (acc : List ℕ) → n < 8 ^ suc k → digits_onto (suc k) 8 false n acc ≡ digits_onto (suc (suc k)) 8 false n acc
enough zero n acc small = let none : (n / 8 == 0) ≡ true = eq-eqb (n / 8) 0 (omega (arith, small)) in rw none refl
enough (suc k) n acc small = one (n / 8 == 0) (enough k (n / 8) (digit_glyph false (n % 8) ∷ acc) (omega (arith, small)))
  where
    one : (t : Bool) → digits_onto (suc k) 8 false (n / 8) (digit_glyph false (n % 8) ∷ acc) ≡ digits_onto (suc (suc k)) 8 false (n / 8) (digit_glyph false (n % 8) ∷ acc)
        → cond t (digit_glyph false (n % 8) ∷ acc) (digits_onto (suc k) 8 false (n / 8) (digit_glyph false (n % 8) ∷ acc))
        ≡ cond t (digit_glyph false (n % 8) ∷ acc) (digits_onto (suc (suc k)) 8 false (n / 8) (digit_glyph false (n % 8) ∷ acc))
    one true same = refl
    one false same = same

in_front : (k n : ℕ) (acc more : List ℕ) → digits_onto k 8 false n (acc ++ more) ≡ digits_onto k 8 false n acc ++ more
in_front zero n acc more = refl
in_front (suc k) n acc more = one (n / 8 == 0) (in_front k (n / 8) (digit_glyph false (n % 8) ∷ acc) more)
  where
    one : (t : Bool) → digits_onto k 8 false (n / 8) (digit_glyph false (n % 8) ∷ (acc ++ more)) ≡ digits_onto k 8 false (n / 8) (digit_glyph false (n % 8) ∷ acc) ++ more
        → cond t (digit_glyph false (n % 8) ∷ (acc ++ more)) (digits_onto k 8 false (n / 8) (digit_glyph false (n % 8) ∷ (acc ++ more)))
        ≡ cond t (digit_glyph false (n % 8) ∷ acc) (digits_onto k 8 false (n / 8) (digit_glyph false (n % 8) ∷ acc)) ++ more
    one true same = refl
    one false same = same

one_of : (k n : ℕ) → n < 8 → digits_onto (suc k) 8 false n [] ≡ (48 + n) ∷ []
one_of k n small = ended k n [] small ∙ ap (λ (d : ℕ). d ∷ []) (glyph n ∙ omega (arith, small))

more_of : (k n : ℕ) → 8 ≤ n → n / 8 < 8 ^ suc k → digits_onto (suc (suc k)) 8 false n [] ≡ digits_onto (suc (suc k)) 8 false (n / 8) [] ++ (48 + n % 8) ∷ []
more_of k n large small =
    goes_on (suc k) n [] large
    ∙ in_front (suc k) (n / 8) [] (digit_glyph false (n % 8) ∷ [])
    ∙ ap (λ (front : List ℕ). front ++ digit_glyph false (n % 8) ∷ []) (enough k (n / 8) [] small)
    ∙ ap (λ (d : ℕ). digits_onto (suc (suc k)) 8 false (n / 8) [] ++ d ∷ []) (glyph n)

pub one_digit : (n : ℕ) → n < 8 → digits 8 false n ≡ (48 + n) ∷ []
unfolding digits
one_digit n small = one_of 63 n small

pub digit_more : (n : ℕ) → 8 ≤ n → n < 65536 → digits 8 false n ≡ digits 8 false (n / 8) ++ (48 + n % 8) ∷ []
unfolding digits
digit_more n large small = more_of 62 n large (omega (arith, small))
