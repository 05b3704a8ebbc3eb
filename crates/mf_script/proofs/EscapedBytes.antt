-- What a text with escapes stands for is no longer than the text, and fits bytes.
use Rattle.std.proofs.Common.{◌≡◌, ℕ, suc, ◌+◌, ◌*◌, ◌<◌, ◌≤◌, Bool, true, false, ◌&&◌, ◌==◌, cond, List, [], ◌∷◌, length, Result, Ok, Err, refl, subst, arith}
use Rattle.std.specs.Prelude.{All}
use Rattle.std.specs.List.{AllByRecursion}
use Rattle.std.specs.Char.{is_digit, digit_value}
use Rattle.std.proofs.lemmas.Bool.{ltb-true}
use Rattle.std.proofs.lemmas.List.Elements.{All-nil, All-cons}
use Rattle.mf_text.specs.Escape.{bytes_of, bytes_from, with_first}

-- what holds of each byte that stands for itself and of each that an escape stands for
record IsKept (P : ℕ → Type 0) (most : ℕ) (bytes : List ℕ) : Type 0 where
  each : All P bytes
  few : length bytes ≤ most

module _ (P : ℕ → Type 0) (escaped : (d e : ℕ) → is_digit d 16 ≡ true → is_digit e 16 ≡ true → P (digit_value d * 16 + digit_value e)) where
  in_front : (byte : ℕ) (read : Result (List ℕ) ℕ) (most more : ℕ) (bytes : List ℕ) → P byte → suc most ≤ more → ((rest : List ℕ) → read ≡ Ok rest → IsKept P most rest)
      → with_first byte read ≡ Ok bytes → IsKept P more bytes
  in_front byte (Ok rest) most more bytes holds le so e =
      let got = so rest refl in
      let is : byte ∷ rest ≡ bytes = cc in
      subst (IsKept P more) is (record { each = All-cons P byte rest holds got.each; few = omega (arith, got.few, le) })
  in_front byte (Err place) most more bytes holds le so e = cc

  both_digits : (a b : Bool) → (a && b) ≡ true → (a ≡ true) × (b ≡ true)
  both_digits true b e = (refl, e)
  both_digits false b e = cc

  kept : (place : ℕ) (w bytes : List ℕ) → AllByRecursion P w → bytes_from place w ≡ Ok bytes → IsKept P (length w) bytes
  unfolding bytes_from
  kept place [] bytes each e = let is : [] ≡ bytes = cc in subst (IsKept P 0) is (record { each = All-nil _; few = omega arith })
  kept place (c ∷ []) bytes each e = one (c == 92) e where
    one : (t : Bool) → (cond t (Err place) (Ok (c ∷ []))) ≡ Ok bytes → IsKept P 1 bytes
    one true h = cc
    one false h = let is : c ∷ [] ≡ bytes = cc in subst (IsKept P 1) is (record { each = All-cons P c [] each.0 (All-nil _); few = omega arith })
  kept place (c ∷ d ∷ []) bytes each e = one (c == 92) e (λ rest is. kept (place + 1) (d ∷ []) rest each.1 is) where
    one : (t : Bool) → (cond t (Err place) (with_first c (bytes_from (place + 1) (d ∷ [])))) ≡ Ok bytes
        → ((rest : List ℕ) → bytes_from (place + 1) (d ∷ []) ≡ Ok rest → IsKept P 1 rest) → IsKept P 2 bytes
    one true h so = cc
    one false h so = in_front c (bytes_from (place + 1) (d ∷ [])) 1 2 bytes each.0 (omega arith) so h
  kept place (c ∷ d ∷ f ∷ more) bytes each e =
      one (c == 92) (is_digit d 16 && is_digit f 16) refl e (λ rest is. kept (place + 3) more rest each.1.1.1 is) (λ rest is. kept (place + 1) (d ∷ f ∷ more) rest each.1 is)
    where
      one : (t hex : Bool) → (is_digit d 16 && is_digit f 16) ≡ hex
          → (cond t (cond hex (with_first (digit_value d * 16 + digit_value f) (bytes_from (place + 3) more)) (Err place)) (with_first c (bytes_from (place + 1) (d ∷ f ∷ more)))) ≡ Ok bytes
          → ((rest : List ℕ) → bytes_from (place + 3) more ≡ Ok rest → IsKept P (length more) rest)
          → ((rest : List ℕ) → bytes_from (place + 1) (d ∷ f ∷ more) ≡ Ok rest → IsKept P (suc (suc (length more))) rest)
          → IsKept P (suc (suc (suc (length more)))) bytes
      one true true is h escape plain =
          let digits = both_digits (is_digit d 16) (is_digit f 16) is in
          in_front (digit_value d * 16 + digit_value f) (bytes_from (place + 3) more) (length more) (suc (suc (suc (length more)))) bytes
          (escaped d f digits.0 digits.1) (omega arith) escape h
      one true false is h escape plain = cc
      one false hex is h escape plain =
          in_front c (bytes_from (place + 1) (d ∷ f ∷ more)) (suc (suc (length more))) (suc (suc (suc (length more)))) bytes each.0 (omega arith) plain h

anything : (w : List ℕ) → AllByRecursion (λ b. Unit {0}) w
anything [] = tt
anything (b ∷ w) = (tt, anything w)

pub escaped_short : (w bytes : List ℕ) → bytes_of w ≡ Ok bytes → length bytes ≤ length w
escaped_short w bytes e = (kept (λ b. Unit {0}) (λ d f is_d is_f. tt) 0 w bytes (anything w) e).few

two_digits : (d f : ℕ) → is_digit d 16 ≡ true → is_digit f 16 ≡ true → digit_value d * 16 + digit_value f < 256
two_digits d f is_d is_f = omega (arith, ltb-true (digit_value d) 16 is_d, ltb-true (digit_value f) 16 is_f)

pub escaped_fit : (w bytes : List ℕ) → AllByRecursion (λ b. b < 256) w → bytes_of w ≡ Ok bytes → All (λ b. b < 256) bytes
escaped_fit w bytes each e = (kept (λ b. b < 256) two_digits 0 w bytes each e).each
