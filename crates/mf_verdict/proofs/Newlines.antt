-- Numbers have no newline, and what a test of two texts tells.
use Rattle.std.proofs.Common.{◌≡◌, ◌≢◌, ℕ, ◌<◌, ◌^◌, Bool, true, false, not, bytes_eq, List, [], ◌∷◌, length, refl, arith}
use Rattle.std.proofs.lemmas.Bool.Decides.{nat_tests}
use Rattle.std.proofs.lemmas.Fmt.{decimal_is_IsNumeral}
use Rattle.std.proofs.lemmas.Slice.Eq.{bytes_eq-Decides}
use Rattle.std.specs.Char.{digit_value}
use Rattle.std.specs.Fmt.{decimal}
use Rattle.std.specs.Str.Parse.{AllDigits}
use Rattle.std.specs.Str.{byte}
use Rattle.mf_hist.specs.Found.{Lacks}

digit_other : (c : ℕ) → digit_value c < 10 → c ≢ byte "\n"
digit_other c small = grind (arith, nat_tests)

digits_lack : (text : List ℕ) → AllDigits 10 text → Lacks (byte "\n") text
digits_lack [] all = tt
digits_lack (c ∷ cs) all = (digit_other c all.0, digits_lack cs all.1)

pub decimal_lacks : (n : ℕ) → n < 2 ^ 64 → Lacks (byte "\n") (decimal n)
decimal_lacks n small = digits_lack (decimal n) (decimal_is_IsNumeral n small).0.1

pub some_len : (line : List ℕ) → line ≢ [] → 0 < length line
some_len [] some = absurd (some refl)
some_len (b ∷ line) some = omega arith

pub decided : (xs ys : List ℕ) → false ≡ not (bytes_eq xs ys) → xs ≡ ys
decided xs ys e = (bytes_eq-Decides xs ys).0 (by_test (bytes_eq xs ys) e) where
  by_test : (t : Bool) → false ≡ not t → t ≡ true
  by_test true e = refl
  by_test false e = cc

pub apart : (xs ys : List ℕ) → true ≡ not (bytes_eq xs ys) → xs ≢ ys
apart xs ys e same = cc ((bytes_eq-Decides xs ys).1 same, e)
