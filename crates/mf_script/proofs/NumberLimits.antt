-- A number that is read is within its limits.
use Rattle.std.proofs.Common.{◌≡◌, ◌≤◌, ℕ, Bool, true, false, ◌&&◌, List, [], ◌∷◌, Option, Some, None, Ok, Err, refl, not, sym, arith}
use Rattle.std.specs.Prelude.{nat_le, if◌then◌else◌}
use Rattle.std.specs.List.{position}
use Rattle.std.specs.Char.{is_digit}
use Rattle.std.specs.Str.Parse.{digits_value}
use Rattle.std.proofs.lemmas.Bool.{leb-true}
use Rattle.mf_text.specs.declared.number.NumberFault.TheVariants.{OutOfRange}
use Rattle.mf_text.specs.Number.{number_in}
use Rattle.mf_text.proofs.Numerals.{within, unless_other}

within_greatest : (least greatest value n : ℕ) → within least greatest value ≡ Ok n → n ≤ greatest
within_greatest least greatest value n e = by_test (nat_le least value) (nat_le value greatest) refl e where
  by_test : (above below : Bool) → below ≡ nat_le value greatest → (if above && below then Ok value else Err OutOfRange) ≡ Ok n → n ≤ greatest
  by_test true true t h = let same : value ≡ n = cc in let most : value ≤ greatest = leb-true value greatest (sym t) in omega arith
  by_test true false t h = cc
  by_test false below t h = cc

pub number_most : (base least greatest : ℕ) (w : List ℕ) (n : ℕ) → number_in base least greatest w ≡ Ok n → n ≤ greatest
unfolding number_in
number_most base least greatest [] n e = cc
number_most base least greatest (c ∷ cs) n e = by_place (position (λ byte. not (is_digit byte base)) (c ∷ cs)) e where
  by_place : (place : Option ℕ) → unless_other place (within least greatest (digits_value base (c ∷ cs))) ≡ Ok n → n ≤ greatest
  by_place None h = within_greatest least greatest _ n h
  by_place (Some place) h = cc
