-- Texts of digits, as std reads them.
use Rattle.std.proofs.Common.{◌≡◌, ◌≢◌, ℕ, ◌<◌, ◌≤◌, suc, not, cond, ltb, true, List, [], ◌∷◌, length, get_or, Some, None, Result, Ok, Err, MatchOption, refl, ap, ◌∙◌, subst, sym, arith, inl, inr}
use Rattle.std.proofs.lemmas.Bool.{ltb-true, not-true, not-false, ne_eqb, cases_lt}
use Rattle.std.proofs.lemmas.Bool.Decides.{nat_tests}
use Rattle.std.proofs.lemmas.List.Sums.{prefix_len_passes}
use Rattle.std.proofs.lemmas.Str.Parse.{digit_from_value}
use Rattle.std.specs.List.{position, position_or_len}
use Rattle.std.specs.Char.{is_digit, digit_value}
use Rattle.std.specs.Option.{option_map_or}
use Rattle.std.specs.Prelude.{Option, nat_le, ◌&&◌}
use Rattle.std.specs.Result.{result_ok}
use Rattle.std.specs.Str.Parse.{AllDigits, digits_value, without_leading_plus, ParsesUnsigned}
use Rattle.mf_text.specs.declared.number.NumberFault.{NumberFault}
use Rattle.mf_text.specs.declared.number.NumberFault.TheVariants.{NotDigit, OutOfRange}

not_found : (m n : ℕ) → cond (ltb m n) (Some m) None ≡ None → n ≤ m
not_found m n none = grind (arith, nat_tests)

each_digit : (base : ℕ) (text : List ℕ) → ((k : ℕ) → k < length text → is_digit (get_or text k 0) base ≡ true) → AllDigits base text
each_digit base [] each = tt
each_digit base (c ∷ cs) each = (ltb-true (digit_value c) base (each 0 (omega arith)), each_digit base cs (λ k h. each (suc k) (omega (arith, h))))

-- where no byte is another, all are digits
pub all_digits : (base : ℕ) (text : List ℕ) → position (λ byte. not (is_digit byte base)) text ≡ None → AllDigits base text
all_digits base text none =
    let all : length text ≤ position_or_len (λ byte. not (is_digit byte base)) text = not_found (position_or_len (λ byte. not (is_digit byte base)) text) (length text) none in
    each_digit base text (λ k h. not-false (is_digit (get_or text k 0) base) (not-true (not (is_digit (get_or text k 0) base)) (prefix_len_passes (λ byte. not (not (is_digit byte base))) text k 0 (omega (arith, all, h)))))

no_plus : (base : ℕ) (text : List ℕ) → base ≤ 10 → AllDigits base text → without_leading_plus text ≡ text
no_plus base [] small all = refl
no_plus base (c ∷ cs) small all = let range = digit_from_value c (omega (arith, all.0)) in rw (ne_eqb c 43 (λ e. omega (arith, range))) refl

some_digits : (text : List ℕ) → text ≢ [] → 0 < length text
some_digits [] some = absurd (some refl)
some_digits (c ∷ cs) some = omega arith

-- std reads a text of digits as what they write, unless that has more than 32 bits
pub digits_read : {E : Type 0} (base : ℕ) (text : List ℕ) (read : Result ℕ E) → base ≤ 10 → text ≢ [] → AllDigits base text → ParsesUnsigned 32 base text read
    → MatchOption (result_ok read) (4294967296 ≤ digits_value base text) (λ value. value ≡ digits_value base text)
digits_read base text (Ok value) small some all parses = parses.1 ∙ ap (digits_value base) (no_plus base text small all)
digits_read base text (Err e) small some all parses =
    let bare = no_plus base text small all in
    elim (cases_lt (digits_value base text) 4294967296) [
      | inl below ↦ absurd (parses (subst (λ t. ((0 < length t) × AllDigits base t) × (digits_value base t < 4294967296)) (sym bare) ((some_digits text some, all), below)))
      | inr over ↦ over
    ]

-- ---- what a number is read as, by parts
abbrev pub within : ℕ → ℕ → ℕ → Result ℕ NumberFault
within least greatest value = cond (nat_le least value && nat_le value greatest) (Ok value) (Err OutOfRange)

abbrev pub unless_other : Option ℕ → Result ℕ NumberFault → Result ℕ NumberFault
unless_other place number = option_map_or (λ place. Err (NotDigit place)) place number
