-- The text of a range is read back.
use Rattle.std.proofs.Common.{◌≡◌, ℕ, ◌≤◌, true, false, cond, eqb, List, [], ◌∷◌, ◌++◌, Some, None, refl, ap, ◌∙◌, arith, lit≤}
use Rattle.std.proofs.lemmas.Bool.{eqb-true, le-leb}
use Rattle.std.proofs.lemmas.Fmt.{decimal_is_IsNumeral}
use Rattle.std.specs.Fmt.{decimal}
use Rattle.std.specs.Option.{option_map_or, option_zip}
use Rattle.std.specs.Prelude.{Option, nat_le}
use Rattle.std.specs.Char.{digit_value}
use Rattle.mf_labeltext.specs.Reading.{◌>>=◌}
use Rattle.mf_labeltext.proofs.Cutting.{IsFree, cut_free, cut_free_none}
use Rattle.mf_labeltext.proofs.Numbers.{spells_number, digits_free}
use Rattle.mf_rule.specs.Words.{id, id_range_in}
use Rattle.mf_rule.specs.Canonical.{id_range_text}

id_back : (n : ℕ) → n ≤ 4294967295 → id (decimal n) ≡ Some n
id_back n fits =
    let numeral = decimal_is_IsNumeral n (omega arith) in
    spells_number 0 4294967295 (decimal n) n (record { numeral = numeral.0; value = numeral.1; above = omega arith; below = fits })

decimal_free : (byte n : ℕ) → 10 ≤ digit_value byte → n ≤ 4294967295 → IsFree byte (decimal n)
decimal_free byte n other fits =
    let numeral = decimal_is_IsNumeral n (omega arith) in
    digits_free byte (decimal n) other numeral.0.1

free_append : (byte : ℕ) (w x : List ℕ) → IsFree byte w → IsFree byte x → IsFree byte (w ++ x)
free_append byte [] x first second = second
free_append byte (c ∷ cs) x first second = (first.0, free_append byte cs x first.1 second)

-- the ends, where they are in order
abbrev pub ordered : ℕ × ℕ → Option (ℕ × ℕ)
ordered ends = cond (nat_le ends.0 ends.1) (Some ends) None

abbrev pub ends_of : List ℕ → Option (List ℕ × List ℕ) → Option (ℕ × ℕ)
ends_of w halves = option_map_or (λ halves. option_zip (id halves.0) (id halves.1)) halves (option_zip (id w) (id w))

one_back : (least greatest : ℕ) → least ≡ greatest → least ≤ 4294967295 → id_range_in (decimal least) ≡ Some (least, greatest)
unfolding id_range_in
one_back least greatest same fits =
    ap (λ halves. ends_of (decimal least) halves >>= ordered) (cut_free_none 58 (decimal least) (decimal_free 58 least (lit≤ tt) fits))
    ∙ ap (λ n. option_zip n n >>= ordered) (id_back least fits)
    ∙ ap (λ b. cond b (Some (least, least)) None) (le-leb least least (omega arith))
    ∙ ap (λ n. Some (least, n)) same

two_back : (least greatest : ℕ) → least ≤ greatest → greatest ≤ 4294967295 → id_range_in (decimal least ++ 58 ∷ decimal greatest) ≡ Some (least, greatest)
unfolding id_range_in
two_back least greatest rising below =
    ap (λ halves. ends_of (decimal least ++ 58 ∷ decimal greatest) halves >>= ordered) (cut_free 58 (decimal least) (decimal greatest) (decimal_free 58 least (lit≤ tt) (omega arith)))
    ∙ ap (λ n. option_zip n (id (decimal greatest)) >>= ordered) (id_back least (omega arith))
    ∙ ap (λ n. option_zip (Some least) n >>= ordered) (id_back greatest below)
    ∙ ap (λ b. cond b (Some (least, greatest)) None) (le-leb least greatest rising)

pub range_back : (least greatest : ℕ) → least ≤ greatest → greatest ≤ 4294967295 → (id_range_in (id_range_text least greatest) ≡ Some (least, greatest)) × IsFree 32 (id_range_text least greatest)
range_back least greatest rising below =
    elim (eqb least greatest) as (λ b. eqb least greatest ≡ b → (id_range_in (cond b (decimal least) (decimal least ++ 58 ∷ decimal greatest)) ≡ Some (least, greatest)) × IsFree 32 (cond b (decimal least) (decimal least ++ 58 ∷ decimal greatest))) [
      | true ↦ λ same. (one_back least greatest (eqb-true least greatest same) (omega arith), decimal_free 32 least (lit≤ tt) (omega arith))
      | false ↦ λ other. (two_back least greatest rising below, free_append 32 (decimal least) (58 ∷ decimal greatest) (decimal_free 32 least (lit≤ tt) (omega arith)) ((λ e. cc), decimal_free 32 greatest (lit≤ tt) below))
    ] refl
