-- Names of processes, by their parts. What a test found of a part goes by the test's result.
use Rattle.mf_labeltext.specs.Reading.{parts}
use Rattle.std.specs.Str.{byte}
use Rattle.std.proofs.Common.{◌≡◌, ℕ, ◌==◌, Bool, true, false, ◌&&◌, List, [], ◌∷◌, length, refl, ap, sym, ◌∙◌, ◌≤◌, nat_le, arith}
use Rattle.std.proofs.lemmas.Bool.Decides.{nat_tests}
use Rattle.std.proofs.lemmas.List.Splits.{length-slice_split}
use Rattle.std.specs.List.{list_all, slice_split}
use Rattle.mf_calls.specs.Names.{is_name, is_process_name}

abbrev are_names : List (List ℕ) → Bool
are_names names = nat_le (length names) 2 && list_all is_name names

and_true : (b : Bool) → (b && true) ≡ b
and_true true = refl
and_true false = refl

pub one_name : (w : List ℕ) (found : Bool) → parts (byte ".") w ≡ w ∷ [] → found ≡ is_name w → found ≡ is_process_name w
unfolding parts
one_name w found e is = is ∙ sym (ap are_names e ∙ and_true (is_name w))

two_names : (w task child : List ℕ) → parts (byte ".") w ≡ task ∷ parts (byte ".") child → parts (byte ".") child ≡ child ∷ [] → is_process_name w ≡ (is_name task && is_name child)
unfolding parts
two_names w task child e rest = ap are_names e ∙ ap (λ names. are_names (task ∷ names)) rest ∙ ap (λ b. is_name task && b) (and_true (is_name child))

pub second_name : (w task child : List ℕ) (first found : Bool) → parts (byte ".") w ≡ task ∷ parts (byte ".") child → parts (byte ".") child ≡ child ∷ []
    → first ≡ is_name task → first ≡ true → found ≡ is_name child → found ≡ is_process_name w
second_name w task child first found e rest is holds found_is = let named : is_name task ≡ true = sym is ∙ holds in found_is ∙ sym (two_names w task child e rest ∙ ap (λ t. t && is_name child) named)

pub no_first_name : (w task child : List ℕ) (first : Bool) → parts (byte ".") w ≡ task ∷ parts (byte ".") child → parts (byte ".") child ≡ child ∷ []
    → first ≡ is_name task → first ≡ false → first ≡ is_process_name w
no_first_name w task child first e rest is fails = let unnamed : is_name task ≡ false = sym is ∙ fails in fails ∙ sym (two_names w task child e rest ∙ ap (λ t. t && is_name child) unnamed)

over_two : (n : ℕ) → 3 ≤ n → nat_le n 2 ≡ false
over_two n more = grind (arith, nat_tests)

pub third_name : (w task child part more : List ℕ) → parts (byte ".") w ≡ task ∷ parts (byte ".") child → parts (byte ".") child ≡ part ∷ parts (byte ".") more → false ≡ is_process_name w
unfolding parts
third_name w task child part more e rest = sym (ap are_names e ∙ (ap (λ names. are_names (task ∷ names)) rest ∙ by_parts (slice_split (λ b. b == byte ".") more) (omega (arith, length-slice_split (λ b. b == byte ".") more)))) where
  by_parts : (names : List (List ℕ)) → 1 ≤ length names → are_names (task ∷ part ∷ names) ≡ false
  by_parts [] some = absurd (omega (arith, some))
  by_parts (name ∷ names) some =
      ap (λ b. b && list_all is_name (task ∷ part ∷ name ∷ names)) (over_two (length (task ∷ part ∷ name ∷ names)) (omega arith))
