-- The names of a load's tasks, directories and files: they are names and components, and differ by their numbers.
use Rattle.std.proofs.Common.{◌≡◌, ℕ, zero, suc, ◌<◌, ◌≤◌, ◌+◌, ◌/◌, ◌%◌, nat_lt, nat_le, Bool, true, false, ◌&&◌, List, [], ◌∷◌, ◌++◌, length, refl, ap, ◌∙◌, ◌^◌, ne_eqb, arith}
use Rattle.std.specs.List.{list_all, AllByRecursion}
use Rattle.std.specs.Str.Parse.{AllDigits}
use Rattle.std.specs.Fmt.{decimal}
use Rattle.std.specs.Str.{byte}
use Rattle.std.proofs.lemmas.Bool.Decides.{nat_tests}
use Rattle.std.proofs.lemmas.Bool.{or_left}
use Rattle.std.proofs.lemmas.Fmt.{decimal_digit, decimal_step, decimal_injective, decimal_is_IsNumeral, length-decimal-le}
use Rattle.std.proofs.lemmas.Str.Parse.{digit_from_value}
use Rattle.std.proofs.lemmas.List.Elements.{All-from_recursion}
use Rattle.mf_names.specs.Paths.{is_slash, HasNoSlash}
use Rattle.mf_calls.specs.Names.{is_name_byte, is_name, is_component_byte, is_component}
use Rattle.mf_calls.specs.Generated.{task_name, directory_name, scratch_name}

digit_plain : (d : ℕ) → d < 10 → is_name_byte (48 + d) ≡ true
digit_plain zero few = refl
digit_plain (suc zero) few = refl
digit_plain (suc (suc zero)) few = refl
digit_plain (suc (suc (suc zero))) few = refl
digit_plain (suc (suc (suc (suc zero)))) few = refl
digit_plain (suc (suc (suc (suc (suc zero))))) few = refl
digit_plain (suc (suc (suc (suc (suc (suc zero)))))) few = refl
digit_plain (suc (suc (suc (suc (suc (suc (suc zero))))))) few = refl
digit_plain (suc (suc (suc (suc (suc (suc (suc (suc zero)))))))) few = refl
digit_plain (suc (suc (suc (suc (suc (suc (suc (suc (suc zero))))))))) few = refl
digit_plain (suc (suc (suc (suc (suc (suc (suc (suc (suc (suc d)))))))))) few = absurd (omega arith)

digit_component : (d : ℕ) → d < 10 → is_component_byte (48 + d) ≡ true
digit_component d few = or_left (is_name_byte (48 + d)) _ (digit_plain d few)

two_digits : (n : ℕ) → 10 ≤ n → n < 100 → decimal n ≡ (48 + n / 10) ∷ (48 + n % 10) ∷ []
two_digits n big small =
    decimal_step n big (omega arith) ∙ ap (λ (ds : List ℕ). ds ++ (48 + n % 10) ∷ []) (decimal_digit (n / 10) (omega arith))

digits_all : (p : ℕ → Bool) → ((d : ℕ) → d < 10 → p (48 + d) ≡ true) → (k : ℕ) → k < 100 → list_all p (decimal k) ≡ true
digits_all p each k few = one (nat_lt k 10) refl
  where
    one : (b : Bool) → nat_lt k 10 ≡ b → list_all p (decimal k) ≡ true
    one true small =
        let below : k < 10 = grind (arith, nat_tests) in
        let here : p (48 + k) ≡ true = each k below in
        ap (list_all p) (decimal_digit k below) ∙ ap (λ (b : Bool). b && true) here
    one false big =
        let above : 10 ≤ k = grind (arith, nat_tests) in
        let first : p (48 + k / 10) ≡ true = each (k / 10) (omega arith) in
        let second : p (48 + k % 10) ≡ true = each (k % 10) (omega arith) in
        ap (list_all p) (two_digits k above few) ∙ ap (λ (b : Bool). b && (p (48 + k % 10) && true)) first ∙ ap (λ (b : Bool). b && true) second

short_digits : (k : ℕ) → k < 100 → length (decimal k) ≤ 2
short_digits k few = length-decimal-le 2 k (omega arith) (omega arith) (omega arith)

fits_name : (n : ℕ) → n ≤ 2 → nat_le (suc n) 32 ≡ true
fits_name n few = grind (arith, nat_tests)

pub task_named : (k : ℕ) → k < 100 → is_name (task_name k) ≡ true
task_named k few =
    ap (λ (b : Bool). b && list_all is_name_byte (decimal k)) (fits_name (length (decimal k)) (short_digits k few)) ∙ digits_all is_name_byte digit_plain k few

pub directory_component : (k : ℕ) → k < 100 → is_component (directory_name k) ≡ true
directory_component k few =
    ap (λ (b : Bool). b && list_all is_component_byte (decimal k) && true && true) (fits_name (length (decimal k)) (short_digits k few))
    ∙ ap (λ (b : Bool). b && true && true) (digits_all is_component_byte digit_component k few)

pub scratch_component : (j : ℕ) → j < 100 → is_component (scratch_name j) ≡ true
scratch_component j few =
    ap (λ (b : Bool). b && list_all is_component_byte (decimal j) && true && true) (fits_name (length (decimal j)) (short_digits j few))
    ∙ ap (λ (b : Bool). b && true && true) (digits_all is_component_byte digit_component j few)

-- No name of a directory or file has a slash.

no_slash : (ds : List ℕ) → AllDigits 10 ds → AllByRecursion (λ b. is_slash b ≡ false) ds
no_slash [] each = tt
no_slash (c ∷ ds) each = (ne_eqb c (byte "/") (λ e. omega (arith, e, digit_from_value c each.0)), no_slash ds each.1)

plain_with_number : (letter n : ℕ) → is_slash letter ≡ false → n < 2 ^ 64 → HasNoSlash (letter ∷ decimal n)
plain_with_number letter n plain small = All-from_recursion (λ b. is_slash b ≡ false) (letter ∷ decimal n) (plain, no_slash (decimal n) (decimal_is_IsNumeral n small).0.1)

pub directory_plain : (k : ℕ) → k < 2 ^ 64 → HasNoSlash (directory_name k)
directory_plain k small = plain_with_number 100 k refl small

pub scratch_plain : (j : ℕ) → j < 2 ^ 64 → HasNoSlash (scratch_name j)
scratch_plain j small = plain_with_number 103 j refl small

behind : (c : ℕ) (xs ys : List ℕ) → c ∷ xs ≡ c ∷ ys → xs ≡ ys
behind c xs ys same = cc

pub same_task : (u v : ℕ) → u < 100 → v < 100 → task_name u ≡ task_name v → u ≡ v
same_task u v few_u few_v same = decimal_injective u v (omega arith) (omega arith) (behind 116 (decimal u) (decimal v) same)

pub same_directory : (u v : ℕ) → u < 100 → v < 100 → directory_name u ≡ directory_name v → u ≡ v
same_directory u v few_u few_v same = decimal_injective u v (omega arith) (omega arith) (behind 100 (decimal u) (decimal v) same)

pub same_scratch_name : (i j : ℕ) → i < 100 → j < 100 → scratch_name i ≡ scratch_name j → i ≡ j
same_scratch_name i j few_i few_j same = decimal_injective i j (omega arith) (omega arith) (behind 103 (decimal i) (decimal j) same)
