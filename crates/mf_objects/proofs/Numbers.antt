-- The lowest number that no descriptor has: where it stands, and that one is left where fewer are open than there are numbers.
use Rattle.std.proofs.Common.{◌≡◌, ℕ, zero, suc, ◌+◌, ◌<◌, ◌≤◌, Bool, true, false, not, cond, nat_eq, List, [], ◌∷◌, length, get_or, Option, Some, None, is_some, Bor, refl, ap, sym, ◌∙◌, arith, inl, inr}
use Rattle.std.specs.Prelude.{is_none}
use Rattle.std.specs.Option.{option_copied}
use Rattle.std.specs.List.{range_with_len, position_or_len}
use Rattle.std.proofs.lemmas.Bool.{cases_lt}
use Rattle.std.proofs.lemmas.Bool.Decides.{nat_tests}
use Rattle.std.proofs.lemmas.List.FromFn.{get_or-range_with_len, length-range_with_len}
use Rattle.std.proofs.lemmas.List.Sums.{passes_at_first, fails_before_first, position_or_len_is}
use Rattle.mf_objects.specs.declared.descriptors.Fd.{Fd}
use Rattle.mf_objects.specs.Descriptors.{has_number, fd_in, closed, lowest_free}

abbrev pub is_free : List Fd → ℕ → Bool
is_free fds n = is_none (fd_in fds n)

-- A number is left

fewer : (n : ℕ) (fds : List Fd) → length (closed n fds) ≤ length fds
fewer n [] = omega arith
fewer n (fd ∷ fds) = one (has_number n fd) (fewer n fds)
  where
    one : (b : Bool) → length (closed n fds) ≤ length fds → length (cond (not b) (fd ∷ closed n fds) (closed n fds)) ≤ length (fd ∷ fds)
    one true rest = omega (arith, rest)
    one false rest = omega (arith, rest)

-- one at least has a number that is taken
taken : (n : ℕ) (fds : List Fd) → is_free fds n ≡ false → length (closed n fds) + 1 ≤ length fds
taken n [] is = cc
taken n (fd ∷ fds) is = one (has_number n fd) refl is (taken n fds)
  where
    one : (b : Bool) → has_number n fd ≡ b → is_none (cond b (Some fd) (fd_in fds n)) ≡ false → (is_free fds n ≡ false → length (closed n fds) + 1 ≤ length fds)
        → length (cond (not b) (fd ∷ closed n fds) (closed n fds)) + 1 ≤ length (fd ∷ fds)
    one true hit is rest = omega (arith, fewer n fds)
    one false miss is rest = omega (arith, rest is)

-- the others have their numbers
still : (n m : ℕ) (fds : List Fd) → m < n → is_free fds m ≡ false → is_free (closed n fds) m ≡ false
still n m [] less is = is
still n m (fd ∷ fds) less is = one (has_number n fd) (has_number m fd) refl refl is (still n m fds less)
  where
    apart : (k : ℕ) → nat_eq k n ≡ true → nat_eq k m ≡ true → ⊥
    apart k first second = let same : n ≡ m = grind (arith, nat_tests) in omega (arith, same, less)

    one : (b c : Bool) → has_number n fd ≡ b → has_number m fd ≡ c → is_none (cond c (Some fd) (fd_in fds m)) ≡ false
        → (is_free fds m ≡ false → is_free (closed n fds) m ≡ false) → is_free (cond (not b) (fd ∷ closed n fds) (closed n fds)) m ≡ false
    one true true here own is rest = absurd (apart fd.number here own)
    one true false here own is rest = rest is
    one false true here own is rest = ap (λ (b : Bool). is_none (cond b (Some fd) (fd_in (closed n fds) m))) own
    one false false here own is rest = ap (λ (b : Bool). is_none (cond b (Some fd) (fd_in (closed n fds) m))) own ∙ rest is

all_taken : (k : ℕ) (fds : List Fd) → ((n : ℕ) → n < k → is_free fds n ≡ false) → k ≤ length fds
all_taken zero fds all = omega arith
all_taken (suc k) fds all =
    let rest = all_taken k (closed k fds) (λ n less. still k n fds less (all n (omega arith))) in
    let one = taken k fds (all k (omega arith)) in
    omega (arith, rest, one)

-- The first of so many numbers that is free, by how many they are

abbrev first_free : ℕ → List Fd → ℕ
first_free most fds = position_or_len (λ n. is_none (fd_in fds n)) (range_with_len 0 most)

nth : (most n : ℕ) → n < most → get_or (range_with_len 0 most) n 0 ≡ n
nth most n below = get_or-range_with_len 0 most n 0 below ∙ omega arith

before_free : (most : ℕ) (fds : List Fd) (n : ℕ) → n < most → n < first_free most fds → is_free fds n ≡ false
before_free most fds n below before =
    ap (is_free fds) (sym (nth most n below)) ∙ fails_before_first (λ (k : ℕ). is_none (fd_in fds k)) (range_with_len 0 most) n 0 before

at_free : (most : ℕ) (fds : List Fd) → first_free most fds < most → is_free fds (first_free most fds) ≡ true
at_free most fds below =
    ap (is_free fds) (sym (nth most (first_free most fds) below))
    ∙ passes_at_first (λ (k : ℕ). is_none (fd_in fds k)) (range_with_len 0 most) 0 (omega (arith, below, length-range_with_len 0 most))

is_first : (most : ℕ) (fds : List Fd) (n : ℕ) → n ≤ most → ((k : ℕ) → k < n → is_free fds k ≡ false) → (n < most → is_free fds n ≡ true) → n ≡ first_free most fds
is_first most fds n within before here =
    sym (position_or_len_is (λ (k : ℕ). is_none (fd_in fds k)) (range_with_len 0 most) n 0 (omega (arith, within, length-range_with_len 0 most))
    (λ k less. ap (is_free fds) (nth most k (omega (arith, within, less))) ∙ before k less)
    (λ less. let below : n < most = omega (arith, less, length-range_with_len 0 most) in ap (is_free fds) (nth most n below) ∙ here below))

left : (most : ℕ) (fds : List Fd) → length fds < most → first_free most fds < most
left most fds few = elim (cases_lt (first_free most fds) most) [
  | inl below ↦ below
  | inr past ↦ absurd (omega (arith, few, all_taken most fds (λ n less. before_free most fds n less (omega (arith, past, less)))))
]

free_none : (o : Option Fd) → is_none o ≡ true → o ≡ None
free_none None is = refl
free_none (Some fd) is = cc is

-- The lowest free number

-- where fewer are open than there are numbers, one is left
pub number_left : (fds : List Fd) → length fds < 16 → lowest_free fds < 16
unfolding lowest_free
number_left fds few = left 16 fds few

-- no descriptor has it
pub number_free : (fds : List Fd) → lowest_free fds < 16 → fd_in fds (lowest_free fds) ≡ None
unfolding lowest_free
number_free fds below = free_none (fd_in fds (first_free 16 fds)) (at_free 16 fds below)

-- each lower number is taken
pub number_lowest : (fds : List Fd) (n : ℕ) → n < 16 → n < lowest_free fds → is_free fds n ≡ false
unfolding lowest_free
number_lowest fds n below before = before_free 16 fds n below before

-- the first number that is free is the lowest
pub number_found : (fds : List Fd) (n : ℕ) → n ≤ 16 → ((k : ℕ) → k < n → is_free fds k ≡ false) → (n < 16 → is_free fds n ≡ true) → n ≡ lowest_free fds
unfolding lowest_free
number_found fds n within before here = is_first 16 fds n within before here

-- where no reference to one is found
pub copied_none : (o : Option (Bor Fd)) {found : Option Fd} → option_copied o ≡ found → is_some o ≡ false → is_none found ≡ true
copied_none None is none = ap is_none (sym is)
copied_none (Some fd) is none = cc none

-- where nothing is open, it is the first number
pub number_first : (fds : List Fd) → fds ≡ [] → 0 ≡ lowest_free fds
number_first fds none =
    number_found fds 0 (omega arith) (λ k below. absurd (omega (arith, below))) (λ _. ap (λ (xs : List Fd). is_free xs 0) none)
