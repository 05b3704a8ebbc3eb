-- The letters of a mode and those of types are read back: there are so few sets of them that each is tried.
use Rattle.std.proofs.Common.{◌≡◌, ℕ, ◌<◌, ◌≤◌, zero, suc, Bool, true, false, cond, eqb, Option, Some, None, refl, ap, ◌∙◌, arith}
use Rattle.std.proofs.lemmas.Bool.{eqb-true, eqb-false}
use Rattle.mf_labeltext.proofs.Cutting.{IsFree}
use Rattle.mf_rule.specs.Words.{mode_in, types_in, letters_in, with_letters}
use Rattle.mf_rule.specs.Canonical.{letters_text}
use Rattle.mf_rule.specs.Words.{mode_letters, type_letters}
use Rattle.mf_rule.proofs.Pieces.{all_free, free_by}

-- the number is read from the text, which has no blank
abbrev reads : Option ℕ → ℕ → Bool → Bool
reads None n free = false
reads (Some m) n free = cond (eqb m n) free false

reads_is : (read : Option ℕ) (n : ℕ) (free : Bool) → reads read n free ≡ true → (read ≡ Some n) × (free ≡ true)
reads_is None n free is = absurd cc
reads_is (Some m) n free is =
    (elim (eqb m n) as (λ b. eqb m n ≡ b → cond b free false ≡ true → (Some m ≡ Some n) × (free ≡ true)) [
      | true ↦ λ same is. (ap Some (eqb-true m n same), is)
      | false ↦ λ other is. absurd cc
    ]) refl is

-- each number below n passes
abbrev all_below : (ℕ → Bool) → ℕ → Bool
all_below test zero = true
all_below test (suc n) = cond (test n) (all_below test n) false

below : (test : ℕ → Bool) (n m : ℕ) → all_below test n ≡ true → m < n → test m ≡ true
below test zero m all less = absurd (omega (arith, less))
below test (suc n) m all less =
    (elim (test n) as (λ b. test n ≡ b → cond b (all_below test n) false ≡ true → test m ≡ true) [
      | true ↦ λ passes all.
          elim (eqb m n) as (λ b. eqb m n ≡ b → test m ≡ true) [
            | true ↦ λ same. ap test (eqb-true m n same) ∙ passes
            | false ↦ λ other. let differ = eqb-false m n other in below test n m all (omega (arith, less, differ))
          ] refl
      | false ↦ λ fails all. absurd cc
    ]) refl all

mode_reads : ℕ → Bool
mode_reads m = reads (mode_in (letters_text mode_letters m)) m (all_free (letters_text mode_letters m))

all_modes : all_below mode_reads 32 ≡ true
unfolding mode_reads mode_in letters_in with_letters
all_modes = refl

pub mode_back : (m : ℕ) → m < 32 → (mode_in (letters_text mode_letters m) ≡ Some m) × IsFree 32 (letters_text mode_letters m)
unfolding mode_reads
mode_back m fits =
    let is = reads_is (mode_in (letters_text mode_letters m)) m (all_free (letters_text mode_letters m)) (below mode_reads 32 m all_modes fits) in
    (is.0, free_by (letters_text mode_letters m) is.1)

-- no type at all isn't tried
type_reads : ℕ → Bool
type_reads zero = true
type_reads (suc n) = reads (types_in (letters_text type_letters (suc n))) (suc n) (all_free (letters_text type_letters (suc n)))

all_types : all_below type_reads 128 ≡ true
unfolding type_reads types_in letters_in with_letters
all_types = refl

pub types_back : (n : ℕ) → 1 ≤ n → n ≤ 127 → (types_in (letters_text type_letters n) ≡ Some n) × IsFree 32 (letters_text type_letters n)
unfolding type_reads
types_back zero some fits = absurd (omega (arith, some))
types_back (suc n) some fits =
    let is = reads_is (types_in (letters_text type_letters (suc n))) (suc n) (all_free (letters_text type_letters (suc n))) (below type_reads 128 (suc n) all_types (omega (arith, fits))) in
    (is.0, free_by (letters_text type_letters (suc n)) is.1)
