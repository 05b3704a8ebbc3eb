-- What open entries weigh together is a number in base three with a digit for each task, and a number has its digits in one way.
use Rattle.std.proofs.Common.{◌≡◌, ℕ, zero, suc, ◌+◌, ◌*◌, ◌^◌, ◌<◌, ◌≤◌, Bool, true, false, List, length, Option, Some, None, refl, sym, ap, ◌∙◌, arith, below_more, lit<, pow-suc}
use Rattle.std.proofs.lemmas.Nat.{same_from_place}
use Rattle.mf_core.specs.declared.progress.Phase.{Phase}
use Rattle.mf_core.specs.declared.progress.Phase.TheVariants as phase
use Rattle.mf_core.specs.declared.progress.Progress.{Progress}
use Rattle.mf_core.specs.Progress.{progress_at}
use Rattle.mf_core.specs.CoreView.{progress_of}
use Rattle.mf_share.specs.Laws.{WeightTellsEntries, entry_in}
use Rattle.mf_share.specs.Weights.{weight_in, weights}

abbrev digit : Phase → ℕ
digit phase.Entered = 1
digit phase.Done = 2
digit other = 0

digit_weighs : (t : ℕ) (p : Phase) → weight_in t p ≡ digit p * 3 ^ t
digit_weighs t phase.Idle = omega arith
digit_weighs t phase.Entered = omega arith
digit_weighs t phase.Done = omega arith
digit_weighs t phase.Stopped = omega arith

most : (t : ℕ) (p : Phase) → weight_in t p ≤ 2 * 3 ^ t
most t phase.Idle = omega arith
most t phase.Entered = omega arith
most t phase.Done = omega arith
most t phase.Stopped = omega arith

below : (list : List Progress) (n : ℕ) → weights list n < 3 ^ n
below list zero = lit< tt
below list (suc n) = omega (arith, below list n, most n (progress_at list n).phase, pow-suc 3 n)

abbrev entry_of : ℕ → Option Bool
entry_of zero = None
entry_of (suc zero) = Some false
entry_of (suc (suc n)) = Some true

digit_tells : (p : Phase) → entry_in p ≡ entry_of (digit p)
digit_tells phase.Idle = refl
digit_tells phase.Entered = refl
digit_tells phase.Done = refl
digit_tells phase.Stopped = refl

abbrev digit_at : List Progress → ℕ → ℕ
digit_at list t = digit (progress_at list t).phase

same_top : (a b : List Progress) (n : ℕ) → weights a (suc n) ≡ weights b (suc n) → (digit_at a n ≡ digit_at b n) × (weights a n ≡ weights b n)
same_top a b n same =
    let placed : digit_at a n * 3 ^ n + weights a n ≡ digit_at b n * 3 ^ n + weights b n =
    omega (arith, same, digit_weighs n (progress_at a n).phase, digit_weighs n (progress_at b n).phase) in
    same_from_place (digit_at a n) (weights a n) (digit_at b n) (weights b n) (3 ^ n) (below a n) (below b n) placed

same_digits : (a b : List Progress) (n : ℕ) → weights a n ≡ weights b n → (t : ℕ) → t < n → digit_at a t ≡ digit_at b t
same_digits a b zero same = λ t lt. absurd (omega (arith, lt))
same_digits a b (suc n) same = λ t lt.
    let top = same_top a b n same in
    below_more (λ t. digit_at a t ≡ digit_at b t) n (same_digits a b n top.1) top.0 t (omega (arith, lt))

pub weight_tells : WeightTellsEntries
weight_tells s a b same t lt =
    digit_tells (progress_at (progress_of a) t).phase
    ∙ ap entry_of (same_digits (progress_of a) (progress_of b) (length s.tasks) same t lt)
    ∙ sym (digit_tells (progress_at (progress_of b) t).phase)
