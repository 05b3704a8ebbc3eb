-- The step that adds a plan to the register, and where a plan stands in it.
use Rattle.std.proofs.Common.{◌≡◌, ℕ, ◌+◌, ◌<◌, ◌≤◌, ◌==◌, Bool, true, false, List, [], ◌∷◌, ◌++◌, length, slice_get, refl, ap, sym, ◌∙◌, subst, arith, inl, length-append, MatchBool, None, Some}
use Rattle.std.proofs.lemmas.List.{append-nil}
use Rattle.std.proofs.lemmas.Bool.Decides.{nat_tests}
use mathlib.Core.List.{IsPrefix}
use prog.Atomic.{either}
use Rattle.logbook.specs.Pages.{Cell, cell, keeps, no_nib, step, Moves, Goes}
use Rattle.mf_plan.specs.Planned.{Plan}
use Rattle.mf_share.specs.Register.{IsKept, Adds}

abbrev pub shown : List Plan → List Plan
shown plans = []

abbrev pub moved : List Plan → List Plan → ℕ → Type 0
moved xs ys n = Unit {0}

-- a beginning as long as the whole is the whole
whole : {A : Type 0} (xs ys : List A) → IsPrefix xs ys → length ys ≤ length xs → xs ≡ ys
whole [] [] p le = refl
whole [] (y ∷ ys) p le = absurd (omega arith)
whole (x ∷ xs) [] p le = absurd (cc (p.1))
whole (x ∷ xs) (y ∷ ys) p le =
    let rest = whole xs ys (p.0, cc (p.1)) (omega arith) in cc (p.1, rest)

goes : (plans v : List Plan) (plan : Plan) (old : ℕ) → length v ≡ old → IsPrefix v plans → (b : Bool) → (length plans == old) ≡ b
    → Goes IsKept shown moved 0 (v, (no_nib, None)) (λ n. either (n == old) (old + 1) n) (Adds (step 0 old (old + 1) plan) (v, (no_nib, None))) ((length plans, true) ∷ (0, true) ∷ []) plans
goes plans v plan old len begins true is =
    let here : length plans ≡ old = grind (arith, nat_tests) in
    let same : v ≡ plans = whole v plans begins (omega arith) in
    let n : either (length plans == old) (old + 1) (length plans) ≡ length (plans ++ plan ∷ []) = rw is (omega (arith, length-append plans (plan ∷ []))) in (
      keeps,
      plan ∷ [],
      None,
      tt,
      ap (λ (k : ℕ). (k, true) ∷ (0, true) ∷ []) n,
      inl (refl, refl),
      rw is (ap (λ w. w ++ plan ∷ []) (sym same)),
    )
goes plans v plan old len begins false is =
    let all : plans ++ [] ≡ plans = append-nil plans in
    let n : either (length plans == old) (old + 1) (length plans) ≡ length (plans ++ []) = rw is (ap length (sym all)) in (
      keeps,
      [],
      None,
      tt,
      ap (λ (k : ℕ). (k, true) ∷ (0, true) ∷ []) n,
      inl (refl, refl),
      rw is (ap length all),
    )

-- whatever the register is, the exchange adds the plan to all that was seen, or finds that there are more
pub adds_moves : (v : List Plan) (plan : Plan) (old : ℕ) → length v ≡ old
    → Moves IsKept shown moved 0 (v, (no_nib, None)) (λ n. either (n == old) (old + 1) n) (Adds (step 0 old (old + 1) plan) (v, (no_nib, None)))
adds_moves v plan old len cs plans kept begins away =
    let P : List Cell → Type 0 = λ c. (0 < length c) × ((cell c 0).1 ≡ true) × Goes IsKept shown moved 0 (v, (no_nib, None)) (λ n. either (n == old) (old + 1) n) (Adds (step 0 old (old + 1) plan) (v, (no_nib, None))) c plans in
    subst P (sym kept) (omega arith, refl, goes plans v plan old len begins (length plans == old) refl)

get_last : {A : Type 0} (xs : List A) (x : A) → slice_get (xs ++ x ∷ []) (length xs) ≡ Some x
get_last [] x = refl
get_last (y ∷ xs) x = get_last xs x

-- where the word was as long as the plans that had been seen, the plan stands at the end of them
pub added : (v w : List Plan) (ask plan : Plan) (found old : ℕ) → found ≡ old → MatchBool (found == old) (w ≡ v ++ ask ∷ []) (length w ≡ found) → old ≡ length v → ask ≡ plan
    → slice_get w old ≡ Some plan
added v w ask plan found old same adds len is =
    let yes : (found == old) ≡ true = grind (arith, nat_tests) in
    let all : w ≡ v ++ ask ∷ [] = subst (λ (b : Bool). MatchBool b (w ≡ v ++ ask ∷ []) (length w ≡ found)) yes adds in
    ap (λ (plans : List Plan). slice_get plans old) all ∙ ap (slice_get (v ++ ask ∷ [])) len ∙ get_last v ask ∙ ap Some is
