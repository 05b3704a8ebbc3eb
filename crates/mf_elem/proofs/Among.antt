-- The numbers from 1 up to one, and what stands among those that pass.
use Rattle.std.proofs.Common.{◌≡◌, ◌≢◌, ℕ, ◌+◌, ◌<◌, ◌≤◌, suc, zero, Bool, true, false, cond, ◌||◌, eqb, List, [], ◌∷◌, ◌++◌, filter, refl, sym, ap, ◌∙◌, arith, inl, inr}
use Rattle.std.proofs.lemmas.Bool.{ne_eqb, eq-eqb, cases_eq}
use Rattle.std.proofs.lemmas.List.Elements.{filter-append}
use Rattle.std.specs.List.{list_any, range_with_len}

abbrev pub numbers_to : ℕ → List ℕ
numbers_to zero = []
numbers_to (suc n) = numbers_to n ++ suc n ∷ []

range_push : (a n : ℕ) → range_with_len a (suc n) ≡ range_with_len a n ++ (a + n) ∷ []
range_push a zero = let same : a + 0 ≡ a = omega arith in rw same refl
range_push a (suc n) = let same : a + suc n ≡ a + 1 + n = omega arith in rw same (ap (λ ns. a ∷ ns) (range_push (a + 1) n))

pub range_is : (n : ℕ) → range_with_len 1 n ≡ numbers_to n
range_is zero = refl
range_is (suc n) =
    let last : 1 + n ≡ suc n = omega arith in
    range_push 1 n ∙ ap (λ k. range_with_len 1 n ++ k ∷ []) last ∙ ap (λ ns. ns ++ suc n ∷ []) (range_is n)

abbrev pub is_among : ℕ → List ℕ → Bool
is_among q ns = list_any (λ n. eqb n q) ns

or_assoc : (a b c : Bool) → (a || (b || c)) ≡ ((a || b) || c)
or_assoc true b c = refl
or_assoc false b c = refl

among_append : (q : ℕ) (xs ys : List ℕ) → is_among q (xs ++ ys) ≡ (is_among q xs || is_among q ys)
among_append q [] ys = refl
among_append q (x ∷ xs) ys = ap (λ b. eqb x q || b) (among_append q xs ys) ∙ or_assoc (eqb x q) (is_among q xs) (is_among q ys)

or_false : (b : Bool) → (b || false) ≡ b
or_false true = refl
or_false false = refl

-- one number passes or not, and is q or not
one_among : (test : ℕ → Bool) (n q : ℕ) → is_among q (cond (test n) (n ∷ []) []) ≡ cond (test n) (eqb n q) false
one_among test n q = elim (test n) as (λ b. is_among q (cond b (n ∷ []) []) ≡ cond b (eqb n q) false) [ true ↦ or_false (eqb n q) | false ↦ refl ]

step : (test : ℕ → Bool) (n q : ℕ) → is_among q (filter test (numbers_to (suc n))) ≡ (is_among q (filter test (numbers_to n)) || cond (test (suc n)) (eqb (suc n) q) false)
step test n q =
    ap (is_among q) (filter-append test (numbers_to n) (suc n ∷ []))
    ∙ among_append q (filter test (numbers_to n)) (filter test (suc n ∷ []))
    ∙ ap (λ b. is_among q (filter test (numbers_to n)) || b) (one_among test (suc n) q)

not_this : (b : Bool) (n q : ℕ) → n ≢ q → cond b (eqb n q) false ≡ false
not_this true n q other = ne_eqb n q other
not_this false n q other = refl

this : (b : Bool) (n q : ℕ) → n ≡ q → cond b (eqb n q) false ≡ b
this true n q same = eq-eqb n q same
this false n q same = refl

pub above : (test : ℕ → Bool) (n q : ℕ) → n < q → is_among q (filter test (numbers_to n)) ≡ false
above test zero q over = refl
above test (suc n) q over =
    step test n q
    ∙ ap (λ b. b || cond (test (suc n)) (eqb (suc n) q) false) (above test n q (omega arith))
    ∙ not_this (test (suc n)) (suc n) q (λ e. omega arith)

pub among_is : (test : ℕ → Bool) (n q : ℕ) → 1 ≤ q → q ≤ n → is_among q (filter test (numbers_to n)) ≡ test q
among_is test zero q least most = absurd (omega arith)
among_is test (suc n) q least most =
    elim (cases_eq q (suc n)) [
      | inl same ↦
          step test n q
          ∙ ap (λ b. b || cond (test (suc n)) (eqb (suc n) q) false) (above test n q (omega arith))
          ∙ this (test (suc n)) (suc n) q (sym same)
          ∙ ap test (sym same)
      | inr differ ↦
          step test n q
          ∙ ap (λ b. is_among q (filter test (numbers_to n)) || b) (not_this (test (suc n)) (suc n) q (λ e. differ (sym e)))
          ∙ or_false (is_among q (filter test (numbers_to n)))
          ∙ among_is test n q least (omega arith)
    ]

pub zero_not_among : (test : ℕ → Bool) (n : ℕ) → is_among 0 (filter test (numbers_to n)) ≡ false
zero_not_among test zero = refl
zero_not_among test (suc n) =
    step test n 0
    ∙ ap (λ b. b || cond (test (suc n)) (eqb (suc n) 0) false) (zero_not_among test n)
    ∙ not_this (test (suc n)) (suc n) 0 (λ e. omega arith)

-- tests that agree on the numbers pass the same
pub filter_same : (f g : ℕ → Bool) (n : ℕ) → ((q : ℕ) → 1 ≤ q → q ≤ n → f q ≡ g q) → filter f (numbers_to n) ≡ filter g (numbers_to n)
filter_same f g zero same = refl
filter_same f g (suc n) same =
    filter-append f (numbers_to n) (suc n ∷ [])
    ∙ ap (λ ns. ns ++ filter f (suc n ∷ [])) (filter_same f g n (λ q least most. same q least (omega (arith, most))))
    ∙ ap (λ b. filter g (numbers_to n) ++ cond b (suc n ∷ []) []) (same (suc n) (omega arith) (omega arith))
    ∙ sym (filter-append g (numbers_to n) (suc n ∷ []))
