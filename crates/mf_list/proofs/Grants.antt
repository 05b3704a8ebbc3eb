-- That one grant among several is enough.
use Rattle.std.proofs.Common.{◌≡◌, ℕ, ◌<◌, Bool, true, false, ◌||◌, List, [], ◌∷◌, map, length, get_or, Contains, IsTrue, ◌↔◌, refl, ap, ◌∙◌, arith, suc, zero}
use Rattle.std.specs.List.{list_any}
use Rattle.mf_policy.specs.Registration.{Entry}

is_enough : (grants : List Bool) (place : ℕ) → place < length grants → get_or grants place true ≡ true → list_any (λ grant. grant) grants ≡ true
is_enough [] place within grant = absurd (omega arith)
is_enough (true ∷ later) place within grant = refl
is_enough (false ∷ later) zero within grant = cc
is_enough (false ∷ later) (suc place) within grant = is_enough later place (omega arith) grant

is_there : (grants : List Bool) → list_any (λ grant. grant) grants ≡ true → Contains grants true
is_there [] granted = cc
is_there (true ∷ later) granted = (0, omega arith, refl)
is_there (false ∷ later) granted =
    let there = is_there later granted in
    (suc there.0, omega arith, there.2)

by_two_tests : (a b : Bool) → (a ≡ true → b ≡ true) → (b ≡ true → a ≡ true) → a ≡ b
by_two_tests true true to from = refl
by_two_tests true false to from = cc (to refl)
by_two_tests false true to from = cc (from refl)
by_two_tests false false to from = refl

any-map : {X : Type 0} (f : X → Bool) (xs : List X) → list_any (λ grant. grant) (map f xs) ≡ list_any f xs
any-map f [] = refl
any-map f (x ∷ xs) = ap (λ b. f x || b) (any-map f xs)

-- the grants hold a yes exactly where some policy grants
pub granted_by_some : (f : Entry → Bool) (entries : List Entry) (grants : List Bool) (result : Bool)
    → IsTrue result ↔ Contains grants true → grants ≡ map f entries → result ≡ list_any f entries
granted_by_some f entries grants result granted are =
    by_two_tests result (list_any (λ grant. grant) grants)
    (λ yes. let there = granted.0 yes in is_enough grants there.0 there.1 there.2)
    (λ some. granted.1 (is_there grants some))
    ∙ ap (list_any (λ grant. grant)) are
    ∙ any-map f entries
