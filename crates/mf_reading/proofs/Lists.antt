-- What is so of each element of a list.
use Rattle.std.proofs.Common.{◌≡◌, ℕ, ◌≤◌, zero, suc, Bool, true, false, cond, List, [], ◌∷◌, ◌++◌, length, take, Some, map, refl, subst, arith}
use Rattle.std.specs.Prelude.{All, find, filter, if◌then◌else◌}
use Rattle.std.specs.List.{AllByRecursion}

pub all_joined : {X : Type 0} (P : X → Type 0) (xs ys : List X) → AllByRecursion P xs → AllByRecursion P ys → AllByRecursion P (xs ++ ys)
all_joined P [] ys all others = others
all_joined P (x ∷ xs) ys all others = (all.0, all_joined P xs ys all.1 others)

pub by_place : {X : Type 0} (P : X → Type 0) (xs : List X) → All P xs → AllByRecursion P xs
by_place P [] all = tt
by_place P (x ∷ xs) all = (all 0 x (omega arith), by_place P xs (λ k d within. all (suc k) d (omega (arith, within))))

pub all_found : {X : Type 0} (P : X → Type 0) (p : X → Bool) (xs : List X) (x : X) → AllByRecursion P xs → find p xs ≡ Some x → P x × (p x ≡ true)
all_found P p [] x all found = cc
all_found P p (y ∷ xs) x all found = one (p y) refl (all_found P p xs x all.1) found
  where
    one : (b : Bool) → p y ≡ b → (find p xs ≡ Some x → P x × (p x ≡ true)) → cond b (Some y) (find p xs) ≡ Some x → P x × (p x ≡ true)
    one true hit rest found =
        let is : y ≡ x = cc in
        subst (λ z. P z × (p z ≡ true)) is (all.0, hit)
    one false miss rest found = rest found

pub all_kept : {X : Type 0} (P : X → Type 0) (p : X → Bool) (xs : List X) → AllByRecursion P xs → AllByRecursion P (filter p xs)
all_kept P p [] all = tt
all_kept P p (x ∷ xs) all = one (p x) (all_kept P p xs all.1)
  where
    one : (b : Bool) → AllByRecursion P (filter p xs) → AllByRecursion P (cond b (x ∷ filter p xs) (filter p xs))
    one true rest = (all.0, rest)
    one false rest = rest

pub few_kept : {X : Type 0} (p : X → Bool) (xs : List X) → length (filter p xs) ≤ length xs
few_kept p [] = omega arith
few_kept p (x ∷ xs) = one (p x) (few_kept p xs)
  where
    one : (b : Bool) → length (filter p xs) ≤ length xs → length (cond b (x ∷ filter p xs) (filter p xs)) ≤ length (x ∷ xs)
    one true rest = omega (arith, rest)
    one false rest = omega (arith, rest)

pub all_mapped : {X Y : Type 0} (P : X → Type 0) (Q : Y → Type 0) (f : X → Y) (xs : List X) → ((x : X) → P x → Q (f x)) → AllByRecursion P xs → AllByRecursion Q (map f xs)
all_mapped P Q f [] gives all = tt
all_mapped P Q f (x ∷ xs) gives all = (gives x all.0, all_mapped P Q f xs gives all.1)

pub all_taken : {X : Type 0} (P : X → Type 0) (most : ℕ) (xs : List X) → AllByRecursion P xs → AllByRecursion P (take most xs)
all_taken P zero xs all = tt
all_taken P (suc most) [] all = tt
all_taken P (suc most) (x ∷ xs) all = (all.0, all_taken P most xs all.1)

-- what is so of either choice
pub either_way : {X : Type 0} (P : X → Type 0) (b : Bool) (x y : X) → P x → P y → P (if b then x else y)
either_way P true x y first second = first
either_way P false x y first second = second
