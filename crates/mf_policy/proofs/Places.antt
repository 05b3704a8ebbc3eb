-- The place of an entry among others, and the list with it and without it.
use Rattle.std.proofs.Common.{MatchOption, ◌≡◌, ℕ, ◌+◌, Bool, true, false, cond, not, ltb, ◌&&◌, ◌||◌, Option, Some, None, subst, List, [], ◌∷◌, length, refl, ap, sym, ◌∙◌, one-add, arith, suc}
use Rattle.std.specs.List.{list_any, position, position_or_len, prefix_len, remove, insert}
use Rattle.std.proofs.lemmas.List.Sums.{prefix_len-le-length}
use Rattle.std.proofs.lemmas.Bool.{ltb-false}
use Rattle.std.proofs.lemmas.Grind.{common_steps}
use Rattle.mf_policy.specs.Registration.{Entry, with_newest, without_first}
use Rattle.mf_policy.specs.Dynamic.{is_dynamic}

-- some element passes exactly where the first place is within
pub any_by_place : {X : Type 0} (p : X → Bool) (xs : List X) → list_any p xs ≡ ltb (position_or_len p xs) (length xs)
any_by_place p [] = refl
any_by_place p (x ∷ xs) =
    elim (p x) as (λ b. (b || list_any p xs) ≡ ltb (cond (not b) (1 + prefix_len (λ y. not (p y)) xs) 0) (suc (length xs))) [
      | true ↦ grind (arith, common_steps)
      | false ↦ grind (arith, common_steps, any_by_place p xs)
    ]

remove-suc : {X : Type 0} (x : X) (xs : List X) (i : ℕ) → remove (x ∷ xs) (1 + i) ≡ x ∷ remove xs i
remove-suc x xs i = rw (one-add i) refl

pub remove_at_place : {X : Type 0} (p : X → Bool) (xs : List X) → remove xs (position_or_len p xs) ≡ without_first p xs
remove_at_place p [] = refl
remove_at_place p (x ∷ xs) =
    elim (p x) as (λ b. remove (x ∷ xs) (cond (not b) (1 + prefix_len (λ y. not (p y)) xs) 0) ≡ cond b xs (x ∷ without_first p xs)) [
      | true ↦ refl
      | false ↦ remove-suc x xs (position_or_len p xs) ∙ ap (λ (ys : List _). x ∷ ys) (remove_at_place p xs)
    ]

insert-suc : {X : Type 0} (x : X) (xs : List X) (i : ℕ) (e : X) → insert (x ∷ xs) (1 + i) e ≡ x ∷ insert xs i e
insert-suc x xs i e = rw (one-add i) refl

-- a new policy goes before the dynamic list, or to the front
pub insert_dynamic : (e : Entry) (es : List Entry) → e.0.fixed ≡ false → insert es (position_or_len (λ (x : Entry). not x.0.fixed) es) e ≡ with_newest e es
insert_dynamic e [] h = refl
insert_dynamic e (x ∷ xs) h =
    let joined : Bool → Bool → List Entry = λ f b. cond (not f && b) (x ∷ with_newest e xs) (e ∷ x ∷ xs) in
    elim (x.0.fixed) as (λ b. insert (x ∷ xs) (cond (not (not b)) (1 + position_or_len is_dynamic xs) 0) e ≡ cond (not e.0.fixed && b) (x ∷ with_newest e xs) (e ∷ x ∷ xs)) [
      | true ↦ insert-suc x xs (position_or_len is_dynamic xs) e ∙ ap (λ (ys : List Entry). x ∷ ys) (insert_dynamic e xs h) ∙ sym (ap (λ f. joined f true) h)
      | false ↦ sym (ap (λ f. joined f false) h)
    ]

pub insert_static : (e : Entry) (es : List Entry) → e.0.fixed ≡ true → insert es 0 e ≡ with_newest e es
insert_static e [] h = refl
insert_static e (x ∷ xs) h = sym (ap (λ f. cond (not f && x.0.fixed) (x ∷ with_newest e xs) (e ∷ x ∷ xs)) h)

-- what `position` found, and that it found nothing
pub found : {X : Type 0} (p : X → Bool) (xs : List X) (i : ℕ) → position p xs ≡ Some i → (position_or_len p xs ≡ i) × (list_any p xs ≡ true)
found p xs i h =
    let L : ℕ = position_or_len p xs in
    let e : (L ≡ i) × (ltb L (length xs) ≡ true) =
    elim (ltb L (length xs)) as (λ b. cond b (Some L) None ≡ Some i → (L ≡ i) × (b ≡ true)) [
      | true ↦ λ e. (cc, refl)
      | false ↦ λ e. cc
    ] h in
    (e.0, any_by_place p xs ∙ e.1)

pub not_found : {X : Type 0} (p : X → Bool) (xs : List X) → position p xs ≡ None → list_any p xs ≡ false
not_found p xs h =
    let L : ℕ = position_or_len p xs in
    any_by_place p xs ∙ (elim (ltb L (length xs)) as (λ b. cond b (Some L) None ≡ None → b ≡ false) [
      | true ↦ λ e. cc
      | false ↦ λ e. refl
    ] h)

-- the first place that passes, or the length
pub place_or_len : {X : Type 0} (p : X → Bool) (xs : List X) (o : Option ℕ) → o ≡ position p xs → MatchOption o (length xs ≡ position_or_len p xs) (λ i. i ≡ position_or_len p xs)
place_or_len p xs None h =
    let L : ℕ = position_or_len p xs in
    let e : ltb L (length xs) ≡ false =
    elim (ltb L (length xs)) as (λ b. None ≡ cond b (Some L) None → b ≡ false) [ true ↦ λ e. cc | false ↦ λ e. refl ] h in
    omega (arith, ltb-false L (length xs) e, prefix_len-le-length (λ x. not (p x)) xs)
place_or_len p xs (Some i) h = sym (found p xs i (sym h)).0

-- nothing to take out
without_none : {X : Type 0} (p : X → Bool) (xs : List X) → list_any p xs ≡ false → without_first p xs ≡ xs
without_none p [] none = refl
without_none p (x ∷ xs) none =
    elim (p x) as (λ b. (b || list_any p xs) ≡ false → cond b xs (x ∷ without_first p xs) ≡ x ∷ xs) [
      | true ↦ λ l. cc
      | false ↦ λ l. ap (λ (ys : List _). x ∷ ys) (without_none p xs l)
    ] none

-- the list without the element that `position` found
pub without_found : {X : Type 0} (p : X → Bool) (xs : List X) (i : ℕ) → position p xs ≡ Some i → remove xs i ≡ without_first p xs
without_found p xs i h =
    subst (λ (k : ℕ). remove xs k ≡ without_first p xs) (found p xs i h).0 (remove_at_place p xs)

pub without_not_found : {X : Type 0} (p : X → Bool) (xs : List X) → position p xs ≡ None → xs ≡ without_first p xs
without_not_found p xs h = sym (without_none p xs (not_found p xs h))
