-- How often a module is held, through registrations and changes.
use Rattle.std.proofs.Common.{◌≡◌, ℕ, ◌+◌, ◌≤◌, Bool, true, false, cond, not, ◌&&◌, ◌||◌, List, [], ◌∷◌, ◌++◌, length, refl, ap, sym, subst, arith, suc, zero}
use Rattle.std.specs.List.{list_any, remove}
use Rattle.mf_errno.specs.Same.{same_module}
use Rattle.mf_errno.specs.declared.module.Module.{Module}
use Rattle.mf_errno.specs.declared.module.Module.TheVariants.{Biba}
use Rattle.mf_errno.specs.Names.{all_modules}
use Rattle.mf_policy.specs.declared.spec.Spec.{Spec}
use Rattle.mf_policy.specs.Registration.{Entry, is_listed, is_of}
use Rattle.mf_list.specs.Held.{how_many}
use Rattle.mf_list.specs.Once.{are_distinct, AreDistinct, IsHeldOnce, IsListedOnce}
use Rattle.mf_list.specs.Lists.{in_catalogue}
use Rattle.mf_list.specs.Registration.{entries_without, modules_without, with_spec, with_newest}
use Rattle.mf_errno.proofs.Modules.{same_module-is}

pub how_many-newest : (p : Entry → Bool) (e : Entry) (es : List Entry) → how_many p (with_newest e es) ≡ cond (p e) 1 0 + how_many p es
how_many-newest p e [] = refl
how_many-newest p e (x ∷ xs) =
    elim (not e.0.fixed && x.0.fixed) as (λ b. how_many p (cond b (x ∷ with_newest e xs) (e ∷ x ∷ xs)) ≡ cond (p e) 1 0 + (cond (p x) 1 0 + how_many p xs)) [
      | true ↦ omega (arith, how_many-newest p e xs)
      | false ↦ refl
    ]

pub how_many-none : {X : Type 0} (p : X → Bool) (xs : List X) → list_any p xs ≡ false → how_many p xs ≡ 0
how_many-none p [] h = refl
how_many-none p (x ∷ xs) h =
    elim (p x) as (λ b. (b || list_any p xs) ≡ false → cond b 1 0 + how_many p xs ≡ 0) [
      | true ↦ λ l. cc
      | false ↦ λ l. omega (arith, how_many-none p xs l)
    ] h

-- a module that is not listed can be listed
pub listed_once-cons : (e : Entry) (es : List Entry) → IsListedOnce es → is_listed e.0.module es ≡ false → IsListedOnce (e ∷ es)
listed_once-cons e es once absent = λ m.
    elim (same_module m e.0.module) as (λ b. same_module m e.0.module ≡ b → cond b 1 0 + how_many (is_of m) es ≤ 1) [
      | true ↦ λ same.
          let none = how_many-none (is_of m) es (subst (λ (k : Module). is_listed k es ≡ false) (sym (same_module-is m e.0.module same)) absent) in
          omega (arith, none)
      | false ↦ λ _. omega (arith, once m)
    ] refl

pub listed_once-newest : (e : Entry) (es : List Entry) → IsListedOnce es → is_listed e.0.module es ≡ false → IsListedOnce (with_newest e es)
listed_once-newest e es once absent = λ m. omega (arith, how_many-newest (is_of m) e es, listed_once-cons e es once absent m)

how_many-remove : {X : Type 0} (p : X → Bool) (xs : List X) (i : ℕ) → how_many p (remove xs i) ≤ how_many p xs
how_many-remove p [] zero = omega arith
how_many-remove p [] (suc i) = omega arith
how_many-remove p (x ∷ xs) zero = omega arith
how_many-remove p (x ∷ xs) (suc i) = omega (arith, how_many-remove p xs i)

pub listed_once-remove : (es : List Entry) (i : ℕ) → IsListedOnce es → IsListedOnce (remove es i)
listed_once-remove es i once = λ m. omega (arith, how_many-remove (is_of m) es i, once m)

-- a change of a spec lists the same modules
pub how_many-spec : (m k : Module) (spec : Spec) (es : List Entry) → how_many (is_of m) (with_spec k spec es) ≡ how_many (is_of m) es
how_many-spec m k spec [] = refl
how_many-spec m k spec (x ∷ xs) =
    elim (is_of k x) as (λ b. how_many (is_of m) (cond b ((x.0, spec) ∷ xs) (x ∷ with_spec k spec xs)) ≡ cond (is_of m x) 1 0 + how_many (is_of m) xs) [
      | true ↦ refl
      | false ↦ ap (λ (n : ℕ). cond (is_of m x) 1 0 + n) (how_many-spec m k spec xs)
    ]

pub listed_once-spec : (k : Module) (spec : Spec) (es : List Entry) → IsListedOnce es → IsListedOnce (with_spec k spec es)
listed_once-spec k spec es once = λ m. omega (arith, how_many-spec m k spec es, once m)

-- a module that leaves the catalogue or the list is held once less
pub how_many-without_module : (m k : Module) (ms : List Module) → in_catalogue k ms ≡ true → how_many (same_module m) ms ≡ cond (same_module m k) 1 0 + how_many (same_module m) (modules_without k ms)
how_many-without_module m k [] h = cc
how_many-without_module m k (x ∷ ms) h =
    elim (same_module k x) as (λ b. same_module k x ≡ b → (b || list_any (same_module k) ms) ≡ true → cond (same_module m x) 1 0 + how_many (same_module m) ms ≡ cond (same_module m k) 1 0 + how_many (same_module m) (cond b ms (x ∷ modules_without k ms))) [
      | true ↦ λ e _. ap (λ (n : Module). cond (same_module m n) 1 0 + how_many (same_module m) ms) (sym (same_module-is k x e))
      | false ↦ λ _ l. omega (arith, how_many-without_module m k ms l)
    ] refl h

pub how_many-without_entry : (m k : Module) (es : List Entry) → is_listed k es ≡ true → how_many (is_of m) es ≡ cond (same_module m k) 1 0 + how_many (is_of m) (entries_without k es)
how_many-without_entry m k [] h = cc
how_many-without_entry m k (x ∷ es) h =
    elim (is_of k x) as (λ b. is_of k x ≡ b → (b || list_any (is_of k) es) ≡ true → cond (is_of m x) 1 0 + how_many (is_of m) es ≡ cond (same_module m k) 1 0 + how_many (is_of m) (cond b es (x ∷ entries_without k es))) [
      | true ↦ λ e _. ap (λ (n : Module). cond (same_module m n) 1 0 + how_many (is_of m) es) (sym (same_module-is k x.0.module e))
      | false ↦ λ _ l. omega (arith, how_many-without_entry m k es l)
    ] refl h

pub how_many-push : (p : Module → Bool) (ms : List Module) (k : Module) → how_many p (ms ++ k ∷ []) ≡ how_many p ms + cond (p k) 1 0
how_many-push p [] k = omega arith
how_many-push p (x ∷ ms) k = omega (arith, how_many-push p ms k)

and_left : (a b : Bool) → (a && b) ≡ true → a ≡ true
and_left true b both = refl
and_left false b both = both

and_right : (a b : Bool) → (a && b) ≡ true → b ≡ true
and_right true b both = both
and_right false b both = cc

not_true : (a : Bool) → not a ≡ true → a ≡ false
not_true true negated = sym negated
not_true false negated = refl

-- distinct modules are there once each
pub once_if_distinct : (ms : List Module) → are_distinct ms ≡ true → AreDistinct ms
once_if_distinct [] distinct m = omega arith
once_if_distinct (x ∷ ms) distinct m =
    let absent = not_true (in_catalogue x ms) (and_left (not (in_catalogue x ms)) (are_distinct ms) distinct) in
    let rest = once_if_distinct ms (and_right (not (in_catalogue x ms)) (are_distinct ms) distinct) m in
    elim (same_module m x) as (λ b. same_module m x ≡ b → cond b 1 0 + how_many (same_module m) ms ≤ 1) [
      | true ↦ λ same.
          let none = how_many-none (same_module m) ms (subst (λ (k : Module). in_catalogue k ms ≡ false) (sym (same_module-is m x same)) absent) in
          omega (arith, none)
      | false ↦ λ _. omega (arith, rest)
    ] refl

-- what is not in the catalogue can be put there
pub distinct-push : (ms : List Module) (k : Module) → AreDistinct ms → in_catalogue k ms ≡ false → AreDistinct (ms ++ k ∷ [])
distinct-push ms k distinct absent = λ m.
    let more = how_many-push (same_module m) ms k in
    elim (same_module m k) as (λ b. same_module m k ≡ b → how_many (same_module m) (ms ++ k ∷ []) ≤ 1) [
      | true ↦ λ same.
          let none = how_many-none (same_module m) ms (subst (λ (n : Module). in_catalogue n ms ≡ false) (sym (same_module-is m k same)) absent) in
          omega (arith, more, none, ap {B = ℕ} (λ (b : Bool). cond b 1 0) same)
      | false ↦ λ other. omega (arith, more, distinct m, ap {B = ℕ} (λ (b : Bool). cond b 1 0) other)
    ] refl

pub distinct-remove : (ms : List Module) (i : ℕ) → AreDistinct ms → AreDistinct (remove ms i)
distinct-remove ms i distinct = λ m. omega (arith, how_many-remove (same_module m) ms i, distinct m)

pub how_many-some : {X : Type 0} (p : X → Bool) (xs : List X) → list_any p xs ≡ true → 1 ≤ how_many p xs
how_many-some p [] h = cc
how_many-some p (x ∷ xs) h =
    elim (p x) as (λ b. (b || list_any p xs) ≡ true → 1 ≤ cond b 1 0 + how_many p xs) [
      | true ↦ λ _. omega arith
      | false ↦ λ l. omega (arith, how_many-some p xs l)
    ] h

-- what is listed isn't in the catalogue
pub held_elsewhere : (m : Module) (listed : List Entry) (catalogue : List Module) → IsHeldOnce listed catalogue → is_listed m listed ≡ true → in_catalogue m catalogue ≡ false
held_elsewhere m listed catalogue once is_there =
    elim (in_catalogue m catalogue) as (λ b. in_catalogue m catalogue ≡ b → b ≡ false) [
      | true ↦ λ too. absurd (omega (arith, once m, how_many-some (is_of m) listed is_there, how_many-some (same_module m) catalogue too))
      | false ↦ λ _. refl
    ] refl

-- how many of these have one of these modules
held_of : {X : Type 0} → (X → Module) → List Module → List X → ℕ
held_of of [] xs = 0
held_of of (m ∷ ms) xs = how_many (λ x. same_module m (of x)) xs + held_of of ms xs

none_held : {X : Type 0} (of : X → Module) (ms : List Module) → held_of of ms [] ≡ 0
unfolding held_of
none_held of [] = refl
none_held of (m ∷ ms) = omega (arith, none_held of ms)

one_held : {X : Type 0} (of : X → Module) (ms : List Module) (x : X) (xs : List X) → held_of of ms (x ∷ xs) ≡ how_many (λ m. same_module m (of x)) ms + held_of of ms xs
unfolding held_of
one_held of [] x xs = refl
one_held of (m ∷ ms) x xs = omega (arith, one_held of ms x xs)

-- each module is once among all
once_among : (m : Module) → how_many (λ k. same_module k m) all_modules ≡ 1
once_among Biba = refl
once_among other = refl

length_by_modules : {X : Type 0} (of : X → Module) (xs : List X) → length xs ≡ held_of of all_modules xs
length_by_modules of [] = sym (none_held of all_modules)
length_by_modules of (x ∷ xs) = omega (arith, length_by_modules of xs, one_held of all_modules x xs, once_among (of x))

few_held : {X : Type 0} (of : X → Module) (ms : List Module) (xs : List X) → ((m : Module) → how_many (λ x. same_module m (of x)) xs ≤ 1) → held_of of ms xs ≤ length ms
unfolding held_of
few_held of [] xs once = omega arith
few_held of (m ∷ ms) xs once = omega (arith, once m, few_held of ms xs once)

-- there are no more modules than that
few : {X : Type 0} (of : X → Module) (xs : List X) → ((m : Module) → how_many (λ x. same_module m (of x)) xs ≤ 1) → length xs ≤ 8
few of xs once = omega (arith, length_by_modules of xs, few_held of all_modules xs once)

pub listed_few : (es : List Entry) → IsListedOnce es → length es ≤ 8
listed_few es once = few (λ (e : Entry). e.0.module) es once

pub distinct_few : (ms : List Module) → AreDistinct ms → length ms ≤ 8
distinct_few ms distinct = few (λ (m : Module). m) ms distinct
