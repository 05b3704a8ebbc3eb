-- How often modules are listed and held.
use Rattle.std.proofs.Common.{◌≡◌, ◌≢◌, ℕ, zero, suc, ◌+◌, ◌<◌, ◌≤◌, Bool, true, false, cond, ◌||◌, List, [], ◌∷◌, ◌++◌, length, get_or, take, refl, ap, ◌∙◌, arith}
use Rattle.std.specs.List.{list_any}
use Rattle.mf_errno.specs.Same.{same_module}
use Rattle.mf_errno.specs.declared.module.Module.{Module}
use Rattle.mf_list.specs.Held.{how_many}
use Rattle.mf_list.specs.Once.{are_distinct}
use Rattle.mf_errno.proofs.Modules.{same_module-is, same_module-self}
use Rattle.mf_core.specs.AllModules.{AreAllModules}
use Rattle.mf_core.specs.Policies.{AreOf}
use Rattle.mf_policy.specs.Registration.{Entry, is_of}

pub same_module-other : (a b : Module) → a ≢ b → same_module a b ≡ false
same_module-other a b other =
    elim (same_module a b) as (λ r. same_module a b ≡ r → r ≡ false) [
      | true ↦ λ same. absurd (other (same_module-is a b same))
      | false ↦ λ _. refl
    ] refl

-- nothing passes where none is counted, and something does where one is

pub none_passes : {X : Type 0} (p : X → Bool) (xs : List X) → how_many p xs ≡ 0 → list_any p xs ≡ false
none_passes p [] none = refl
none_passes p (x ∷ xs) none =
    elim (p x) as (λ b. cond b 1 0 + how_many p xs ≡ 0 → (b || list_any p xs) ≡ false) [
      | true ↦ λ none. absurd (omega arith)
      | false ↦ λ none. none_passes p xs (omega arith)
    ] none

pub some_passes : {X : Type 0} (p : X → Bool) (xs : List X) → 0 < how_many p xs → list_any p xs ≡ true
some_passes p [] some = absurd (omega arith)
some_passes p (x ∷ xs) some =
    elim (p x) as (λ b. 0 < cond b 1 0 + how_many p xs → (b || list_any p xs) ≡ true) [
      | true ↦ λ some. refl
      | false ↦ λ some. some_passes p xs (omega arith)
    ] some

pub none_counted : {X : Type 0} (p : X → Bool) (xs : List X) → list_any p xs ≡ false → how_many p xs ≡ 0
none_counted p [] none = refl
none_counted p (x ∷ xs) none =
    elim (p x) as (λ b. (b || list_any p xs) ≡ false → cond b 1 0 + how_many p xs ≡ 0) [
      | true ↦ λ none. cc
      | false ↦ λ none. omega (arith, none_counted p xs none)
    ] none

-- the first elements are not counted where none of them passes
pub none_before : {X : Type 0} (p : X → Bool) (xs : List X) (n : ℕ) → n ≤ length xs
    → ((i : ℕ) (d : X) → i < n → p (get_or xs i d) ≡ false) → how_many p (take n xs) ≡ 0
none_before p xs zero within none = refl
none_before p [] (suc n) within none = absurd (omega arith)
none_before p (x ∷ xs) (suc n) within none =
    omega (arith, ap {B = ℕ} (λ (b : Bool). cond b 1 0) (none 0 x (omega arith)), none_before p xs n (omega arith) (λ i d lt. none (suc i) d (omega arith)))

-- Modules

-- where each module stands once, none stands twice

distinct_if_once : (ms : List Module) → ((m : Module) → how_many (same_module m) ms ≤ 1) → are_distinct ms ≡ true
distinct_if_once [] once = refl
distinct_if_once (m ∷ ms) once =
    let here : how_many (same_module m) ms ≡ 0 = omega (arith, once m, ap {B = ℕ} (λ (b : Bool). cond b 1 0) (same_module-self m)) in
    rw (none_passes (same_module m) ms here) (distinct_if_once ms (λ k. omega (arith, once k)))

pub distinct_modules : (ms : List Module) → AreAllModules ms → are_distinct ms ≡ true
distinct_modules ms all = distinct_if_once ms (λ m. omega (arith, all m))

-- empty lists, and a catalogue of all modules
pub all_unlisted : (fixed list : List Entry) (catalogue modules : List Module) → fixed ≡ [] → list ≡ [] → catalogue ≡ modules → AreAllModules modules
    → AreOf [] fixed list catalogue
all_unlisted fixed list catalogue modules none_fixed none all_in all =
    let listed : fixed ++ list ≡ [] = ap (λ (es : List Entry). es ++ list) none_fixed ∙ none in
    record {
      listed = listed;
      held = λ m. omega (arith, ap (how_many (is_of m)) listed, ap (how_many (same_module m)) all_in, all m);
    }
