-- Modules that are one, the module of a name, and what is so of each module.
use Rattle.std.proofs.Common.{◌≡◌, ◌≢◌, ℕ, Bool, true, false, ◌&&◌, ◌||◌, List, [], ◌∷◌, Some, None, refl, ap, sym, ◌∙◌}
use Rattle.std.specs.Prelude.{find}
use Rattle.std.specs.List.{AllByRecursion, list_all, list_any}
use Rattle.std.specs.Str.{bytes_eq}
use Rattle.std.proofs.lemmas.Slice.Eq.{bytes_eq-Decides}
use Rattle.mf_errno.specs.Same.{same_module}
use Rattle.mf_errno.specs.Names.{all_modules, module_named, module_text}
use Rattle.mf_errno.specs.declared.module.Module.{Module}
use Rattle.mf_errno.specs.declared.module.Module.TheVariants.{Biba}

-- each module is found by its own name
pub own_name : (m : Module) → module_named (module_text m) ≡ Some m
unfolding module_named
own_name Biba = refl
own_name other = refl

-- so a name tells the module
pub same_module-is : (a b : Module) → same_module a b ≡ true → a ≡ b
same_module-is a b same =
    let named : module_text a ≡ module_text b = (bytes_eq-Decides (module_text a) (module_text b)).0 same in
    let found : Some a ≡ Some b = sym (own_name a) ∙ ap module_named named ∙ own_name b in
    cc

pub differs : (name text : List ℕ) → text ≢ name → bytes_eq name text ≡ false
differs name text other = by_test (bytes_eq name text) (bytes_eq-Decides name text).0
  where
    by_test : (b : Bool) → (b ≡ true → name ≡ text) → b ≡ false
    by_test true same = absurd (other (sym (same refl)))
    by_test false same = refl

none_named : (text : List ℕ) (ms : List Module) → AllByRecursion (λ m. text ≢ module_text m) ms → find (λ m. bytes_eq (module_text m) text) ms ≡ None
none_named text [] others = refl
none_named text (m ∷ ms) others = rw (differs (module_text m) text others.0) (none_named text ms others.1)

-- no module is found by a text that is no module's name
pub no_name : (text : List ℕ) → AllByRecursion (λ m. text ≢ module_text m) all_modules → module_named text ≡ None
unfolding module_named
no_name text others = none_named text all_modules others

-- each module is among all
among_all : (m : Module) → list_any (same_module m) all_modules ≡ true
among_all Biba = refl
among_all other = refl

passes_within : (test : Module → Bool) (m : Module) (ms : List Module) → list_all test ms ≡ true → list_any (same_module m) ms ≡ true → test m ≡ true
passes_within test m [] all there = cc
passes_within test m (k ∷ ms) all there = one (test k) (same_module m k) refl refl (passes_within test m ms) all there
  where
    one : (passed same : Bool) → test k ≡ passed → same_module m k ≡ same
        → (list_all test ms ≡ true → list_any (same_module m) ms ≡ true → test m ≡ true)
        → (passed && list_all test ms) ≡ true → (same || list_any (same_module m) ms) ≡ true → test m ≡ true
    one true true passes is rest all there = ap test (same_module-is m k is) ∙ passes
    one true false passes other rest all there = rest all there
    one false same fails is rest all there = cc

pub same_module-self : (m : Module) → same_module m m ≡ true
same_module-self Biba = refl
same_module-self other = refl

-- a test that all modules pass is passed by each
pub each_passes : (test : Module → Bool) → list_all test all_modules ≡ true → (m : Module) → test m ≡ true
each_passes test all m = passes_within test m all_modules all (among_all m)
