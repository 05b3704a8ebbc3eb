-- The modules that there are, and policies of them that are put into a list, one after another.
use Rattle.std.proofs.Common.{◌≡◌, List, [], ◌∷◌, ◌++◌, map, refl, sym, ◌∙◌, ap, subst, append_assoc, append-nil}
use Rattle.std.specs.Prelude.{All}
use Rattle.std.proofs.lemmas.List.{map-append}
use Rattle.std.proofs.lemmas.List.Elements.{All-nil, All-push}
use Rattle.mf_errno.specs.declared.module.Module.{Module}
use Rattle.mf_errno.specs.declared.module.Module.TheVariants.{Biba}
use Rattle.mf_errno.specs.Names.{all_modules}
use Rattle.mf_policy.specs.declared.spec.Spec.{Spec}
use Rattle.mf_policy.specs.Modules.{fresh_of, module_of}
use Rattle.mf_list.specs.Fresh.{IsFresh}
use Rattle.mf_core.specs.AllModules.{AreAllModules}

-- each module once

all_there : AreAllModules all_modules
all_there Biba = refl
all_there other = refl

own_module : (m : Module) → module_of (fresh_of m) ≡ m
own_module Biba = refl
own_module other = refl

-- policies of these modules, each in its initial state
pub record AreFirst {X : Type 0} (spec : X → Spec) (xs : List X) (ms : List Module) : Type 0 where
  pub modules : map (λ x. module_of (spec x)) xs ≡ ms
  pub fresh : All (λ x. IsFresh (spec x)) xs

none_yet : {X : Type 0} (spec : X → Spec) (xs : List X) → xs ≡ [] → AreFirst spec xs []
none_yet spec xs is = record {
  modules = ap (map (λ x. module_of (spec x))) is;
  fresh = subst (All (λ x. IsFresh (spec x))) (sym is) (All-nil (λ x. IsFresh (spec x)));
}

is_fresh : (s : Spec) (m : Module) → s ≡ fresh_of m → IsFresh s
is_fresh s m is = is ∙ ap fresh_of (sym (ap module_of is ∙ own_module m))

one_more : {X : Type 0} (spec : X → Spec) (m : Module) (x : X) (xs ys : List X) (ms : List Module) → ys ≡ xs ++ x ∷ [] → spec x ≡ fresh_of m → AreFirst spec xs ms
    → AreFirst spec ys (ms ++ m ∷ [])
one_more {X} spec m x xs ys ms is fresh before =
    let f : X → Module = λ x. module_of (spec x) in
    let last : f x ∷ [] ≡ m ∷ [] = ap (λ (n : Module). n ∷ []) (ap module_of fresh ∙ own_module m) in
    record {
      modules = ap (map f) is ∙ map-append f xs (x ∷ []) ∙ ap (λ (ns : List Module). ns ++ f x ∷ []) before.modules ∙ ap (λ (ns : List Module). ms ++ ns) last;
      fresh = subst (All (λ x. IsFresh (spec x))) (sym is) (All-push (λ x. IsFresh (spec x)) xs x before.fresh (is_fresh (spec x) m fresh));
    }

-- onto a list policies of these modules are put, one after another, each in its initial state
abbrev pub IsFilled : {X : Type 0} → (X → Spec) → List Module → List X → List X → Type 0
IsFilled spec [] before after = before ≡ after
IsFilled {X} spec (m ∷ ms) before after = (x : X) × (more : List X) × (more ≡ before ++ x ∷ []) × (spec x ≡ fresh_of m) × IsFilled spec ms more after

filled : {X : Type 0} (spec : X → Spec) (ms there : List Module) (before after : List X) → AreFirst spec before there → IsFilled spec ms before after
    → AreFirst spec after (there ++ ms)
filled spec [] there before after first is = subst (AreFirst spec after) (sym (append-nil there)) (subst (λ xs. AreFirst spec xs there) is first)
filled spec (m ∷ ms) there before after first put =
    let next = one_more spec m put.0 before put.1 there put.2 put.3 first in
    subst (AreFirst spec after) (append_assoc there (m ∷ []) ms) (filled spec ms (there ++ m ∷ []) put.1 after next put.4)

-- a policy of each module
pub one_of_each : {X : Type 0} (spec : X → Spec) (none all : List X) → none ≡ [] → IsFilled spec all_modules none all → AreFirst spec all all_modules
one_of_each spec none all is_none put = filled spec all_modules [] none all (none_yet spec none is_none) put

pub are_all : {X : Type 0} (spec : X → Spec) (xs : List X) → AreFirst spec xs all_modules → AreAllModules (map (λ x. module_of (spec x)) xs)
are_all spec xs first = subst AreAllModules (sym first.modules) all_there

-- what a value behind a vtable means is what each value behind that vtable means
pub behind : {V : Type 0} (Held : V → Type 0) (spec : (v : V) → Held v → Spec) (v w : V) (x : Held v) (m : Spec) → v ≡ w → ((y : Held w) → spec w y ≡ m) → spec v x ≡ m
behind Held spec v w x m is each = subst (λ v. (x : Held v) → spec v x ≡ m) (sym is) each x
