-- The entry of a module, in a list and in the walk.
use Rattle.std.proofs.Common.{◌≡◌, Bool, true, false, cond, ◌||◌, List, [], ◌∷◌, ◌++◌, Option, Some, None, IfSome, find, is_some, refl, ap, sym, ◌∙◌}
use Rattle.std.specs.List.{list_any}
use Rattle.std.specs.Borrow.{Bor}
use Rattle.std.specs.Option.{option_copied, option_or}
use Rattle.std.proofs.lemmas.List.Folds.{find-append}
use Rattle.mf_errno.specs.declared.module.Module.{Module}
use Rattle.mf_errno.proofs.Modules.{same_module-is}
use Rattle.mf_policy.specs.Registration.{Entry, is_of}

-- whether one passes
pub is_some-find : {X : Type 0} (p : X → Bool) (xs : List X) → is_some (find p xs) ≡ list_any p xs
is_some-find p [] = refl
is_some-find p (x ∷ xs) =
    elim (p x) as (λ b. is_some (cond b (Some x) (find p xs)) ≡ (b || list_any p xs)) [ true ↦ refl | false ↦ is_some-find p xs ]

-- what is found is the module's
pub found_is : (m : Module) (entries : List Entry) → IfSome (find (is_of m) entries) (λ entry. entry.0.module ≡ m)
found_is m [] = tt
found_is m (x ∷ xs) =
    elim (is_of m x) as (λ b. is_of m x ≡ b → IfSome (cond b (Some x) (find (is_of m) xs)) (λ entry. entry.0.module ≡ m)) [
      | true ↦ λ same. sym (same_module-is m x.0.module same)
      | false ↦ λ _. found_is m xs
    ] refl

pub found_first : (m : Module) (fixed list : List Entry) (e : Entry) → Some e ≡ find (is_of m) fixed → Some e ≡ find (is_of m) (fixed ++ list)
found_first m fixed list e is =
    sym (find-append (is_of m) fixed list ∙ ap (λ (o : Option Entry). option_or o (find (is_of m) list)) (sym is))

pub found_second : (m : Module) (fixed list : List Entry) (o : Option Entry) → None ≡ find (is_of m) fixed → o ≡ find (is_of m) list → o ≡ find (is_of m) (fixed ++ list)
found_second m fixed list o none is =
    is ∙ sym (find-append (is_of m) fixed list ∙ ap (λ (o : Option Entry). option_or o (find (is_of m) list)) (sym none))

-- behind a reference

pub is_some-copied : {X : Type 0} (o : Option (Bor X)) → is_some (option_copied o) ≡ is_some o
is_some-copied None = refl
is_some-copied (Some x) = refl

pub if_some-copied : {X : Type 0} (P : X → Type 0) (o : Option (Bor X)) → IfSome (option_copied o) P → IfSome o (λ x. P x.now)
if_some-copied P None holds = tt
if_some-copied P (Some x) holds = holds
