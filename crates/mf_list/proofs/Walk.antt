-- The walk over the static and then the dynamic list: what stands in which, and what becomes of the walk where one of the two changes.
use Rattle.std.proofs.Common.{◌≡◌, ◌+◌, ◌≤◌, Bool, true, false, cond, not, ◌&&◌, ◌||◌, List, [], ◌∷◌, ◌++◌, Option, Some, None, All, find, refl, ap, sym, ◌∙◌, arith}
use Rattle.std.specs.Option.{option_or}
use Rattle.std.proofs.lemmas.List.Elements.{All-head, All-tail}
use Rattle.std.proofs.lemmas.List.Folds.{find-append, list_any-append}
use Rattle.mf_errno.specs.declared.module.Module.{Module}
use Rattle.mf_errno.specs.declared.module.Module.TheVariants.{Biba, Mls, Lomac}
use Rattle.mf_errno.proofs.Modules.{same_module-is}
use Rattle.mf_policy.specs.Modules.{facts_of}
use Rattle.mf_policy.specs.Registration.{Entry, entries_without, is_listed, is_of, with_newest}
use Rattle.mf_policy.specs.declared.settings.Change.{Change}
use Rattle.mf_policy.specs.declared.spec.Spec.{Spec}
use Rattle.mf_policy.specs.Settings.{change_in, change_of, with_spec}
use Rattle.mf_policy.proofs.ByEntry.{change_at}
use Rattle.mf_list.specs.Held.{how_many}
use Rattle.mf_list.specs.Lists.{IsPinned, MayLeave}
use Rattle.mf_list.specs.Once.{IsListedOnce}
use Rattle.mf_list.proofs.Counts.{how_many-none}

-- what can be loaded after boot may be unloaded
pub late_may_leave : (m : Module) → (facts_of m).not_late ≡ false → (facts_of m).unload_ok ≡ true
late_may_leave Biba late = cc
late_may_leave Mls late = cc
late_may_leave Lomac late = cc
late_may_leave other late = refl

-- Which list has the module

-- a module that may be unloaded isn't in the static list
pub not_pinned : (m : Module) (fixed : List Entry) → All IsPinned fixed → (facts_of m).unload_ok ≡ true → is_listed m fixed ≡ false
not_pinned m [] pinned leaves = refl
not_pinned m (x ∷ xs) pinned leaves =
    let rest = not_pinned m xs (All-tail IsPinned x xs pinned) leaves in
    elim (is_of m x) as (λ b. is_of m x ≡ b → (b || is_listed m xs) ≡ false) [
      | true ↦ λ same.
          let stays = (All-head IsPinned x xs pinned).1 in
          let is = same_module-is m x.0.module same in
          cc
      | false ↦ λ _. rest
    ] refl

-- a module that can't be unloaded isn't in the dynamic list
pub not_leaving : (m : Module) (list : List Entry) → All MayLeave list → (facts_of m).unload_ok ≡ false → is_listed m list ≡ false
not_leaving m [] leaving stays = refl
not_leaving m (x ∷ xs) leaving stays =
    let rest = not_leaving m xs (All-tail MayLeave x xs leaving) stays in
    elim (is_of m x) as (λ b. is_of m x ≡ b → (b || is_listed m xs) ≡ false) [
      | true ↦ λ same.
          let leaves = (All-head MayLeave x xs leaving).1 in
          let is = same_module-is m x.0.module same in
          cc
      | false ↦ λ _. rest
    ] refl

pub how_many-append : {X : Type 0} (p : X → Bool) (xs ys : List X) → how_many p (xs ++ ys) ≡ how_many p xs + how_many p ys
how_many-append p [] ys = omega arith
how_many-append p (x ∷ xs) ys = omega (arith, how_many-append p xs ys)

-- no module stands in both
pub walked_once : (fixed list : List Entry) → All IsPinned fixed → All MayLeave list → IsListedOnce fixed → IsListedOnce list → IsListedOnce (fixed ++ list)
walked_once fixed list pinned leaving fixed_once list_once = λ m.
    let both = how_many-append (is_of m) fixed list in
    elim ((facts_of m).unload_ok) as (λ b. (facts_of m).unload_ok ≡ b → how_many (is_of m) (fixed ++ list) ≤ 1) [
      | true ↦ λ leaves. omega (arith, both, list_once m, how_many-none (is_of m) fixed (not_pinned m fixed pinned leaves))
      | false ↦ λ stays. omega (arith, both, fixed_once m, how_many-none (is_of m) list (not_leaving m list leaving stays))
    ] refl

pub listed-walked : (m : Module) (fixed list : List Entry) → is_listed m (fixed ++ list) ≡ (is_listed m fixed || is_listed m list)
listed-walked m fixed list = list_any-append (is_of m) fixed list

-- a module that is in the walk and may be unloaded is in the dynamic list
pub listed_where_it_leaves : (m : Module) (fixed list : List Entry) → All IsPinned fixed → (facts_of m).unload_ok ≡ true → is_listed m (fixed ++ list) ≡ true
    → is_listed m list ≡ true
listed_where_it_leaves m fixed list pinned leaves listed =
    ap (λ (b : Bool). b || is_listed m list) (sym (not_pinned m fixed pinned leaves)) ∙ sym (listed-walked m fixed list) ∙ listed

pub listed_in_walk : (m : Module) (fixed list : List Entry) → is_listed m list ≡ true → is_listed m (fixed ++ list) ≡ true
listed_in_walk m fixed list is_there =
    listed-walked m fixed list ∙ ap (λ (b : Bool). is_listed m fixed || b) is_there ∙ either (is_listed m fixed)
  where
    either : (b : Bool) → (b || true) ≡ true
    either true = refl
    either false = refl

-- a module of the dynamic list isn't in the static one
pub not_in_both : (m : Module) (fixed list : List Entry) → All IsPinned fixed → All MayLeave list → is_listed m list ≡ true → is_listed m fixed ≡ false
not_in_both m fixed list pinned leaving is_there =
    elim ((facts_of m).unload_ok) as (λ b. (facts_of m).unload_ok ≡ b → is_listed m fixed ≡ false) [
      | true ↦ λ leaves. not_pinned m fixed pinned leaves
      | false ↦ λ stays. let none = not_leaving m list leaving stays in cc
    ] refl

-- What becomes of the walk

-- a new policy of the static list comes first
pub newest_fixed : (e : Entry) (walked : List Entry) → e.0.fixed ≡ true → with_newest e walked ≡ e ∷ walked
newest_fixed e [] is_fixed = refl
newest_fixed e (x ∷ xs) is_fixed = ap (λ (b : Bool). cond (not b && x.0.fixed) (x ∷ with_newest e xs) (e ∷ x ∷ xs)) is_fixed

-- a new policy of the dynamic list comes behind the static one
newest_leaving : (e : Entry) (list : List Entry) → All MayLeave list → with_newest e list ≡ e ∷ list
newest_leaving e [] leaving = refl
newest_leaving e (x ∷ xs) leaving =
    let moves = (All-head MayLeave x xs leaving).0 in
    elim (e.0.fixed) as (λ b. cond (not b && x.0.fixed) (x ∷ with_newest e xs) (e ∷ x ∷ xs) ≡ e ∷ x ∷ xs) [
      | true ↦ refl
      | false ↦ ap (λ (b : Bool). cond b (x ∷ with_newest e xs) (e ∷ x ∷ xs)) moves
    ]

pub newest_dynamic : (e : Entry) (fixed list : List Entry) → All IsPinned fixed → All MayLeave list → e.0.fixed ≡ false → with_newest e (fixed ++ list) ≡ fixed ++ e ∷ list
newest_dynamic e [] list pinned leaving moves = newest_leaving e list leaving
newest_dynamic e (x ∷ xs) list pinned leaving moves =
    let stays = (All-head IsPinned x xs pinned).0 in
    ap (λ (b : Bool). cond (not b && x.0.fixed) (x ∷ with_newest e (xs ++ list)) (e ∷ x ∷ (xs ++ list))) moves
    ∙ ap (λ (b : Bool). cond b (x ∷ with_newest e (xs ++ list)) (e ∷ x ∷ (xs ++ list))) stays
    ∙ ap (λ (es : List Entry). x ∷ es) (newest_dynamic e xs list (All-tail IsPinned x xs pinned) leaving moves)

-- a policy that leaves the dynamic list leaves the walk
pub without_walked : (m : Module) (fixed list : List Entry) → is_listed m fixed ≡ false → entries_without m (fixed ++ list) ≡ fixed ++ entries_without m list
without_walked m [] list absent = refl
without_walked m (x ∷ xs) list absent =
    elim (is_of m x) as (λ b. (b || is_listed m xs) ≡ false → cond b (xs ++ list) (x ∷ entries_without m (xs ++ list)) ≡ x ∷ (xs ++ entries_without m list)) [
      | true ↦ λ l. cc
      | false ↦ λ l. ap (λ (es : List Entry). x ∷ es) (without_walked m xs list l)
    ] absent

find_none : (m : Module) (entries : List Entry) → is_listed m entries ≡ false → find (is_of m) entries ≡ None
find_none m [] absent = refl
find_none m (x ∷ xs) absent =
    elim (is_of m x) as (λ b. (b || is_listed m xs) ≡ false → cond b (Some x) (find (is_of m) xs) ≡ None) [
      | true ↦ λ l. cc
      | false ↦ λ l. find_none m xs l
    ] absent

with_spec-walked : (m : Module) (spec : Spec) (fixed list : List Entry) → is_listed m fixed ≡ false → with_spec m spec (fixed ++ list) ≡ fixed ++ with_spec m spec list
with_spec-walked m spec [] list absent = refl
with_spec-walked m spec (x ∷ xs) list absent =
    elim (is_of m x) as (λ b. (b || is_listed m xs) ≡ false → cond b ((x.0, spec) ∷ (xs ++ list)) (x ∷ with_spec m spec (xs ++ list)) ≡ x ∷ (xs ++ with_spec m spec list)) [
      | true ↦ λ l. cc
      | false ↦ λ l. ap (λ (es : List Entry). x ∷ es) (with_spec-walked m spec xs list l)
    ] absent

-- a change of a policy of the dynamic list is one of the walk
pub changed_walked : (m : Module) (change : Change) (fixed list : List Entry) → is_listed m fixed ≡ false
    → change_in m change (fixed ++ list) ≡ ((change_in m change list).0, fixed ++ (change_in m change list).1)
changed_walked m change fixed list absent =
    ap (change_at m change (fixed ++ list)) (find-append (is_of m) fixed list ∙ ap (λ (o : Option Entry). option_or o (find (is_of m) list)) (find_none m fixed absent))
    ∙ one (find (is_of m) list)
  where
    one : (found : Option Entry) → change_at m change (fixed ++ list) found ≡ ((change_at m change list found).0, fixed ++ (change_at m change list found).1)
    one None = refl
    one (Some entry) =
        ap (λ (es : List Entry). ((change_of entry.1 change).0, es)) (with_spec-walked m (change_of entry.1 change).1 fixed list absent)

with_spec-absent : (m : Module) (spec : Spec) (list : List Entry) → is_listed m list ≡ false → with_spec m spec list ≡ list
with_spec-absent m spec [] absent = refl
with_spec-absent m spec (x ∷ xs) absent =
    elim (is_of m x) as (λ b. (b || is_listed m xs) ≡ false → cond b ((x.0, spec) ∷ xs) (x ∷ with_spec m spec xs) ≡ x ∷ xs) [
      | true ↦ λ l. cc
      | false ↦ λ l. ap (λ (es : List Entry). x ∷ es) (with_spec-absent m spec xs l)
    ] absent

with_spec-static : (m : Module) (spec : Spec) (fixed list : List Entry) → is_listed m list ≡ false → with_spec m spec (fixed ++ list) ≡ with_spec m spec fixed ++ list
with_spec-static m spec [] list absent = with_spec-absent m spec list absent
with_spec-static m spec (x ∷ xs) list absent =
    elim (is_of m x) as (λ b. cond b ((x.0, spec) ∷ (xs ++ list)) (x ∷ with_spec m spec (xs ++ list)) ≡ cond b ((x.0, spec) ∷ xs) (x ∷ with_spec m spec xs) ++ list) [
      | true ↦ refl
      | false ↦ ap (λ (es : List Entry). x ∷ es) (with_spec-static m spec xs list absent)
    ]

-- and so is a change of a policy of the static list
pub changed_static : (m : Module) (change : Change) (fixed list : List Entry) → is_listed m list ≡ false
    → change_in m change (fixed ++ list) ≡ ((change_in m change fixed).0, (change_in m change fixed).1 ++ list)
changed_static m change fixed list absent =
    ap (change_at m change (fixed ++ list)) (find-append (is_of m) fixed list ∙ ap (option_or (find (is_of m) fixed)) (find_none m list absent) ∙ or_none (find (is_of m) fixed))
    ∙ one (find (is_of m) fixed)
  where
    or_none : (found : Option Entry) → option_or found None ≡ found
    or_none None = refl
    or_none (Some entry) = refl

    one : (found : Option Entry) → change_at m change (fixed ++ list) found ≡ ((change_at m change fixed found).0, (change_at m change fixed found).1 ++ list)
    one None = refl
    one (Some entry) =
        ap (λ (es : List Entry). ((change_of entry.1 change).0, es)) (with_spec-static m (change_of entry.1 change).1 fixed list absent)
