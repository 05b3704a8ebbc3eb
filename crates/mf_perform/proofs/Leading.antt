-- Where paths and names lead, in a population: to what lives.
use Rattle.std.proofs.Common.{◌≡◌, ◌≢◌, ℕ, Bool, true, false, List, [], ◌∷◌, Option, Some, None, IsSome, Ok, refl, ap, sym, ◌∙◌, subst, eq-eqb, if◌then◌else◌}
use Rattle.std.specs.Prelude.{find, IfSome, IsTrue}
use Rattle.std.proofs.lemmas.Bool.{false≢true}
use Rattle.mf_errno.specs.declared.errno.Errno.TheVariants.{Enotdir}
use Rattle.mf_objects.specs.declared.id.Id.{Id}
use Rattle.mf_objects.specs.declared.entity.EntityData.{EntityData}
use Rattle.mf_objects.specs.Live.{LiveEntity, Entities, has_id, is_one_named, is_entry, is_process, live_at}
use Rattle.mf_objects.specs.Lives.{IsLive, is_directory, is_vnode, passes}
use Rattle.mf_objects.specs.Population.{HasRoot, IsPopulation}
use Rattle.mf_objects.proofs.Found.{child_kind, child_not_root, kind_found}
use Rattle.mf_objects.proofs.Laws.{directory_vnode, live_directory}
use Rattle.mf_plan.specs.declared.target.Target.{Target}
use Rattle.mf_plan.specs.declared.target.Target.TheVariants.{Root, Name, Nowhere}
use Rattle.mf_plan.specs.Path.{entry_at, entry_of, found_at, free_at, going_on, last_name, nowhere, root, lookup_along, lookup_from}
use Rattle.mf_plan.specs.Places.{IsTarget}
use Rattle.mf_plan.specs.Views.{is_dir, process_named}
use Rattle.mf_plan.proofs.LookingUp.{free_name}
use Rattle.mf_perform.proofs.Rooted.{is_found, named_lives}

-- Where a path leads

root_lives : (es : List LiveEntity) → HasRoot es → IsTrue (passes is_directory (find (has_id root) es))
root_lives [] rooted = absurd rooted
root_lives (e ∷ es) rooted = let hit : has_id root e ≡ true = eq-eqb e.id.0 0 rooted.0 in rw hit rooted.1

module _ (o : Entities) (population : IsPopulation o) where
  entry_lives : (dir : Id) (name : List ℕ) → IfSome (entry_of o dir name) (λ id. IsLive is_vnode o id × (id.0 ≢ 0))
  entry_lives dir name =
      let found = is_found (is_one_named (is_entry dir) name) o population.rising in
      both (entry_of o dir name) (kind_found (is_one_named (is_entry dir) name) is_vnode (child_kind dir name) o (entry_of o dir name) found)
      (child_not_root dir name o (entry_of o dir name) population found)
    where
      both : (entry : Option Id) → IfSome entry (λ id. IsLive is_vnode o id) → IfSome entry (λ id. id.0 ≢ 0) → IfSome entry (λ id. IsLive is_vnode o id × (id.0 ≢ 0))
      both None vnode other = tt
      both (Some id) vnode other = (vnode, other)

  walk_lives : (path : List (List ℕ)) (from : Id) → IsLive is_directory o from → IsTarget o (lookup_from o path from).target
  unfolding lookup_from
  walk_lives [] from live = root_lives o.live population.rooted
  walk_lives (name ∷ []) from live = (live, entry_lives from name)
  walk_lives (name ∷ below ∷ rest) from live = by_entry (λ (id : Id). walk_lives (below ∷ rest) id) (entry_of o from name)
    where
      by_test : (b : Bool) (id : Id) → is_dir o id ≡ b → (IsLive is_directory o id → IsTarget o (lookup_from o (below ∷ rest) id).target)
          → IsTarget o (if b then lookup_from o (below ∷ rest) id else nowhere Enotdir).target
      by_test true id is onwards = onwards (live_directory o id is)
      by_test false id is onwards = tt

      by_entry : ((id : Id) → IsLive is_directory o id → IsTarget o (lookup_from o (below ∷ rest) id).target) → (entry : Option Id)
          → IsTarget o (going_on o (lookup_from o (below ∷ rest)) entry).target
      by_entry onwards None = tt
      by_entry onwards (Some id) = by_test (is_dir o id) id refl (onwards id)

  path_lives : (path : List (List ℕ)) → IsTarget o (lookup_along o path).target
  path_lives path = walk_lives path root (root_lives o.live population.rooted)

  -- a file or directory
  pub file_lives : (path : List (List ℕ)) (id : Id) → found_at (lookup_along o path).target ≡ Ok id → IsLive is_vnode o id
  file_lives path id is = one (lookup_along o path).target (path_lives path) is
    where
      one : (target : Target) → IsTarget o target → found_at target ≡ Ok id → IsLive is_vnode o id
      one Root live is = let same : root ≡ id = cc in subst (IsLive is_vnode o) same (directory_vnode o root live)
      one (Name dir None) live is = cc
      one (Name dir (Some at)) live is = let same : at ≡ id = cc in subst (IsLive is_vnode o) same live.1.0
      one (Nowhere errno) live is = cc

  -- a directory in which a name is free
  pub dir_lives : (path : List (List ℕ)) (dir : Id) → free_at (lookup_along o path).target ≡ Ok dir
      → IsLive is_directory o dir × (find (is_one_named (is_entry dir) (last_name path)) o.live ≡ None)
  dir_lives path dir is = one (lookup_along o path).target refl (path_lives path) is
    where
      one : (target : Target) → (lookup_along o path).target ≡ target → IsTarget o target → free_at target ≡ Ok dir
          → IsLive is_directory o dir × (find (is_one_named (is_entry dir) (last_name path)) o.live ≡ None)
      one Root at live is = cc
      one (Name d None) at live is =
          let same : d ≡ dir = cc in
          (subst (IsLive is_directory o) same live.0, free_name o path dir (at ∙ ap (λ (x : Id). Name x None) same))
      one (Name d (Some id)) at live is = cc
      one (Nowhere errno) at live is = cc

  -- an entry of a directory
  pub removable_lives : (path : List (List ℕ)) (entry : Id × Id) → entry_at (lookup_along o path).target ≡ Ok entry → IsLive is_vnode o entry.1 × (entry.1.0 ≢ 0)
  removable_lives path entry is = one (lookup_along o path).target (path_lives path) is
    where
      one : (target : Target) → IsTarget o target → entry_at target ≡ Ok entry → IsLive is_vnode o entry.1 × (entry.1.0 ≢ 0)
      one Root live is = cc
      one (Name dir None) live is = cc
      one (Name dir (Some at)) live is =
          let same : at ≡ entry.1 = cc in
          subst (λ (id : Id). IsLive is_vnode o id × (id.0 ≢ 0)) same live.1
      one (Nowhere errno) live is = cc

pub some_live : (kind : EntityData → Bool) (o : Entities) (id : Id) → IsLive kind o id → IsSome (live_at o id)
some_live kind o id live = one (live_at o id) live
  where
    one : (found : Option LiveEntity) → IsTrue (passes kind found) → IsSome found
    one None live = absurd (false≢true live)
    one (Some e) live = refl

pub caller_lives : (o : Entities) (caller : Id) (name : List ℕ) → IsPopulation o → Some caller ≡ process_named o name → IsLive is_process o caller
caller_lives o caller name population is =
    subst (λ (found : Option Id). IfSome found (λ id. IsLive is_process o id)) (sym is) (named_lives is_process o name population.rising)
