-- What a call finds is live, and where it has no kind of the root it isn't the root.
use Rattle.std.proofs.Common.{◌≡◌, ℕ, ◌+◌, ◌<◌, ◌≤◌, Bool, true, false, cond, List, [], ◌∷◌, Option, Some, None, eq-eqb, refl, ap, sym, ◌∙◌, subst, arith}
use Rattle.std.specs.Prelude.{find}
use Rattle.std.specs.Result.{result_ok}
use Rattle.std.specs.List.{AllByRecursion}
use Rattle.std.proofs.lemmas.Bool.Decides.{nat_tests}
use Rattle.mf_item.specs.declared.view.Kind.TheVariants as kinds
use Rattle.mf_objects.specs.declared.id.Id.{Id}
use Rattle.mf_objects.specs.Live.{LiveEntity, Entities, has_id, id_of, is_one_named, is_entry, kind_of, live_at}
use Rattle.mf_objects.specs.Population.{IsRising}
use Rattle.mf_objects.proofs.Belonging.{find_own}
use Rattle.mf_objects.proofs.Finding.{found_live}
use Rattle.mf_objects.proofs.Rising.{below_next}
use Rattle.mf_plan.specs.declared.target.Target.{Target}
use Rattle.mf_plan.specs.declared.target.Target.TheVariants.{Root, Name, Nowhere}
use Rattle.mf_plan.specs.Path.{file_at_path, found_at, last_name, lookup_along, root}
use Rattle.mf_plan.proofs.LookingUp.{last_entry}
use Rattle.mf_perform.proofs.Rooted.{IsRooted}
use Rattle.mf_reading.proofs.Bounded.{RootIsFirst}
use Rattle.mf_reading.proofs.Lists.{by_place}

-- what is found has the id that is told
pub record HasFound (found : Option LiveEntity) (id : Id) : Type 0 where
  pub e : LiveEntity
  pub is : found ≡ Some e
  pub own : e.id ≡ id

pub found_with : (found : Option LiveEntity) (id : Id) → id_of found ≡ Some id → HasFound found id
found_with None id is = cc
found_with (Some e) id is = record { e = e; is = refl; own = cc }

-- each entity is the one of its id
pub all_own : (next : ℕ) (live : List LiveEntity) → IsRising 0 next live → AllByRecursion (λ e. find (has_id e.id) live ≡ Some e) live
all_own next live rising = by_place (λ e. find (has_id e.id) live ≡ Some e) live (λ k d within. find_own 0 next live k d within rising)

-- an entity that is found is no older than the first
pub no_older : (test : LiveEntity → Bool) (least next : ℕ) (live : List LiveEntity) (e : LiveEntity) → IsRising least next live → find test live ≡ Some e → least ≤ e.id.0
no_older test least next [] e rising found = cc
no_older test least next (x ∷ live) e rising found = one (test x) (no_older test (x.id.0 + 1) next live e rising.1) found
  where
    one : (b : Bool) → (find test live ≡ Some e → x.id.0 + 1 ≤ e.id.0) → cond b (Some x) (find test live) ≡ Some e → least ≤ e.id.0
    one true rest found = let is : x ≡ e = cc in omega (arith, rising.0, ap (λ (y : LiveEntity). y.id.0) is)
    one false rest found = omega (arith, rising.0, rest found)

-- what is found by a test that the first entity fails is another
pub later : (test : LiveEntity → Bool) (next : ℕ) (x : LiveEntity) (live : List LiveEntity) (e : LiveEntity) → IsRising 0 next (x ∷ live) → test x ≡ false
    → find test (x ∷ live) ≡ Some e → x.id.0 < e.id.0
later test next x live e rising fails found =
    let further : find test live ≡ Some e = sym (ap (λ (b : Bool). cond b (Some x) (find test live)) fails) ∙ found in
    omega (arith, no_older test (x.id.0 + 1) next live e rising.1 further)

pub other_id : (x : LiveEntity) (id : Id) → x.id.0 < id.0 → has_id id x ≡ false
other_id x id less = grind (arith, nat_tests)

-- The root, and what a path leads to

-- the root, where it lives
pub record HasRoot (live : List LiveEntity) : Type 0 where
  pub e : LiveEntity
  pub is : find (has_id root) live ≡ Some e
  pub kind : kind_of e.what ≡ kinds.Vnode

pub root_in : (live : List LiveEntity) → RootIsFirst live → HasRoot live
root_in [] rooted = absurd rooted
root_in (e ∷ live) rooted = let hit : has_id root e ≡ true = eq-eqb e.id.0 0 rooted.0 in record { e = e; is = rw hit refl; kind = rooted.1.kind }

-- an id was given
pub some_given : (next : ℕ) (live : List LiveEntity) → IsRising 0 next live → RootIsFirst live → 0 < next
some_given next [] rising rooted = absurd rooted
some_given next (e ∷ live) rising rooted = omega (arith, below_next (e.id.0 + 1) next live rising.1)

-- as the steps need it
pub objects_rooted : (o : Entities) → IsRising 0 o.next o.live → RootIsFirst o.live → IsRooted o
objects_rooted o rising first =
    let here = root_in o.live first in
    record {
      rising = rising;
      given = some_given o.next o.live rising first;
      vnode = rw here.is here.kind;
    }

module _ (o : Entities) (path : List (List ℕ)) (id : Id) (rooted : RootIsFirst o.live) where
  target_lives : (target : Target) → (lookup_along o path).target ≡ target → result_ok (found_at target) ≡ Some id → (e : LiveEntity) × (live_at o id ≡ Some e)
  target_lives Root is found =
      let same : root ≡ id = cc in
      let here = root_in o.live rooted in
      (here.e, subst (λ (i : Id). find (has_id i) o.live ≡ Some here.e) same here.is)
  target_lives (Name dir None) is found = cc
  target_lives (Name dir (Some entry)) is found =
      let same : Some entry ≡ Some id = cc in
      found_live (is_one_named (is_entry dir) (last_name path)) id o.live (last_entry o path root dir (Some entry) is ∙ same)
  target_lives (Nowhere errno) is found = cc

  -- the file or directory at a path is live
  pub file_lives : file_at_path o path ≡ Some id → (e : LiveEntity) × (live_at o id ≡ Some e)
  file_lives found = target_lives (lookup_along o path).target refl found
