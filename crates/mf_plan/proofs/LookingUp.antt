-- The look-up of a path, from the front: the directories so far, where they lead, and what is left.
use Rattle.std.proofs.Common.{◌≡◌, ◌≢◌, ℕ, ◌+◌, Bool, true, false, List, [], ◌∷◌, ◌++◌, Option, Some, None, Result, Ok, Err, length, All, refl, ap, sym, ◌∙◌, subst, append_assoc, length-append, arith, if◌then◌else◌}
use Rattle.std.specs.Prelude.{find, IfSome}
use Rattle.std.proofs.lemmas.List.Elements.{All-push}
use Rattle.mf_errno.specs.declared.errno.Errno.{Errno}
use Rattle.mf_errno.specs.declared.errno.Errno.TheVariants.{Enotdir}
use Rattle.mf_objects.specs.declared.id.Id.{Id}
use Rattle.mf_objects.specs.Live.{LiveEntity, Entities, id_of, is_one_named, is_entry}
use Rattle.mf_objects.specs.Lives.{IsLive, is_directory, is_vnode}
use Rattle.mf_plan.specs.declared.target.Target.{Target}
use Rattle.mf_plan.specs.declared.target.Target.TheVariants.{Root, Name}
use Rattle.mf_plan.specs.declared.lookup.Lookup.{Lookup}
use Rattle.mf_plan.specs.Path.{root, entry_of, nowhere, looking_into, going_on, lookup_from, lookup_along, last_name}
use Rattle.mf_plan.specs.Places.{next_dir, IsTarget}
use Rattle.mf_plan.specs.Views.{is_dir}

-- these directories are looked into first
abbrev pub past : List Id → Lookup → Lookup
past dirs rest = record rest { lookups = dirs ++ rest.lookups }

abbrev pub going_from : Entities → List (List ℕ) → Result Id Errno → Lookup
going_from objects names (Ok dir) = lookup_from objects names dir
going_from objects names (Err errno) = nowhere errno

-- the look-up that is left from where the components before lead
abbrev pub onward : Entities → Target → List (List ℕ) → Lookup
onward objects target [] = record { lookups = []; target = target }
onward objects target (name ∷ rest) = going_from objects (name ∷ rest) (next_dir objects target)

-- these components of a path are left
pub record IsLookingUp (objects : Entities) (path left : List (List ℕ)) (lookups : List Id) (target : Target) : Type 0 where
  pub whole : lookup_along objects path ≡ past lookups (onward objects target left)
  pub dirs : All (λ dir. IsLive is_directory objects dir) lookups
  pub live : IsTarget objects target
  pub few : length lookups + length left ≡ length path

from_root : (objects : Entities) (path : List (List ℕ)) → lookup_along objects path ≡ past [] (onward objects Root path)
unfolding lookup_from
from_root objects [] = refl
from_root objects (name ∷ rest) = refl

pub begin : (objects : Entities) (path : List (List ℕ)) → IsLive is_directory objects root → IsLookingUp objects path path [] Root
begin objects path live = record { whole = from_root objects path; dirs = λ k d below. absurd (omega arith); live = live; few = omega arith }

one_more : (objects : Entities) (name : List ℕ) (rest : List (List ℕ)) (dir : Id)
    → lookup_from objects (name ∷ rest) dir ≡ looking_into dir (onward objects (Name dir (entry_of objects dir name)) rest)
unfolding lookup_from
one_more objects name [] dir = refl
one_more objects name (below ∷ rest) dir = ap (looking_into dir) (by_entry (entry_of objects dir name))
  where
    by_test : (b : Bool) (id : Id)
        → (if b then lookup_from objects (below ∷ rest) id else nowhere Enotdir) ≡ going_from objects (below ∷ rest) (if b then Ok id else Err Enotdir)
    by_test true id = refl
    by_test false id = refl

    by_entry : (entry : Option Id)
        → going_on objects (lookup_from objects (below ∷ rest)) entry ≡ going_from objects (below ∷ rest) (next_dir objects (Name dir entry))
    by_entry None = refl
    by_entry (Some id) = by_test (is_dir objects id) id

past_more : (lookups : List Id) (dir : Id) (rest : Lookup) → past lookups (looking_into dir rest) ≡ past (lookups ++ dir ∷ []) rest
past_more lookups dir rest = ap (λ (dirs : List Id). let w : Lookup = record rest { lookups = dirs } in w) (sym (append_assoc lookups (dir ∷ []) rest.lookups))

pub step : (objects : Entities) (path left more : List (List ℕ)) (lookups : List Id) (target : Target) (dir : Id) (entry : Option Id) (name : List ℕ)
    → left ≡ name ∷ more → next_dir objects target ≡ Ok dir → entry ≡ entry_of objects dir name → IsTarget objects (Name dir entry)
    → IsLookingUp objects path left lookups target → IsLookingUp objects path more (lookups ++ dir ∷ []) (Name dir entry)
step objects path left more lookups target dir entry name is next found live walking =
    record {
      whole = walking.whole ∙ ap (λ (w : Lookup). past lookups w) further ∙ past_more lookups dir (onward objects (Name dir entry) more);
      dirs = All-push (λ (d : Id). IsLive is_directory objects d) lookups dir walking.dirs live.0;
      live = live;
      few = omega (arith, length-append lookups (dir ∷ []), ap length is, walking.few);
    }
  where
    further : onward objects target left ≡ looking_into dir (onward objects (Name dir entry) more)
    further =
        ap (onward objects target) is
        ∙ ap (going_from objects (name ∷ more)) next
        ∙ one_more objects name more dir
        ∙ ap (λ (e : Option Id). looking_into dir (onward objects (Name dir e) more)) (sym found)

-- an entry that is found is a live vnode, and not the root
pub live_entry : (objects : Entities) (entry : Option Id) → IfSome entry (λ id. IsLive is_vnode objects id) → IfSome entry (λ id. id.0 ≢ 0)
    → IfSome entry (λ id. IsLive is_vnode objects id × (id.0 ≢ 0))
live_entry objects None vnode other = tt
live_entry objects (Some id) vnode other = (vnode, other)

-- a look-up from this directory that ends at a name ends at the entry that the last component names
abbrev EndsAt : Entities → List (List ℕ) → Id → Option Id → Id → Type 0
EndsAt objects path dir entry from = (lookup_from objects path from).target ≡ Name dir entry → entry_of objects dir (last_name path) ≡ entry

pub last_entry : (objects : Entities) (path : List (List ℕ)) (from dir : Id) (entry : Option Id) → EndsAt objects path dir entry from
unfolding lookup_from
last_entry objects [] from dir entry is = cc
last_entry objects (name ∷ []) from dir entry is = let same : from ≡ dir = cc in subst (λ (d : Id). entry_of objects d name ≡ entry) same cc
last_entry objects (name ∷ below ∷ rest) from dir entry is =
    by_entry (λ (id : Id). last_entry objects (below ∷ rest) id dir entry) (entry_of objects from name) is
  where
    by_test : (b : Bool) (id : Id) → EndsAt objects (below ∷ rest) dir entry id
        → (if b then lookup_from objects (below ∷ rest) id else nowhere Enotdir).target ≡ Name dir entry
        → entry_of objects dir (last_name (below ∷ rest)) ≡ entry
    by_test true id onwards is = onwards is
    by_test false id onwards is = cc

    by_entry : ((id : Id) → EndsAt objects (below ∷ rest) dir entry id) → (found : Option Id)
        → (going_on objects (lookup_from objects (below ∷ rest)) found).target ≡ Name dir entry → entry_of objects dir (last_name (below ∷ rest)) ≡ entry
    by_entry onwards None is = cc
    by_entry onwards (Some id) is = by_test (is_dir objects id) id (onwards id) is

nothing_found : (o : Option LiveEntity) → id_of o ≡ None → o ≡ None
nothing_found None is = refl
nothing_found (Some e) is = cc

-- a name under which there is no entry is free
pub free_name : (objects : Entities) (path : List (List ℕ)) (dir : Id) → (lookup_along objects path).target ≡ Name dir None
    → find (is_one_named (is_entry dir) (last_name path)) objects.live ≡ None
free_name objects path dir is = nothing_found (find (is_one_named (is_entry dir) (last_name path)) objects.live) (last_entry objects path root dir None is)
