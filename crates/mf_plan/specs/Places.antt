-- Where a path leads, as the calls ask it.
use Rattle.std.specs.Prelude.{◌≢◌, ℕ, List, Option, Some, None, IfSome, Result, Ok, Err, option_map, if◌then◌else◌}
use Rattle.std.specs.Result.{result_ok}
use Rattle.mf_errno.specs.declared.errno.Errno.{Errno}
use Rattle.mf_errno.specs.declared.errno.Errno.TheVariants.{Enoent, Enotdir}
use Rattle.mf_objects.specs.declared.id.Id.{Id}
use Rattle.mf_objects.specs.Live.{Entities}
use Rattle.mf_objects.specs.Lives.{IsLive, is_directory, is_vnode}
use Rattle.mf_plan.specs.declared.target.Target.{Target}
use Rattle.mf_plan.specs.declared.target.Target.TheVariants.{Root, Name, Nowhere}
use Rattle.mf_plan.specs.Views.{is_dir}
use Rattle.mf_plan.specs.Path.{entry_at, free_at, lookup_along, root}

-- the directory in which the last name of a path is free
abbrev pub free_dir_at : Entities → List (List ℕ) → Option Id
free_dir_at objects path = result_ok (free_at (lookup_along objects path).target)

-- the entry of a directory at a path
abbrev pub entry_at_path : Entities → List (List ℕ) → Option Id
entry_at_path objects path = option_map (λ place. place.1) (result_ok (entry_at (lookup_along objects path).target))

-- what is so wherever a path leads: the directory of a name is live, and the entry under it a live vnode other than the root
abbrev pub IsTarget : Entities → Target → Type 0
IsTarget objects Root = IsLive is_directory objects root
IsTarget objects (Name dir entry) = IsLive is_directory objects dir × IfSome entry (λ id. IsLive is_vnode objects id × (id.0 ≢ 0))
IsTarget objects (Nowhere errno) = Unit {0}

-- the directory in which the next component is looked up, by where the components so far lead
abbrev pub next_dir : Entities → Target → Result Id Errno
next_dir objects Root = Ok root
next_dir objects (Name dir None) = Err Enoent
next_dir objects (Name dir (Some id)) = if is_dir objects id then Ok id else Err Enotdir
next_dir objects (Nowhere errno) = Err errno
