-- Where a path leads, and the directories in which its components are looked up, as namei(9) does without links and mounts.
use Rattle.std.specs.Prelude.{ℕ, List, [], ◌∷◌, Option, Some, None, Result, Ok, Err, if◌then◌else◌}
use Rattle.std.specs.Result.{result_ok}
use Rattle.mf_errno.specs.declared.errno.Errno.{Errno}
use Rattle.mf_errno.specs.declared.errno.Errno.TheVariants.{Enoent, Eexist, Enotdir, Einval}
use Rattle.mf_objects.specs.declared.id.Id.{Id}
use Rattle.mf_objects.specs.Live.{Entities, id_of, live_named, is_entry}
use Rattle.mf_plan.specs.declared.target.Target.{Target}
use Rattle.mf_plan.specs.declared.target.Target.TheVariants.{Root, Name, Nowhere}
use Rattle.mf_plan.specs.declared.lookup.Lookup.{Lookup}
use Rattle.mf_plan.specs.Views.{is_dir}

abbrev pub root : Id
root = record { 0 = 0 }

-- the entry of that name in a directory
abbrev pub entry_of : Entities → Id → List ℕ → Option Id
entry_of objects dir name = id_of (live_named (is_entry dir) objects name)

-- the path leads nowhere
abbrev pub nowhere : Errno → Lookup
nowhere errno = record { lookups = []; target = Nowhere errno }

-- the directory is looked into first
abbrev pub looking_into : Id → Lookup → Lookup
looking_into dir rest = record rest { lookups = dir ∷ rest.lookups }

-- goes on from an entry, which must be a directory
abbrev pub going_on : Entities → (Id → Lookup) → Option Id → Lookup
going_on objects rest None = nowhere Enoent
going_on objects rest (Some id) = if is_dir objects id then rest id else nowhere Enotdir

-- the look-up of some components from a directory
unfoldable pub lookup_from : Entities → List (List ℕ) → Id → Lookup
lookup_from objects [] dir = record { lookups = []; target = Root }
lookup_from objects (name ∷ []) dir = record { lookups = dir ∷ []; target = Name dir (entry_of objects dir name) }
lookup_from objects (name ∷ below ∷ rest) dir =
    looking_into dir (going_on objects (lookup_from objects (below ∷ rest)) (entry_of objects dir name))

-- the look-up of a path, from the root directory
abbrev pub lookup_along : Entities → List (List ℕ) → Lookup
lookup_along objects path = lookup_from objects path root

-- the last component of a path, and no byte for the root directory
abbrev pub last_name : List (List ℕ) → List ℕ
last_name [] = []
last_name (name ∷ []) = name
last_name (name ∷ below ∷ rest) = last_name (below ∷ rest)

-- What a call finds where a path leads, or with which errno it fails

-- a file or directory
abbrev pub found_at : Target → Result Id Errno
found_at Root = Ok root
found_at (Name dir None) = Err Enoent
found_at (Name dir (Some id)) = Ok id
found_at (Nowhere errno) = Err errno

-- a directory in which the name is free
abbrev pub free_at : Target → Result Id Errno
free_at Root = Err Einval
free_at (Name dir None) = Ok dir
free_at (Name dir (Some id)) = Err Eexist
free_at (Nowhere errno) = Err errno

-- a directory and an entry of it
abbrev pub entry_at : Target → Result (Id × Id) Errno
entry_at Root = Err Einval
entry_at (Name dir None) = Err Enoent
entry_at (Name dir (Some id)) = Ok (dir, id)
entry_at (Nowhere errno) = Err errno

-- the file or directory at a path
abbrev pub file_at_path : Entities → List (List ℕ) → Option Id
file_at_path objects path = result_ok (found_at (lookup_along objects path).target)
