-- What is true of the live entities at any time.
use Rattle.std.specs.Prelude.{◌≡◌, ◌≢◌, ℕ, ◌+◌, ◌<◌, ◌≤◌, Bool, false, ◌&&◌, IsTrue, List, [], ◌∷◌, length, All, AllPairs, Option, Some, None, find, MatchOption}
use Rattle.std.specs.Str.{bytes_eq}
use Rattle.mf_names.specs.declared.limits.TheConstants.{MOST_DESCRIPTORS}
use Rattle.mf_objects.specs.declared.id.Id.{Id}
use Rattle.mf_objects.specs.declared.descriptors.Fd.{Fd}
use Rattle.mf_objects.specs.declared.entity.EntityData.{EntityData}
use Rattle.mf_objects.specs.declared.entity.EntityData.TheVariants.{Process, Vnode, Pipe, Socket}
use Rattle.mf_objects.specs.Live.{LiveEntity, Entities, has_id, is_process, is_pipe, is_socket, is_entry, content_of}
use Rattle.mf_objects.specs.Lives.{passes, is_directory, is_regular}
use Rattle.mf_objects.specs.Descriptors.{fds_of}

-- the ids rise, are at least the first number and stay below the second
abbrev pub IsRising : ℕ → ℕ → List LiveEntity → Type 0
IsRising least next [] = least ≤ next
IsRising least next (e ∷ es) = (least ≤ e.id.0) × IsRising (e.id.0 + 1) next es

-- the first entity is the root directory, whose id is 0
abbrev pub HasRoot : List LiveEntity → Type 0
HasRoot [] = ⊥
HasRoot (e ∷ es) = (e.id.0 ≡ 0) × IsTrue (is_directory e.what)

-- a live entity of this id passes the test, and is older than the one of the number
abbrev pub HasOlder : (EntityData → Bool) → List LiveEntity → ℕ → Id → Type 0
HasOlder test live n id = (id.0 < n) × IsTrue (passes test (find (has_id id) live))

-- the directory in which the entity of this number lies, or the process that made it, is live and older. The root alone lies
-- in no directory.
abbrev pub Belongs : List LiveEntity → ℕ → EntityData → Type 0
Belongs live n (Process process) = Unit {0}
Belongs live n (Vnode vnode) = MatchOption vnode.parent (n ≡ 0) (λ dir. HasOlder is_directory live n dir)
Belongs live n (Pipe pipe) = HasOlder is_process live n pipe.maker
Belongs live n (Socket socket) = HasOlder is_process live n socket.maker

abbrev pub AllBelong : List LiveEntity → Type 0
AllBelong live = All (λ e. Belongs live e.id.0 e.what) live

-- a directory holds no bytes
abbrev pub NoBytesIfDirectory : EntityData → Type 0
NoBytesIfDirectory w = IsTrue (is_directory w) → content_of w ≡ []

-- it is an entry of this directory, where there is one
abbrev pub is_entry_beside : Option Id → EntityData → Bool
is_entry_beside None other = false
is_entry_beside (Some dir) other = is_entry dir other

-- The two need different names: processes, pipes, sockets, and the entries of one directory. The root has no name to share.
abbrev pub shares_names : EntityData → EntityData → Bool
shares_names (Process process) other = is_process other
shares_names (Vnode vnode) other = is_entry_beside vnode.parent other
shares_names (Pipe pipe) other = is_pipe other
shares_names (Socket socket) other = is_socket other

-- it has the name that such an entity is to have
abbrev pub is_namesake : List ℕ → EntityData → LiveEntity → Bool
is_namesake name what e = shares_names what e.what && bytes_eq e.name name

-- names differ among processes, among pipes, among sockets, and in each directory
abbrev pub NoNamesakes : List LiveEntity → Type 0
NoNamesakes live = AllPairs (λ older e. is_namesake e.name e.what older ≡ false) live

-- the descriptors of a process: they are no more than it may have, their numbers are below that and differ, and each is on a live regular file
pub record AreDescriptors (live : List LiveEntity) (fds : List Fd) : Type 0 where
  pub few : length fds ≤ MOST_DESCRIPTORS
  pub within : All (λ fd. fd.number < MOST_DESCRIPTORS) fds
  pub once : AllPairs (λ fd other. fd.number ≢ other.number) fds
  pub files : All (λ fd. IsTrue (passes is_regular (find (has_id fd.file) live))) fds

-- what is true of the live entities at any time
pub record IsPopulation (objects : Entities) : Type 0 where
  pub rising : IsRising 0 objects.next objects.live
  pub rooted : HasRoot objects.live
  pub belong : AllBelong objects.live
  pub directories : All (λ e. NoBytesIfDirectory e.what) objects.live
  pub names : NoNamesakes objects.live
  pub descriptors : All (λ e. AreDescriptors objects.live (fds_of e.what)) objects.live
