-- What an effect needs of the state.
use Rattle.std.specs.Prelude.{◌≡◌, ◌≢◌, ℕ, ◌<◌, List, length, None, IfSome, IsSome, find}
use Rattle.mf_objects.specs.declared.id.Id.{Id}
use Rattle.mf_objects.specs.declared.entity.EntityData.{EntityData}
use Rattle.mf_objects.specs.declared.entity.EntityData.TheVariants.{Process, Vnode, Pipe, Socket}
use Rattle.mf_objects.specs.declared.limits.TheConstants.{MOST_ENTITIES}
use Rattle.mf_names.specs.declared.limits.TheConstants.{MOST_DESCRIPTORS}
use Rattle.mf_objects.specs.declared.descriptors.Fd.{Fd}
use Rattle.mf_objects.specs.Descriptors.{fd_in, fds_at, lowest_free}
use Rattle.mf_objects.specs.Fits.{FitsBytes, FitsMessage, HasMessage}
use Rattle.mf_objects.specs.Live.{Entities, entry_count, is_one_named, is_entry, is_pipe, is_process, is_socket, live_at}
use Rattle.mf_objects.specs.Lives.{IsLive, IsLiveWhere, is_directory, is_regular, is_vnode}
use Rattle.mf_policy.specs.Loading.{load_fault, unload_fault}
use Rattle.mf_plan.specs.declared.state.State.{State}
use Rattle.mf_plan.specs.Effect.{Effect}
use Rattle.mf_plan.specs.Effect.Effect.{Unchanged, Make, Append, Deliver, Empty, Receive, SetMode, Open, Close, Unlink, End, Relabel, Load, Unload, Set}

-- a vnode that isn't the root, and has no entries
pub record IsRemovable (o : Entities) (id : Id) : Type 0 where
  pub vnode : IsLive is_vnode o id
  pub not_root : id.0 ≢ 0
  pub empty : entry_count o id ≡ 0

-- a process that may have one more descriptor, which gets the lowest free number, on a regular file
pub record CanOpen (o : Entities) (id : Id) (fd : Fd) : Type 0 where
  pub process : IsLive is_process o id
  pub few : length (fds_at o id) < MOST_DESCRIPTORS
  pub number : fd.number ≡ lowest_free (fds_at o id)
  pub file : IsLive is_regular o fd.file

-- a process that has a descriptor of the number
pub record CanClose (o : Entities) (id : Id) (n : ℕ) : Type 0 where
  pub process : IsLive is_process o id
  pub is_open : IsSome (fd_in (fds_at o id) n)

-- a name that is free: of an entry in its directory, which lives, or of a process, a pipe or a socket
abbrev pub IsFree : Entities → EntityData → List ℕ → Type 0
IsFree o (Process process) name = find (is_one_named is_process name) o.live ≡ None
IsFree o (Vnode vnode) name = IfSome vnode.parent (λ dir. IsLive is_directory o dir × (find (is_one_named (is_entry dir) name) o.live ≡ None))
IsFree o (Pipe pipe) name = find (is_one_named is_pipe name) o.live ≡ None
IsFree o (Socket socket) name = find (is_one_named is_socket name) o.live ≡ None

-- one entity more finds room, and its name is free
pub record FindsRoom (o : Entities) (name : List ℕ) (what : EntityData) : Type 0 where
  pub few : length o.live < MOST_ENTITIES
  pub free : IsFree o what name

-- The table.
abbrev pub Suits : State → Effect → Type 0
Suits s (Make name what) = FindsRoom s.objects name what
Suits s (Append id text) = IsLiveWhere (FitsBytes (length text)) (live_at s.objects id)
Suits s (Deliver id text) = IsLiveWhere FitsMessage (live_at s.objects id)
Suits s (Empty id) = IsLive is_pipe s.objects id
Suits s (Receive id) = IsLiveWhere HasMessage (live_at s.objects id)
Suits s (SetMode id mode) = IsLive is_vnode s.objects id
Suits s (Open id fd) = CanOpen s.objects id fd
Suits s (Close id n) = CanClose s.objects id n
Suits s (Unlink id) = IsRemovable s.objects id
Suits s (Relabel id request) = IsSome (live_at s.objects id)
Suits s (Load m) = load_fault s.booted s.specs s.numbers m ≡ None
Suits s (Unload m) = unload_fault s.specs m ≡ None
Suits s Unchanged = Unit {0}
Suits s (End id) = Unit {0}
Suits s (Set m change) = Unit {0}
