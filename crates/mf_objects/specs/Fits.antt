-- When a change of an entity is possible.
use Rattle.std.specs.Prelude.{◌≡◌, ◌≢◌, ℕ, ◌+◌, ◌<◌, ◌≤◌, length, false, List, [], IsTrue, All, MatchOption, count_by}
use Rattle.mf_names.specs.declared.limits.TheConstants.{CONTENT_LIMIT}
use Rattle.mf_objects.specs.declared.limits.TheConstants.{PIPE_LIMIT, MOST_MESSAGES}
use Rattle.mf_objects.specs.declared.id.Id.{Id}
use Rattle.mf_objects.specs.declared.entity.EntityData.{EntityData}
use Rattle.mf_objects.specs.declared.entity.EntityData.TheVariants.{Process, Vnode, Pipe, Socket}
use Rattle.mf_objects.specs.Live.{LiveEntity, Entities, is_process, is_entry, is_made_by}
use Rattle.mf_objects.specs.Lives.{is_directory, IsLive}
use Rattle.mf_objects.specs.Descriptors.{fds_of}

-- so many bytes more fit a regular file or a pipe
abbrev pub FitsBytes : ℕ → EntityData → Type 0
FitsBytes more (Vnode vnode) = (vnode.file.dir ≡ false) × (length vnode.content + more ≤ CONTENT_LIMIT)
FitsBytes more (Pipe pipe) = length pipe.bytes + more ≤ PIPE_LIMIT
FitsBytes more other = ⊥

-- one message more fits a socket
abbrev pub FitsMessage : EntityData → Type 0
FitsMessage (Socket socket) = length socket.messages < MOST_MESSAGES
FitsMessage other = ⊥

-- a socket with a message
abbrev pub HasMessage : EntityData → Type 0
HasMessage (Socket socket) = 0 < length socket.messages
HasMessage other = ⊥

-- what a new entity is to belong to is live: its directory, or the process that makes it; a new directory is empty, and a new process has nothing open
abbrev pub MayJoin : Entities → EntityData → Type 0
MayJoin objects (Process process) = process.fds ≡ []
MayJoin objects (Vnode vnode) = MatchOption vnode.parent ⊥ (λ dir. IsLive is_directory objects dir) × (IsTrue vnode.file.dir → vnode.content ≡ [])
MayJoin objects (Pipe pipe) = IsLive is_process objects pipe.maker
MayJoin objects (Socket socket) = IsLive is_process objects socket.maker

-- no process has the file open
abbrev pub IsUnopened : Id → List LiveEntity → Type 0
IsUnopened file live = All (λ e. All (λ fd. fd.file.0 ≢ file.0) (fds_of e.what)) live

-- nothing that lives belongs to the entity of this id, and no process has it open
abbrev pub IsBare : List LiveEntity → Id → EntityData → Type 0
IsBare live id (Process process) = count_by (λ e. is_made_by id e.what) live ≡ 0
IsBare live id (Vnode vnode) = (count_by (λ e. is_entry id e.what) live ≡ 0) × IsUnopened id live
IsBare live id other = Unit {0}
