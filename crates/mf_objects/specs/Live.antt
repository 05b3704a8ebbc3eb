-- The live entities, as contracts see them: the listing of a finite map by rising id. Ids that are never used again are this model's own.
use Rattle.std.specs.Option.{option_map_or}
use Rattle.std.specs.Prelude.{ℕ, ◌==◌, Bool, true, false, ◌&&◌, List, [], ◌∷◌, length, Option, find, count_by, option_map, slice_index_or}
use Rattle.std.specs.Str.{bytes_eq}
use Rattle.mf_elem.specs.declared.label.LabelValue.{LabelValue}
use Rattle.mf_elem.specs.declared.label.LabelValue.TheVariants.{Unset}
use Rattle.mf_cred.specs.declared.cred.Cred.{Cred}
use Rattle.mf_cred.specs.declared.cred.FileView.{FileView}
use Rattle.mf_item.specs.declared.view.Kind.{Kind}
use Rattle.mf_item.specs.declared.view.Kind.TheVariants as kinds
use Rattle.mf_objects.specs.declared.id.Id.{Id}
use Rattle.mf_objects.specs.declared.entity.EntityData.{EntityData}
use Rattle.mf_objects.specs.declared.entity.EntityData.TheVariants.{Process, Vnode, Pipe, Socket}

-- a live entity: its id, its name, the values of its four label slots, and what it is
pub record LiveEntity : Type 0 where
  pub id : Id
  pub name : List ℕ
  pub label : List LabelValue
  pub what : EntityData

-- the live entities by rising id, and the id that is given next
pub record Entities : Type 0 where
  pub next : ℕ
  pub live : List LiveEntity

-- Which entity it is

abbrev pub has_id : Id → LiveEntity → Bool
has_id id e = e.id.0 == id.0

abbrev pub live_at : Entities → Id → Option LiveEntity
live_at objects id = find (has_id id) objects.live

abbrev pub is_process : EntityData → Bool
is_process (Process process) = true
is_process other = false

abbrev pub is_pipe : EntityData → Bool
is_pipe (Pipe pipe) = true
is_pipe other = false

abbrev pub is_socket : EntityData → Bool
is_socket (Socket socket) = true
is_socket other = false

-- it is an entry of this directory
abbrev pub is_entry : Id → EntityData → Bool
is_entry dir (Vnode vnode) = option_map_or (λ parent. parent.0 == dir.0) vnode.parent false
is_entry dir other = false

-- it was made by this process: pipes and sockets alone have a maker
abbrev pub is_made_by : Id → EntityData → Bool
is_made_by maker (Pipe pipe) = pipe.maker.0 == maker.0
is_made_by maker (Socket socket) = socket.maker.0 == maker.0
is_made_by maker other = false

-- it passes the test and has this name
abbrev pub is_one_named : (EntityData → Bool) → List ℕ → LiveEntity → Bool
is_one_named test name e = test e.what && bytes_eq e.name name

-- the live entity of this name that passes the test
abbrev pub live_named : (EntityData → Bool) → Entities → List ℕ → Option LiveEntity
live_named test objects name = find (is_one_named test name) objects.live

abbrev pub id_of : Option LiveEntity → Option Id
id_of found = option_map (λ e. e.id) found

-- What an entity holds. What doesn't live, or is of another kind, holds nothing: no bytes, no messages, numbers that are 0.

abbrev pub kind_of : EntityData → Kind
kind_of (Process process) = kinds.Process
kind_of (Vnode vnode) = kinds.Vnode
kind_of (Pipe pipe) = kinds.Pipe
kind_of (Socket socket) = kinds.Socket

abbrev pub no_file : FileView
no_file = record { uid = 0; gid = 0; mode = 0; dir = false }

abbrev pub no_cred : Cred
no_cred = record { uid = 0; ruid = 0; svuid = 0; groups = 0 ∷ [] }

-- how a process is seen as an object: by its real uid and its first group
abbrev pub process_file : Cred → FileView
process_file cred = record { uid = cred.ruid; gid = slice_index_or cred.groups 0 0; mode = 0; dir = false }

abbrev pub file_of : EntityData → FileView
file_of (Process process) = process_file process.cred
file_of (Vnode vnode) = vnode.file
file_of (Pipe pipe) = no_file
file_of (Socket socket) = no_file

abbrev pub cred_of : EntityData → Cred
cred_of (Process process) = process.cred
cred_of other = no_cred

-- the bytes of a vnode or a pipe
abbrev pub content_of : EntityData → List ℕ
content_of (Vnode vnode) = vnode.content
content_of (Pipe pipe) = pipe.bytes
content_of other = []

abbrev pub messages_of : EntityData → List (List ℕ)
messages_of (Socket socket) = socket.messages
messages_of other = []

abbrev pub kind_at : Entities → Id → Kind
kind_at objects id = option_map_or (λ e. kind_of e.what) (live_at objects id) kinds.Process

abbrev pub file_at : Entities → Id → FileView
file_at objects id = option_map_or (λ e. file_of e.what) (live_at objects id) no_file

abbrev pub cred_at : Entities → Id → Cred
cred_at objects id = option_map_or (λ e. cred_of e.what) (live_at objects id) no_cred

abbrev pub content_at : Entities → Id → List ℕ
content_at objects id = option_map_or (λ e. content_of e.what) (live_at objects id) []

abbrev pub messages_at : Entities → Id → List (List ℕ)
messages_at objects id = option_map_or (λ e. messages_of e.what) (live_at objects id) []

-- how many messages a socket has, and for all else this number of entries
abbrev pub count_of : ℕ → EntityData → ℕ
count_of entries (Socket socket) = length socket.messages
count_of entries other = entries

abbrev pub entry_count : Entities → Id → ℕ
entry_count objects dir = count_by (λ e. is_entry dir e.what) objects.live

abbrev pub count_at : Entities → Id → ℕ
count_at objects id = option_map_or (λ e. count_of (entry_count objects id) e.what) (live_at objects id) 0

-- the values of the four label slots
abbrev pub label_at : Entities → Id → List LabelValue
label_at objects id = option_map_or (λ e. e.label) (live_at objects id) []

abbrev pub value_in : ℕ → LiveEntity → LabelValue
value_in slot e = slice_index_or e.label slot Unset

abbrev pub is_set : LabelValue → Bool
is_set Unset = false
is_set other = true
