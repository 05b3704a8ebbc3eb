-- What the calls change. Entities, ids and limits are this model's own.
use Rattle.std.specs.Prelude.{ℕ, ◌+◌, Bool, true, not, ◌||◌, List, [], ◌∷◌, ◌++◌, map, filter, if◌then◌else◌, Some, None}
use Rattle.mf_elem.specs.declared.label.LabelValue.{LabelValue}
use Rattle.mf_cred.specs.declared.cred.Cred.{Cred}
use Rattle.mf_cred.specs.declared.cred.FileView.{FileView}
use Rattle.mf_objects.specs.declared.limits.TheConstants.{ROOT_MODE}
use Rattle.mf_objects.specs.declared.id.Id.{Id}
use Rattle.mf_objects.specs.declared.entity.EntityData.{EntityData}
use Rattle.mf_objects.specs.declared.entity.EntityData.TheVariants.{Process, Vnode, Pipe, Socket}
use Rattle.mf_objects.specs.Live.{LiveEntity, Entities, has_id, is_made_by}

-- the entity that a call makes: it gets the next id
abbrev pub made : Entities → List ℕ → List LabelValue → EntityData → LiveEntity
made objects name values what = record { id = record { 0 = objects.next }; name = name; label = values; what = what }

-- one entity more, under the next id
abbrev pub with_entity : Entities → List ℕ → List LabelValue → EntityData → Entities
with_entity objects name values what =
    record { next = objects.next + 1; live = objects.live ++ made objects name values what ∷ [] }

-- without the entities that pass the test
abbrev pub without : (LiveEntity → Bool) → Entities → Entities
without gone objects = record objects { live = filter (λ e. not (gone e)) objects.live }

-- it is the process, or a pipe or a socket that the process made
abbrev pub goes_with : Id → LiveEntity → Bool
goes_with id e = has_id id e || is_made_by id e.what

-- the entity of this id is changed, and no other
abbrev pub with_change : (LiveEntity → LiveEntity) → Entities → Id → Entities
with_change change objects id = record objects { live = map (λ e. if has_id id e then change e else e) objects.live }

abbrev pub with_what : (EntityData → EntityData) → LiveEntity → LiveEntity
with_what change e = record e { what = change e.what }

-- bytes are appended to a file or a pipe
abbrev pub appended : List ℕ → EntityData → EntityData
appended text (Vnode vnode) = Vnode (record vnode { content = vnode.content ++ text })
appended text (Pipe pipe) = Pipe (record pipe { bytes = pipe.bytes ++ text })
appended text other = other

-- a message is appended to those of a socket
abbrev pub with_message : List ℕ → List (List ℕ) → List (List ℕ)
with_message message messages = messages ++ message ∷ []

-- a pipe is emptied
abbrev pub cleared : EntityData → EntityData
cleared (Pipe pipe) = Pipe (record pipe { bytes = [] })
cleared other = other

abbrev pub with_messages : (List (List ℕ) → List (List ℕ)) → EntityData → EntityData
with_messages change (Socket socket) = Socket (record socket { messages = change socket.messages })
with_messages change other = other

abbrev pub with_mode : ℕ → EntityData → EntityData
with_mode mode (Vnode vnode) = Vnode (record vnode { file = record vnode.file { mode = mode } })
with_mode mode other = other

-- What is made

-- a process that has nothing open
abbrev pub new_process : Cred → EntityData
new_process cred = Process (record { cred = cred; fds = [] })

abbrev pub new_vnode : Id → FileView → List ℕ → EntityData
new_vnode dir file text = Vnode (record { parent = Some dir; file = file; content = text })

abbrev pub new_pipe : Id → EntityData
new_pipe maker = Pipe (record { maker = maker; bytes = [] })

abbrev pub new_socket : Id → EntityData
new_socket maker = Socket (record { maker = maker; messages = [] })

-- The beginning

-- the root directory alone, of uid 0 and gid 0, with mode 755
abbrev pub with_root : List LabelValue → Entities
with_root values =
    with_entity (record { next = 0; live = [] }) [] values
    (Vnode (record { parent = None; file = record { uid = 0; gid = 0; mode = ROOT_MODE; dir = true }; content = [] }))
