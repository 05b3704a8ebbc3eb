-- Live entities as policies see them, which a name names, and what the framework tests of them.
use Rattle.std.specs.Prelude.{ℕ, ◌+◌, Bool, nat_lt, List, length, Option, None}
use Rattle.mf_item.specs.declared.view.Kind.{Kind}
use Rattle.mf_item.specs.declared.view.Kind.TheVariants as kinds
use Rattle.mf_objects.specs.declared.id.Id.{Id}
use Rattle.mf_objects.specs.Live.{Entities, id_of, live_named, is_process, is_pipe, is_socket, file_at, content_at}

-- the live process, pipe or socket of a name

abbrev pub process_named : Entities → List ℕ → Option Id
process_named objects name = id_of (live_named is_process objects name)

abbrev pub entity_named : Entities → Kind → List ℕ → Option Id
entity_named objects kinds.Process name = process_named objects name
entity_named objects kinds.Pipe name = id_of (live_named is_pipe objects name)
entity_named objects kinds.Socket name = id_of (live_named is_socket objects name)
entity_named objects kinds.Vnode name = None

-- What the framework tests

abbrev pub is_dir : Entities → Id → Bool
is_dir objects id = (file_at objects id).dir

-- the file or pipe would hold more bytes than this
abbrev pub overfills : ℕ → Entities → List ℕ → Id → Bool
overfills most objects text id = nat_lt most (length (content_at objects id) + length text)
