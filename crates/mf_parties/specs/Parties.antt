-- Parties as the definitions have live entities.
use Rattle.std.specs.Prelude.{Bool}
use Rattle.mf_item.specs.declared.view.Kind.{Kind}
use Rattle.mf_item.specs.declared.view.Kind.TheVariants as kinds
use Rattle.mf_objects.specs.declared.entity.EntityData.{EntityData}
use Rattle.mf_objects.specs.declared.entity.EntityData.TheVariants.{Process, Vnode, Pipe, Socket}
use Rattle.mf_objects.specs.Live.{is_process, is_pipe, is_socket}
use Rattle.mf_objects.specs.Lives.{is_vnode}
use Rattle.mf_parties.specs.declared.what.What.{What}
use Rattle.mf_parties.specs.declared.what.What.TheVariants as what

-- what a party is
abbrev pub data_of : What → EntityData
data_of (what.Process cred fds) = Process (record { cred = cred; fds = fds.items })
data_of (what.Vnode parent file content) = Vnode (record { parent = parent; file = file; content = content.items })
data_of (what.Pipe maker bytes) = Pipe (record { maker = maker; bytes = bytes.items })
data_of (what.Socket maker messages) = Socket (record { maker = maker; messages = messages.items })

-- it is of this kind
abbrev pub is_of : Kind → EntityData → Bool
is_of kinds.Process = is_process
is_of kinds.Vnode = is_vnode
is_of kinds.Pipe = is_pipe
is_of kinds.Socket = is_socket
