use Rattle.mf_objects.specs.Live.{is_one_named, is_socket}
use Rattle.mf_objects.proofs.Found.{kind_found, named_kind}
use Rattle.mf_objects.proofs.objects.Objects.socket.Goals as goal

pub returns-clause-socket : goal.returns-clause-socket
returns-clause-socket c =
    kind_found (is_one_named is_socket c.args.name.now) is_socket (named_kind is_socket c.args.name.now) c.args.self.now c.named.result c.named.ensures.found
