use Rattle.mf_objects.specs.Live.{is_one_named, is_pipe}
use Rattle.mf_objects.proofs.Found.{kind_found, named_kind}
use Rattle.mf_objects.proofs.objects.Objects.pipe.Goals as goal

pub returns-clause-pipe : goal.returns-clause-pipe
returns-clause-pipe c =
    kind_found (is_one_named is_pipe c.args.name.now) is_pipe (named_kind is_pipe c.args.name.now) c.args.self.now c.named.result c.named.ensures.found
