use Rattle.mf_objects.specs.Live.{is_one_named, is_process}
use Rattle.mf_objects.proofs.Found.{kind_found, named_kind}
use Rattle.mf_objects.proofs.objects.Objects.process.Goals as goal

pub returns-clause-process : goal.returns-clause-process
returns-clause-process c =
    kind_found (is_one_named is_process c.args.name.now) is_process (named_kind is_process c.args.name.now) c.args.self.now c.named.result c.named.ensures.found
