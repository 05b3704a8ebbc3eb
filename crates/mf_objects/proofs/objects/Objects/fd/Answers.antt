use Rattle.std.proofs.Common.{[], ap, sym, ◌∙◌}
use Rattle.mf_objects.specs.Descriptors.{fds_of, fd_in}
use Rattle.mf_objects.proofs.Shorthands.{reading}
use Rattle.mf_objects.proofs.DescriptorLaws.{found_regular}
use Rattle.mf_objects.proofs.objects.Objects.fd.Goals as goal

pub returns-clause-file : goal.returns-clause-file
returns-clause-file c =
    found_regular c.args.self.now c.args.p c.args.n c.fd.result c.entity.ensures.population
    (c.fd.ensures ∙ ap (λ fds. fd_in fds c.args.n) (sym (ap (reading fds_of []) c.entity.ensures.shown)))
