use Rattle.std.proofs.Common.{[], ap, arith}
use Rattle.mf_objects.specs.Descriptors.{fds_of, fds_at, lowest_free}
use Rattle.mf_objects.proofs.Shorthands.{reading}
use Rattle.mf_objects.proofs.Numbers.{number_left}
use Rattle.mf_objects.proofs.objects.Objects.lowest_free.Goals as goal

pub returns-clause-within : goal.returns-clause-within
returns-clause-within c few =
    let own = ap (reading fds_of []) c.entity.ensures.shown in
    let left = number_left (fds_at c.args.self.now c.args.p) few in
    omega (arith, left, c.lowest_free.ensures, ap lowest_free own)
