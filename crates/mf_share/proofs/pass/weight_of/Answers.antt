use Rattle.std.proofs.Common.{arith}
use Rattle.mf_share.proofs.Weights.{weight_fits}
use Rattle.mf_share.proofs.pass.weight_of.Goals as goal

pub pow-entered-requires : goal.pow-entered-requires
pow-entered-requires c = omega (arith, weight_fits c.args.task c.requires)

pub overflow_mul-result : goal.overflow_mul-result
overflow_mul-result c = omega (arith, c.pow-entered.ensures, weight_fits c.args.task c.requires)
