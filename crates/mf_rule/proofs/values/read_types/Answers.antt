use Rattle.std.proofs.Common.{rules}
use Rattle.mf_rule.specs.Words.{types_in}
use Rattle.mf_rule.proofs.values.read_types.Goals as goal

pub returns : goal.returns
unfolding types_in
returns c = search rules
