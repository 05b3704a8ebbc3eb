use Rattle.std.proofs.Common.{rules}
use Rattle.mf_rule.proofs.rule.Side.matches.Goals as goal

pub returns : goal.returns
returns c = search rules
