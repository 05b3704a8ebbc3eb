use Rattle.std.proofs.Common.{arith, rules}
use Rattle.mf_rule.proofs.Bits.{least_low, least_high}
use Rattle.mf_rule.proofs.rule_bits.Bits.least.Goals as goal

pub returns-then-self-ne0 : goal.returns-then-self-ne0
returns-then-self-ne0 c = least_low c.args.self.now (omega (arith, c.if-self-ne0.true)) (search rules)

pub returns-then-self-ne0-2 : goal.returns-then-self-ne0-2
returns-then-self-ne0-2 c = least_high c.args.self.now (omega (arith, c.if-self-ne0.false)) (omega (arith, c.if-self-ne0-2.true)) (search rules)
