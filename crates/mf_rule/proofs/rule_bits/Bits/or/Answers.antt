use Rattle.mf_rule.proofs.Bits.{bit_of_both}
use Rattle.mf_rule.proofs.rule_bits.Bits.or.Goals as goal

pub returns : goal.returns
returns c = λ n. bit_of_both n c.args.self.now c.args.other.now
