use Rattle.mf_why.proofs.Rules.{each_rule_is_told}
use Rattle.mf_why.proofs.laws.each_rule_is_told.Goals as goal

pub returns : goal.returns
returns c = each_rule_is_told
