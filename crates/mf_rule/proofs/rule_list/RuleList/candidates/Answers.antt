use Rattle.std.proofs.Common.{◌∙◌}
use Rattle.mf_rule.proofs.Candidates.{candidate_numbers}
use Rattle.mf_rule.proofs.rule_list.RuleList.candidates.Goals as goal

pub returns : goal.returns
returns c = c.of.ensures ∙ candidate_numbers _ _ _ _ c.candidate_bits.ensures
