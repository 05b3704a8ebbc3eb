use Rattle.std.proofs.Common.{◌∙◌}
use Rattle.mf_rule.proofs.Stretches.{rules_at_end}
use Rattle.mf_rule.proofs.uid_index.UidIndex.at.Goals as goal

pub returns : goal.returns
returns c = c.rules_before.ensures ∙ rules_at_end _ _ _ c.end.ensures
