use Rattle.std.proofs.Common.{◌∙◌}
use Rattle.mf_rule.proofs.Stretches.{rules_at_end, cut_changes_nothing, is_cut_still}
use Rattle.mf_rule.specs.RuleBits.{no_bits}
use Rattle.mf_rule.proofs.uid_index.UidIndex.cut.Goals as goal

pub returns-clause-rules : goal.returns-clause-rules
returns-clause-rules c =
    λ other.
    let rules = c.rules_before-rules.ensures ∙ rules_at_end _ _ _ c.end-end.ensures in
    rw (c.in_ok-insert.ensures.items, rules, ← c.self.view_is) (cut_changes_nothing no_bits c.args.uid _ other _ (rw (c.self.view_is) c.end-end.ensures))

pub returns-clause-cuts : goal.returns-clause-cuts
returns-clause-cuts c = λ other was. rw (c.in_ok-insert.ensures.items) (is_cut_still other _ _ _ _ (rw (c.self.view_is) was))
