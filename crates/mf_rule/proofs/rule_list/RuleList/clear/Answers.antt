use Rattle.std.proofs.Common.{arith}
use Rattle.mf_rule.specs.declared.rule_list.TheConstants.{MAX_RULES}
use Rattle.mf_rule.proofs.FreeSlots.{used_then_free}
use Rattle.mf_rule.proofs.rule_list.RuleList.clear.Goals as goal

pub returns : goal.returns
returns c = used_then_free 0 MAX_RULES c.loop-self.self-inside.slots.items (omega (arith, c.loop-self.invariant.full)) (λ number from. c.loop-self.invariant.rest number (omega arith))
