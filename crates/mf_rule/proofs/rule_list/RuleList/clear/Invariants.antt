use Rattle.std.proofs.Common.{◌≡◌, ◌≤◌, ℕ, None, length, slice_index_or}
use Rattle.mf_rule.specs.declared.rule_list.TheConstants.{MAX_RULES}
use Rattle.mf_rule.proofs.rule_list.RuleList.clear.Given as goal

abbrev pub invariant-loop-self : goal.invariant-loop-self
invariant-loop-self l = record {
  full : length l.self-inside.slots.items ≡ MAX_RULES;
  bound : l.self-inside.used ≤ MAX_RULES;
  rest : (number : ℕ) → l.self-inside.used ≤ number → slice_index_or l.self-inside.slots.items number None ≡ None;
}

abbrev pub decreases-loop-self : goal.decreases-loop-self
decreases-loop-self l = l.self-inside.used
