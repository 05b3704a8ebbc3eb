use Rattle.std.proofs.Common.{◌<◌, true, false, None, length, refl, rules}
use Rattle.mf_rule.proofs.Candidates.{index_with, some_within}
use Rattle.mf_rule.proofs.FreeSlots.{free_without}
use Rattle.mf_rule.proofs.rule_list.RuleList.remove.Goals as goal

pub invariant_of-self : goal.invariant_of-self
invariant_of-self c =
    let within : c.args.number < length c.self.inside.slots.items = some_within _ _ c.in-Some.rule (rw (c.self.view_is) c.in-Some.ensures) in (
      search rules,
      search rules,
      free_without _ c.self.inside.used _ _ within c.self.invariant.2 (rw (← c.deref.ensures.value) c.end_of_rules-self-inside.ensures.rest),
      index_with _ false _ None None _ _ within c.self.invariant.3 (λ uid h. refl) c.replace.ensures,
      index_with _ true _ None None _ _ within c.self.invariant.4 (λ uid h. refl) c.replace-2.ensures,
    )
