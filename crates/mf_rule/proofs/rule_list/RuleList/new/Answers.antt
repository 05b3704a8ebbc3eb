use Rattle.std.proofs.Common.{true, false, None, replicate, rules}
use Rattle.mf_rule.proofs.Candidates.{empty_index}
use Rattle.mf_rule.proofs.FreeSlots.{all_free_at}
use Rattle.mf_rule.proofs.rule_list.RuleList.new.Goals as goal

pub invariant_of-result : goal.invariant_of-result
invariant_of-result c =
    let free = all_free_at 250 in
    rw (c.in_ok-slots.ensures, c.new.ensures, c.new-2.ensures)
    (search rules, search rules, λ number from. free number, empty_index (replicate 250 None) false free, empty_index (replicate 250 None) true free)
