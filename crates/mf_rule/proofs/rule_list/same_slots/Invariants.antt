use Rattle.std.proofs.Common.{◌≡◌, take}
use Rattle.mf_rule.proofs.rule_list.same_slots.Given as goal

abbrev pub invariant-loop-number : goal.invariant-loop-number
invariant-loop-number l = take l.number l.slots ≡ take l.number l.others
