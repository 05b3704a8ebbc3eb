use Rattle.std.proofs.Common.{◌≡◌, take}
use Rattle.mf_rule.proofs.ports.same_rules.Given as goal

abbrev pub invariant-loop-number : goal.invariant-loop-number
invariant-loop-number l = take l.number l.rules ≡ take l.number l.others
