use Rattle.std.proofs.Common.{◌<◌}
use Rattle.mf_verdict.proofs.front.rule_lists.Given as goal

abbrev pub invariant-loop-place : goal.invariant-loop-place
invariant-loop-place l = l.blanks < 4
