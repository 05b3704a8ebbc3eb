use Rattle.std.proofs.Common.{◌+◌, length, cond}
use Rattle.mf_hist.specs.Reading.{Becomes, rules_behind}
use Rattle.mf_hist.proofs.rules.rules.Given as goal

abbrev pub invariant-loop-more : goal.invariant-loop-more
invariant-loop-more l = Becomes l.more l.rules l.words (rules_behind l.fn.words)

abbrev pub decreases-loop-more : goal.decreases-loop-more
decreases-loop-more l = cond l.more (length l.words + 1) 0
