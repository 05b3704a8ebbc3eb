use Rattle.std.proofs.Common.{◌+◌, ◌-◌, length}
use Rattle.mf_chains.proofs.Lacking.{IsWalked}
use Rattle.mf_chains.proofs.marks.lacks_none.Given as goal

abbrev pub invariant-loop-theirs : goal.invariant-loop-theirs
invariant-loop-theirs l = IsWalked l.set l.given l.mine l.theirs

abbrev pub decreases-loop-theirs : goal.decreases-loop-theirs
decreases-loop-theirs l = (length l.set - l.mine) + (length l.given - l.theirs)
