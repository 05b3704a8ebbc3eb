use Rattle.std.proofs.Common.{◌+◌, ◌-◌, length}
use Rattle.mf_chains.proofs.Joining.{IsJoined}
use Rattle.mf_chains.proofs.marks.joined.Given as goal

abbrev pub invariant-loop-theirs : goal.invariant-loop-theirs
invariant-loop-theirs l = IsJoined l.initial.links l.set l.given l.step l.links l.items.items l.mine l.theirs

abbrev pub decreases-loop-theirs : goal.decreases-loop-theirs
decreases-loop-theirs l = (length l.set - l.mine) + (length l.given - l.theirs)
