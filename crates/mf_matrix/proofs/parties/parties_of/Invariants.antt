use Rattle.mf_matrix.proofs.Walked.{AreWalked}
use Rattle.mf_matrix.proofs.parties.parties_of.Given as goal

abbrev pub invariant-loop-place : goal.invariant-loop-place
invariant-loop-place l = AreWalked l.objects l.parties.items l.from l._place
