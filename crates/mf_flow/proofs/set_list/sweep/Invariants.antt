use Rattle.mf_flow.specs.Rows.{AreKept}
use Rattle.mf_flow.proofs.set_list.sweep.Given as goal

abbrev pub invariant-loop-number : goal.invariant-loop-number
invariant-loop-number l = AreKept l.objects l.initial.sets l.sets
