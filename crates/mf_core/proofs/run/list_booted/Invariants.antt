use Rattle.mf_core.proofs.Booted.{AreLoaded}
use Rattle.mf_core.proofs.run.list_booted.Given as goal

abbrev pub invariant-loop-wanted : goal.invariant-loop-wanted
invariant-loop-wanted l = AreLoaded l.wanted-items l.wanted-index l.specs l.numbers
