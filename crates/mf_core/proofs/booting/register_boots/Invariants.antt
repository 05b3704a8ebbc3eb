use Rattle.mf_core.proofs.Boots.{IsBooting}
use Rattle.mf_core.proofs.booting.register_boots.Given as goal

abbrev pub invariant-loop-booted : goal.invariant-loop-booted
invariant-loop-booted g l = IsBooting l.booted-items l.booted-index l.boots l.numbers l.fixed l.list l.catalogue
