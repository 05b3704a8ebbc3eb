use Rattle.mf_audit.proofs.Booting.{AreRegistered}
use Rattle.mf_audit.proofs.boots.registrations.Given as goal

abbrev pub invariant-loop-booted : goal.invariant-loop-booted
invariant-loop-booted l = AreRegistered l.modules l.booted-index l.registrations.items l.given
