use Rattle.std.proofs.Common.{◌≡◌, [], take}
use Rattle.std.specs.Prelude.{fold}
use Rattle.mf_policy.specs.Registration.{with_registered}
use Rattle.mf_audit.proofs.boots.listed_after.Given as goal

abbrev pub invariant-loop-registration : goal.invariant-loop-registration
invariant-loop-registration l = l.listed ≡ fold with_registered [] (take l.registration-index l.registrations)
