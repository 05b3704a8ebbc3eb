use Rattle.std.proofs.Common.{◌≡◌, map, take}
use Rattle.mf_chains.specs.Pasts.{no_past}
use Rattle.mf_chains.proofs.pasts.no_pasts.Given as goal

abbrev pub invariant-loop-registration : goal.invariant-loop-registration
invariant-loop-registration l = l.pasts.items ≡ map no_past (take l.registration-index l.booted)
