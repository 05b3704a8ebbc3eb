use Rattle.std.proofs.Common.{◌≡◌, map, take}
use Rattle.mf_plan.specs.Payloads.{loaded}
use Rattle.mf_perform.proofs.payload.loaded.Given as goal

abbrev pub invariant-loop-place : goal.invariant-loop-place
invariant-loop-place l = l.modules ≡ map loaded (take l.place l.specs)
