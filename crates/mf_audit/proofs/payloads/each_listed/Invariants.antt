use Rattle.std.proofs.Common.{◌≡◌, map, take}
use Rattle.mf_plan.specs.Payloads.{loaded}
use Rattle.mf_audit.proofs.payloads.each_listed.Given as goal

abbrev pub invariant-loop-place : goal.invariant-loop-place
invariant-loop-place l = take l.place l.modules ≡ map loaded (take l.place l.listed)
