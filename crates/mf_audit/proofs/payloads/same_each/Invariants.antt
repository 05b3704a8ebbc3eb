use Rattle.std.proofs.Common.{◌≡◌, take}
use Rattle.mf_audit.proofs.payloads.same_each.Given as goal

abbrev pub invariant-loop-number : goal.invariant-loop-number
invariant-loop-number l = take l.number l.parts ≡ take l.number l.others
