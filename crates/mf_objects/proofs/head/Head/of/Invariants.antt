use Rattle.std.proofs.Common.{◌≡◌, ◌≤◌, length, take}
use Rattle.mf_objects.proofs.head.Head.of.Given as goal

abbrev pub invariant-loop-byte : goal.invariant-loop-byte
invariant-loop-byte l = (l.first ≡ take l.byte-index l.byte-items) × (length l.byte-items ≤ 64)
