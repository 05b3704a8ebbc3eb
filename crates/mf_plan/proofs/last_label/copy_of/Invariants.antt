use Rattle.std.proofs.Common.{◌≡◌, ◌≤◌, length, take}
use Rattle.mf_plan.proofs.last_label.copy_of.Given as goal

abbrev pub invariant-loop-byte : goal.invariant-loop-byte
invariant-loop-byte l = (l.copy ≡ take l.byte-index l.bytes) × (length l.bytes ≤ 64)
