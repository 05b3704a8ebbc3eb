use Rattle.std.proofs.Common.{◌≡◌, ◌≤◌, take, length}
use Rattle.mf_cred.proofs.array_vec.ArrayVec.copy.Given as goal

abbrev pub invariant-loop-item : goal.invariant-loop-item
invariant-loop-item g l = (l.copy ≡ take l.item-index l.item-items) × (length l.item-items ≤ g.row.N)
