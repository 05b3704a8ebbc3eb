use Rattle.std.proofs.Common.{◌≡◌, ◌<◌, ℕ, length, get_or}
use Rattle.mf_plan.proofs.last_label.is_same.Given as goal

abbrev pub invariant-loop-place : goal.invariant-loop-place
invariant-loop-place l = (length l.kept ≡ length l.text) × ((i : ℕ) → i < l.place → get_or l.kept i 0 ≡ get_or l.text i 0)
