use Rattle.std.proofs.Common.{◌≡◌, ◌≤◌, ◌<◌, ℕ, ◌-◌, false}
use Rattle.mf_objects.proofs.Numbers.{is_free}
use Rattle.mf_parties.proofs.parties.reading.lowest_free.Given as goal

abbrev pub invariant-loop-number : goal.invariant-loop-number
invariant-loop-number l = (l.number ≤ 16) × ((k : ℕ) → k < l.number → is_free l.files k ≡ false)

abbrev pub decreases-loop-number : goal.decreases-loop-number
decreases-loop-number l = 16 - l.number
