use Rattle.std.proofs.Common.{◌≡◌, ℕ, ◌/◌, ◌<◌, get_or}
use Rattle.mf_elem.proofs.comps.has_from.Given as goal

abbrev pub invariant-loop-k : goal.invariant-loop-k
invariant-loop-k l = (j : ℕ) → l.place / 64 < j → j < l.k → get_or l.words j 0 ≡ 0
