use Rattle.std.proofs.Common.{◌≡◌, ◌+◌, ◌-◌, ℕ, length}
use Rattle.mf_chains.specs.Marks.{set_at}
use Rattle.mf_chains.proofs.marks.reach.Given as goal

abbrev pub invariant-loop-alloc : goal.invariant-loop-alloc
invariant-loop-alloc l = (n : ℕ) → set_at l.sets.items n ≡ set_at l.initial.sets.items n

abbrev pub decreases-loop-alloc : goal.decreases-loop-alloc
decreases-loop-alloc l = (l.place + 1) - length l.sets.items
