use Rattle.std.proofs.Common.{◌≡◌, ◌≢◌, ℕ, ◌-◌, ◌<◌, ◌≤◌, length, get_or}
use Rattle.std.specs.declared.cmp.Ordering.TheVariants.{Less}
use Rattle.mf_flow.specs.declared.known.Numbered.{Numbered}
use Rattle.mf_flow.specs.Order.{elem_cmp}
use Rattle.mf_flow.proofs.known.place_of.Given as goal

abbrev pub invariant-loop-low : goal.invariant-loop-low
invariant-loop-low l =
    record {
      ordered : l.low ≤ l.high;
      within : l.high ≤ length l.items;
      less : (k : ℕ) (d : Numbered) → k < l.low → elem_cmp (get_or l.items k d).element l.element ≡ Less;
      not_less : (k : ℕ) (d : Numbered) → l.high ≤ k → k < length l.items → elem_cmp (get_or l.items k d).element l.element ≢ Less;
    }

abbrev pub decreases-loop-low : goal.decreases-loop-low
decreases-loop-low l = l.high - l.low
