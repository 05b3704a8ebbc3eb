use Rattle.std.proofs.Common.{◌≡◌, ℕ, ◌<◌, ◌≤◌, length, get_or, bit_or}
use Rattle.mf_flow.proofs.bits.Bits.add_all.Given as goal

abbrev pub invariant-loop-k : goal.invariant-loop-k
invariant-loop-k l =
    record {
      room : length l.other ≤ length l.self;
      done : (j : ℕ) → j < l.k → get_or l.self j 0 ≡ bit_or (get_or l.fn.self j 0) (get_or l.other j 0);
      left : (j : ℕ) → l.k ≤ j → get_or l.self j 0 ≡ get_or l.fn.self j 0;
    }
