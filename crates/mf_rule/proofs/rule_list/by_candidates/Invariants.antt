use Rattle.std.proofs.Common.{◌≡◌, ◌+◌, ◌<◌, ℕ, true, false, None, length, slice_index_or}
use Rattle.mf_rule.specs.RuleBits.{has_bit}
use Rattle.mf_rule.proofs.Candidates.{decision}
use Rattle.mf_rule.proofs.rule_list.by_candidates.Given as goal

abbrev pub invariant-loop-number : goal.invariant-loop-number
invariant-loop-number l = record {
  within : (n : ℕ) → n < 256 → has_bit n l.candidates ≡ true → n < length l.slots;
  done : (n : ℕ) → n < 256 → has_bit n l.candidates ≡ false → decision l.first_match l.cred l.file l.wanted (slice_index_or l.slots n None) ≡ None;
}

abbrev pub decreases-loop-number : goal.decreases-loop-number
decreases-loop-number l = l.candidates.low + l.candidates.high
