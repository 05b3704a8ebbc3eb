use Rattle.std.proofs.Common.{◌≡◌, length}
use Rattle.mf_rule.specs.Words.{with_letters}
use Rattle.mf_rule.proofs.values.letter_bits.Given as goal

abbrev pub invariant-loop-rest : goal.invariant-loop-rest
invariant-loop-rest l = with_letters l.table l.bits l.rest ≡ with_letters l.table 0 l.letters

abbrev pub decreases-loop-rest : goal.decreases-loop-rest
decreases-loop-rest l = length l.rest
