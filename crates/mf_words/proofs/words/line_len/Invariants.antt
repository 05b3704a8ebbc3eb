use Rattle.std.proofs.Common.{◌≡◌, ◌+◌, drop}
use Rattle.mf_words.specs.Ends.{line_end}
use Rattle.mf_words.proofs.words.line_len.Given as goal

abbrev pub invariant-loop-i : goal.invariant-loop-i
invariant-loop-i l = line_end l.bytes ≡ l.i + line_end (drop l.i l.bytes)
