use Rattle.std.proofs.Common.{◌≡◌, ◌+◌, drop}
use Rattle.mf_words.specs.Ends.{word_end}
use Rattle.mf_words.proofs.words.word_len.Given as goal

abbrev pub invariant-loop-i : goal.invariant-loop-i
invariant-loop-i l = word_end l.bytes ≡ l.i + word_end (drop l.i l.bytes)
