use Rattle.std.proofs.Common.{◌≡◌, ◌≤◌, length}
use Rattle.std.specs.Str.{IsAscii}
use Rattle.mf_words.specs.Words.{words_in}
use Rattle.mf_words.proofs.words.skip_blanks.Given as goal

abbrev pub invariant-loop-rest : goal.invariant-loop-rest
invariant-loop-rest l = record {
  words : words_in l.rest ≡ words_in l.bytes;
  ascii : IsAscii l.bytes → IsAscii l.rest;
  most : length l.rest ≤ length l.bytes;
}

abbrev pub decreases-loop-rest : goal.decreases-loop-rest
decreases-loop-rest l = length l.rest
