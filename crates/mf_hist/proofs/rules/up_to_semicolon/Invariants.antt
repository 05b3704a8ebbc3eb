use Rattle.std.proofs.Common.{◌≡◌, ◌++◌, length, map}
use Rattle.std.specs.Prelude.{All, false}
use Rattle.mf_hist.proofs.Semicolons.{is_semicolon}
use Rattle.mf_hist.proofs.rules.up_to_semicolon.Given as goal

abbrev pub invariant-loop-word : goal.invariant-loop-word
invariant-loop-word l = record {
  words : l.fn.words ≡ map (λ word. word.now) l.front.items ++ l.words;
  none : All (λ w. is_semicolon w ≡ false) (map (λ word. word.now) l.front.items);
}

abbrev pub decreases-loop-word : goal.decreases-loop-word
decreases-loop-word l = length l.words
