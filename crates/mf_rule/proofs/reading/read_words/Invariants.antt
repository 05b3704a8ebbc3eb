use Rattle.std.proofs.Common.{◌≡◌, drop, map}
use Rattle.mf_rule.specs.Reading.{read_from, rule_in}
use Rattle.mf_rule.proofs.reading.read_words.Given as goal

abbrev pub invariant-loop-place : goal.invariant-loop-place
invariant-loop-place l = read_from l.place l.begun (map (λ word. word.now) (drop l.place l.words)) ≡ rule_in (map (λ word. word.now) l.words)
