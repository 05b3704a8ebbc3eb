-- Reading words one after another, in a list of borrowed texts.
use Rattle.std.proofs.Common.{◌≡◌, ℕ, ◌+◌, ◌<◌, ◌≤◌, List, length, drop, get_or, map, Bor, ap}
use Rattle.std.proofs.lemmas.List.{at_drop_more, drop_all}
use Rattle.mf_rule.specs.declared.rule.Rule.{Rule}
use Rattle.mf_rule.specs.declared.begun.Begun.{Begun}
use Rattle.mf_text.specs.Results.{and_then}
use Rattle.mf_rule.specs.Reading.{OrFault, with_word, whole, read_from}

abbrev pub texts : List (Bor (List ℕ)) → List (List ℕ)
texts words = map (λ word. word.now) words

-- one word read, and the others behind it
abbrev pub then_rest : ℕ → List (Bor (List ℕ)) → OrFault Begun → OrFault Rule
then_rest place words read = and_then read (λ more. read_from (place + 1) more (texts (drop (place + 1) words)))

pub read_more : (words : List (Bor (List ℕ))) (place : ℕ) (begun : Begun) (d : Bor (List ℕ)) → place < length words
    → read_from place begun (texts (drop place words)) ≡ then_rest place words (with_word place begun (get_or words place d).now)
unfolding read_from
read_more words place begun d within = at_drop_more (λ ws. read_from place begun (texts ws)) words place d within

pub read_end : (words : List (Bor (List ℕ))) (place : ℕ) (begun : Begun) → length words ≤ place → read_from place begun (texts (drop place words)) ≡ whole place begun.next begun.rule
unfolding read_from
read_end words place begun end = ap (λ ws. read_from place begun (texts ws)) (drop_all place words end)
