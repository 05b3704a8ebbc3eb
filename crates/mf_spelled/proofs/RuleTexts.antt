-- The words of the canonical text of a rule are words of a script.
use Rattle.std.proofs.Common.{◌≡◌, ℕ, true, not, List, [], ◌∷◌}
use Rattle.std.specs.Prelude.{nat_eq}
use Rattle.std.specs.Char.{is_ascii_graphic}
use Rattle.std.specs.List.{AllByRecursion, list_all}
use Rattle.mf_rule.specs.declared.rule.Rule.{Rule}
use Rattle.mf_rule.specs.RuleGrammar.{IsRule}
use Rattle.mf_rule.proofs.RuleWords.{IsPlainWord, is_word_byte, words_are_plain, words_are_some}
pub use Rattle.mf_rule.proofs.RuleWords.{words_of, words_behind_text}
use Rattle.mf_calls.specs.Names.{is_some_text}
use Rattle.mf_spelled.proofs.WordTexts.{AreWords, all_map, both, join}

graphic_byte : (b : ℕ) → is_word_byte b ≡ true → is_ascii_graphic b ≡ true
graphic_byte b is = (both (is_ascii_graphic b) (not (nat_eq b 59)) is).0

rule_words : (ws : List (List ℕ)) → AllByRecursion IsPlainWord ws → AllByRecursion (λ w. is_some_text w ≡ true) ws → AreWords ws
rule_words [] plain some = tt
rule_words (w ∷ ws) plain some =
    (join (is_some_text w) (list_all is_ascii_graphic w) some.0 (all_map is_word_byte is_ascii_graphic w graphic_byte plain.0), rule_words ws plain.1 some.1)

pub words_of_rule : (rule : Rule) → IsRule rule → AreWords (words_of rule)
words_of_rule rule fits = rule_words (words_of rule) (words_are_plain rule fits) (words_are_some rule fits)
