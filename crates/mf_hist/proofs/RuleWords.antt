-- The words of the canonical text of a rule are words of a history, and none of them is a semicolon.
use Rattle.std.proofs.Common.{◌≡◌, ℕ, Bool, true, false, not, ◌&&◌, List, [], ◌∷◌, refl}
use Rattle.std.specs.Prelude.{nat_eq}
use Rattle.std.specs.List.{AllByRecursion, list_all}
use Rattle.std.specs.Str.{bytes_eq}
use Rattle.mf_rule.specs.declared.rule.Rule.{Rule}
use Rattle.mf_rule.specs.RuleGrammar.{IsRule}
use Rattle.mf_rule.proofs.RuleWords.{IsPlainWord, is_word_byte, words_are_plain}
pub use Rattle.mf_rule.proofs.RuleWords.{words_of, words_behind_text}
use Rattle.mf_hist.proofs.Words.{is_graphic, AreWords, both}
use Rattle.mf_spelled.proofs.RuleTexts.{words_of_rule as rule_words}
use Rattle.mf_hist.proofs.Semicolons.{is_semicolon}

-- words that are none of them a semicolon
pub record AreRuleWords (ws : List (List ℕ)) : Type 0 where
  pub words : AreWords ws
  pub none : AllByRecursion (λ w. is_semicolon w ≡ false) ws

no_semicolon : (w : List ℕ) → list_all is_word_byte w ≡ true → is_semicolon w ≡ false
no_semicolon [] all = refl
no_semicolon (b ∷ w) all =
    let each = both (is_word_byte b) (list_all is_word_byte w) all in
    let other = (both (is_graphic b) (not (nat_eq b 59)) each.0).1 in
    by_test (nat_eq b 59) other where
      by_test : (t : Bool) → not t ≡ true → (t && bytes_eq w []) ≡ false
      by_test true e = absurd cc
      by_test false e = refl

no_semicolons : (ws : List (List ℕ)) → AllByRecursion IsPlainWord ws → AllByRecursion (λ w. is_semicolon w ≡ false) ws
no_semicolons [] plain = tt
no_semicolons (w ∷ ws) plain = (no_semicolon w plain.0, no_semicolons ws plain.1)

pub words_of_rule : (rule : Rule) → IsRule rule → AreRuleWords (words_of rule)
words_of_rule rule fits = record { words = rule_words rule fits; none = no_semicolons (words_of rule) (words_are_plain rule fits) }
