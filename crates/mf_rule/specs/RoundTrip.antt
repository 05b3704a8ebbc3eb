-- Rules and their texts: the words of the canonical text of a rule stand for just this rule, and what is read is a rule, within these bounds.
use Rattle.std.specs.Prelude.{◌≡◌, ◌≤◌, ◌<◌, IfSome, Ok}
use Rattle.std.specs.Int.{IsInRange}
use Rattle.std.specs.Str.{byte}
use Rattle.mf_labeltext.specs.Reading.{parts}
use Rattle.mf_rule.specs.declared.rule.TheConstants.{LAST_ID, ANY_TYPE}
use Rattle.mf_rule.specs.declared.rule.IdTest.{IdTest}
use Rattle.mf_rule.specs.declared.rule.Side.{Side}
use Rattle.mf_rule.specs.declared.rule.Rule.{Rule}
use Rattle.mf_rule.specs.Canonical.{rule_text}
use Rattle.mf_rule.specs.RuleGrammar.{IsRule}
use Rattle.mf_rule.specs.Parts.{Words}
use Rattle.mf_rule.specs.Reading.{rule_in}

-- a range of ids that there are
pub record IsRange (test : IdTest) : Type 0 where
  pub ordered : test.least ≤ test.greatest
  pub below : test.greatest ≤ LAST_ID

pub record AreRanges (side : Side) : Type 0 where
  pub uid : IfSome side.uid IsRange
  pub gid : IfSome side.gid IsRange

-- its tests of ids have ranges, its test of types has one type or more, and its letters are those of a mode
pub record IsInBounds (rule : Rule) : Type 0 where
  pub subject : AreRanges rule.subject
  pub object : AreRanges rule.object.side
  pub types : IfSome rule.object.types (λ test. IsInRange 1 ANY_TYPE test.types)
  pub mode : rule.mode < 32

-- The words of the canonical text of a rule in bounds, which blanks part, stand for the rule.
abbrev pub CanonicalTextStandsForItsRule : Type 0
CanonicalTextStandsForItsRule = (rule : Rule) → IsInBounds rule → rule_in (parts (byte " ") (rule_text rule)) ≡ Ok rule

-- What is read is a rule that words can stand for, and in bounds.
abbrev pub WhatIsReadIsARule : Type 0
WhatIsReadIsARule = (words : Words) (rule : Rule) → rule_in words ≡ Ok rule → IsRule rule × IsInBounds rule
