-- The parts of a rule as the grammar has them, each by a name of its own.
use Rattle.std.specs.Prelude.{Bool, codes}
use Rattle.mf_rule.specs.declared.rule.Side.{Side}
use Rattle.mf_rule.specs.declared.rule.ObjectSide.{ObjectSide}
use Rattle.mf_rule.specs.Parts.{Words, no_tests, no_object_tests}
use Rattle.mf_rule.specs.RuleGrammar as grammar
use Rattle.mf_rule.specs.RuleGrammar.{SpellsPart, SpellsIdTest, SpellsObjectTest}

-- `!` before what is turned
abbrev pub marked : Bool → Words → Words
marked turned words = grammar.marked (codes "!") turned words

-- a part, with `not` before its tests or without
abbrev pub with_not : Bool → Words → Words
with_not turned words = grammar.marked (codes "not") turned words

abbrev pub SpellsSubject : Words → Side → Type 0
SpellsSubject words side = SpellsPart SpellsIdTest side.not words (record no_tests { not = side.not }) side

abbrev pub SpellsObject : Words → ObjectSide → Type 0
SpellsObject words object =
    SpellsPart SpellsObjectTest object.side.not words (record no_object_tests { side = record no_tests { not = object.side.not } }) object
