-- Reading the words of a rule from left to right: the rule, or the first fault, with the number of its word, from 0. By what may come
-- next, each word either fits or is a fault; where the words end too early, the fault is that the next one is missing.
--
-- ugidfw(8) says which words are rules; which fault a list of words has is this model's own choice.
use Rattle.std.specs.Prelude.{ℕ, ◌+◌, Bool, true, false, not, List, [], ◌∷◌, Option, Some, is_some, Result, Ok, Err, codes, if◌then◌else◌}
use Rattle.std.specs.Option.{ok_or}
use Rattle.std.specs.Str.{bytes_eq}
use Rattle.mf_text.specs.Results.{and_then, ◌>>=◌}
use Rattle.mf_rule.specs.Words.{id_range_in, mode_in, types_in}
use Rattle.mf_rule.specs.Parts.{Words, no_tests, no_object_tests}
use Rattle.mf_rule.specs.declared.rule.IdTest.{IdTest}
use Rattle.mf_rule.specs.declared.rule.Side.{Side}
use Rattle.mf_rule.specs.declared.rule.Rule.{Rule}
use Rattle.mf_rule.specs.declared.begun.Part.{Part}
use Rattle.mf_rule.specs.declared.begun.Part.TheVariants.{Subject, Object}
use Rattle.mf_rule.specs.declared.begun.Next.{Next}
use Rattle.mf_rule.specs.declared.begun.Next.TheVariants as next
use Rattle.mf_rule.specs.declared.begun.Begun.{Begun}
use Rattle.mf_rule.specs.declared.fault.RuleFault.{RuleFault}
use Rattle.mf_rule.specs.declared.fault.RuleFault.TheVariants.{UnknownWord, Missing, BadRange, BadMode, BadType}

-- what is read, or a fault
abbrev pub OrFault : Type 0 → Type 0
OrFault A = Result A RuleFault

-- this comes next, and the rule so far is this
abbrev pub reads_on : Next → Rule → OrFault Begun
reads_on what rule = Ok (record { next = what; rule = rule })

abbrev pub no_rule : Rule
no_rule = record { subject = no_tests; object = no_object_tests; mode = 0 }

abbrev pub nothing_read : Begun
nothing_read = record { next = next.Start; rule = no_rule }

-- the ids and the `not` of a part
abbrev pub side_of : Part → Rule → Side
side_of Subject rule = rule.subject
side_of Object rule = rule.object.side

abbrev pub with_side : Part → Rule → Side → Rule
with_side Subject rule side = record rule { subject = side }
with_side Object rule side = record rule { object = record rule.object { side = side } }

abbrev pub with_not : Part → Rule → Rule
with_not part rule = with_side part rule (record (side_of part rule) { not = true })

-- the word that ends a part, and what comes behind it
abbrev pub closing_word : Part → List ℕ
closing_word Subject = codes "object"
closing_word Object = codes "mode"

abbrev pub behind : Part → Next
behind Subject = next.First Object
behind Object = next.Letters

-- a test stands only once in its part
abbrev pub once : {A : Type 0} → ℕ → Option A → OrFault Begun → OrFault Begun
once place test more = if is_some test then Err (UnknownWord place) else more

-- a file test without a value
abbrev pub flagged : Rule → OrFault Begun
flagged rule = reads_on (next.Test Object) rule

-- the name of a test that only an object has
unfoldable pub file_test : ℕ → Bool → Rule → List ℕ → OrFault Begun
file_test place turned rule w =
    if bytes_eq w (codes "suid") then once place rule.object.suid (flagged (record rule { object = record rule.object { suid = Some (not turned) } }))
    else if bytes_eq w (codes "sgid") then once place rule.object.sgid (flagged (record rule { object = record rule.object { sgid = Some (not turned) } }))
    else if bytes_eq w (codes "uid_of_subject") then once place rule.object.uid_of_subject (flagged (record rule { object = record rule.object { uid_of_subject = Some (not turned) } }))
    else if bytes_eq w (codes "gid_of_subject") then once place rule.object.gid_of_subject (flagged (record rule { object = record rule.object { gid_of_subject = Some (not turned) } }))
    else if bytes_eq w (codes "type") then once place rule.object.types (reads_on (next.Types turned) rule)
    else Err (UnknownWord place)

abbrev pub other_test : Part → ℕ → Bool → Rule → List ℕ → OrFault Begun
other_test Subject place turned rule w = Err (UnknownWord place)
other_test Object place turned rule w = file_test place turned rule w

-- the name of a test
unfoldable pub test_named : ℕ → Part → Bool → Rule → List ℕ → OrFault Begun
test_named place part turned rule w =
    if bytes_eq w (codes "uid") then once place (side_of part rule).uid (reads_on (next.Uid part turned) rule)
    else if bytes_eq w (codes "gid") then once place (side_of part rule).gid (reads_on (next.Gid part turned) rule)
    else other_test part place turned rule w

-- `!`, the name of a test, or the word that ends the part
unfoldable pub tested : ℕ → Part → Rule → List ℕ → OrFault Begun
tested place part rule w =
    if bytes_eq w (codes "!") then reads_on (next.Name part) rule
    else if bytes_eq w (closing_word part) then reads_on (behind part) rule
    else test_named place part false rule w

-- the value of a test, where the word is one
abbrev pub by_value : {A : Type 0} → RuleFault → Option A → (A → OrFault Begun) → OrFault Begun
by_value fault value more = and_then (ok_or value fault) more

abbrev pub id_test : Bool → ℕ × ℕ → IdTest
id_test turned ends = record { not = turned; least = ends.0; greatest = ends.1 }

-- the rule so far with the word at a place added, by what has to come next
unfoldable pub fitted : ℕ → Next → Rule → List ℕ → OrFault Begun
fitted place next.Start rule w = if bytes_eq w (codes "subject") then reads_on (next.First Subject) rule else Err (UnknownWord place)
fitted place (next.First part) rule w = if bytes_eq w (codes "not") then reads_on (next.Test part) (with_not part rule) else tested place part rule w
fitted place (next.Test part) rule w = tested place part rule w
fitted place (next.Name part) rule w = test_named place part true rule w
fitted place (next.Uid part turned) rule w =
    by_value (BadRange place) (id_range_in w) (λ ends. reads_on (next.Test part) (with_side part rule (record (side_of part rule) { uid = Some (id_test turned ends) })))
fitted place (next.Gid part turned) rule w =
    by_value (BadRange place) (id_range_in w) (λ ends. reads_on (next.Test part) (with_side part rule (record (side_of part rule) { gid = Some (id_test turned ends) })))
fitted place (next.Types turned) rule w =
    by_value (BadType place) (types_in w) (λ types. reads_on (next.Test Object) (record rule { object = record rule.object { types = Some (record { not = turned; types = types }) } }))
fitted place next.Letters rule w = by_value (BadMode place) (mode_in w) (λ mode. reads_on next.End (record rule { mode = mode }))
fitted place next.End rule w = Err (UnknownWord place)

abbrev pub with_word : ℕ → Begun → List ℕ → OrFault Begun
with_word place begun w = fitted place begun.next begun.rule w

-- the rule, where it is whole
abbrev pub whole : ℕ → Next → Rule → OrFault Rule
whole place next.End rule = Ok rule
whole place other rule = Err (Missing place)

-- the rule so far, and the words from a place on
unfoldable pub read_from : ℕ → Begun → Words → OrFault Rule
read_from place begun [] = whole place begun.next begun.rule
read_from place begun (w ∷ ws) = with_word place begun w >>= λ more. read_from (place + 1) more ws

-- the rule that the words stand for, or their first fault
unfoldable pub rule_in : Words → OrFault Rule
rule_in words = read_from 0 nothing_read words
