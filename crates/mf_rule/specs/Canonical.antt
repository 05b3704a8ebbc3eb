-- The canonical text of a rule: the tests in the order of the grammar, one id where both ends of a range are one, and each letter once in a
-- fixed order; `a` stands for all types, and `n` for no letter of a mode.
--
-- The words are those of ugidfw(8); that there is one text for each rule, and which, is this model's own choice.
use Rattle.std.specs.Prelude.{ℕ, Bool, not, List, [], ◌∷◌, ◌++◌, Option, codes, ◌==◌, if◌then◌else◌}
use Rattle.std.specs.List.{flat_map}
use Rattle.std.specs.Option.{option_map_or}
use Rattle.std.specs.Fmt.{decimal}
use Rattle.std.specs.Str.{byte}
use Rattle.std.specs.Int.RustNames.{bit_and}
use Rattle.mf_rule.specs.Words.{mode_letters, type_letters}
use Rattle.mf_rule.specs.declared.rule.IdTest.{IdTest}
use Rattle.mf_rule.specs.declared.rule.TypeTest.{TypeTest}
use Rattle.mf_rule.specs.declared.rule.Side.{Side}
use Rattle.mf_rule.specs.declared.rule.ObjectSide.{ObjectSide}
use Rattle.mf_rule.specs.declared.rule.Rule.{Rule}

abbrev pub not_text : Bool → List ℕ
not_text turned = if turned then codes " not" else []

abbrev pub mark_text : Bool → List ℕ
mark_text turned = if turned then codes " !" else []

-- one id, or two with a colon between them
abbrev pub id_range_text : ℕ → ℕ → List ℕ
id_range_text least greatest = if least == greatest then decimal least else decimal least ++ byte ":" ∷ decimal greatest

abbrev pub id_text : List ℕ → Option IdTest → List ℕ
id_text name test = option_map_or (λ test. mark_text test.not ++ (name ++ id_range_text test.least test.greatest)) test []

abbrev pub flag_text : List ℕ → Option Bool → List ℕ
flag_text name wanted = option_map_or (λ wanted. mark_text (not wanted) ++ name) wanted []

-- a letter, where its bit is set
abbrev pub letter_text : ℕ → ℕ × ℕ → List ℕ
letter_text bits row = if bit_and bits row.1 == 0 then [] else row.0 ∷ []

-- the first letter, where the bits are just its own, else each other one of which the bit is set
abbrev pub letters_text : List (ℕ × ℕ) → ℕ → List ℕ
letters_text [] bits = []
letters_text (whole ∷ others) bits = if bits == whole.1 then whole.0 ∷ [] else flat_map (letter_text bits) others

abbrev pub types_text : Option TypeTest → List ℕ
types_text test = option_map_or (λ test. mark_text test.not ++ (codes " type " ++ letters_text type_letters test.types)) test []

abbrev pub side_text : Side → List ℕ
side_text side = not_text side.not ++ (id_text (codes " uid ") side.uid ++ id_text (codes " gid ") side.gid)

abbrev pub flags_text : ObjectSide → List ℕ
flags_text object =
    flag_text (codes " suid") object.suid ++ (flag_text (codes " sgid") object.sgid
    ++ (flag_text (codes " uid_of_subject") object.uid_of_subject ++ flag_text (codes " gid_of_subject") object.gid_of_subject))

abbrev pub object_text : ObjectSide → List ℕ
object_text object = side_text object.side ++ (flags_text object ++ types_text object.types)

unfoldable pub rule_text : Rule → List ℕ
rule_text rule =
    (codes "subject" ++ side_text rule.subject) ++ ((codes " object" ++ object_text rule.object) ++ (codes " mode " ++ letters_text mode_letters rule.mode))
