-- The canonical text of scripts: of each script that can be spelled one text. Which one is this model's own.
use Rattle.std.specs.Prelude.{◌≡◌, ◌≢◌, ℕ, Bool, true, false, IsTrue, List, [], ◌∷◌, ◌++◌, Option, Some, None, option_map, All, codes}
use Rattle.std.specs.List.{flat_map}
use Rattle.std.specs.Fmt.{decimal, digits}
use Rattle.std.specs.Str.{byte}
use Rattle.mf_errno.specs.declared.module.Module.{Module}
use Rattle.mf_errno.specs.declared.module.Module.TheVariants.{Biba, Mls, Lomac, Partition}
use Rattle.mf_elem.specs.Label.{element_alone}
use Rattle.mf_elem.specs.declared.label.LabelValue.{LabelValue}
use Rattle.mf_elem.specs.declared.label.LabelValue.TheVariants.{Range, Number}
use Rattle.mf_elem.specs.declared.label.RangeLabel.{RangeLabel}
use Rattle.mf_elem.specs.declared.label.Request.{Request}
use Rattle.mf_text.specs.Escape.{escaped}
use Rattle.mf_labeltext.specs.Canonical.{canonical_label}
use Rattle.mf_rule.specs.Canonical.{rule_text}
use Rattle.mf_calls.specs.Boots.{is_booted}
use Rattle.mf_calls.specs.declared.script.Call.{Call}
use Rattle.mf_calls.specs.declared.script.Call.TheVariants as call
use Rattle.mf_calls.specs.declared.script.Line.{Line}
use Rattle.mf_calls.specs.declared.script.Step.{Step}
use Rattle.mf_calls.specs.declared.script.Task.{Task}
use Rattle.mf_calls.specs.declared.script.Script.{Script}
use Rattle.mf_spelling.specs.Spelling.{Piece, Word, Decimal, Octal, Groups, Text, Setting, Label, Rules, Pieces, boot_pieces, tunable_pieces, file_pieces, task_pieces, line_pieces, step_pieces}

-- The words of a piece

-- the digits of a number in base 8
abbrev pub octal : ℕ → List ℕ
octal n = digits 8 false n

-- numbers with a comma between each two
abbrev pub groups_text : List ℕ → List ℕ
groups_text [] = []
groups_text (group ∷ groups) = decimal group ++ flat_map (λ next. byte "," ∷ decimal next) groups

abbrev pub range_part : Module → Option RangeLabel → List (Module × LabelValue)
range_part m None = []
range_part m (Some label) = (m, Range label) ∷ []

abbrev pub number_part : Option ℕ → List (Module × LabelValue)
number_part None = []
number_part (Some n) = (Partition, Number n) ∷ []

-- the parts of a label that a request asks for
abbrev pub parts_asked : Request → List (Module × LabelValue)
parts_asked request = range_part Biba request.biba ++ range_part Mls request.mls ++ range_part Lomac (option_map element_alone request.lomac) ++ number_part request.partition

-- the word of a piece; of a rule its words
abbrev pub piece_text : Piece → List ℕ
piece_text (Word w) = w
piece_text (Decimal most n) = decimal n
piece_text (Octal n) = octal n
piece_text (Groups groups) = groups_text groups
piece_text (Text bytes) = escaped bytes
piece_text (Setting name value) = name ++ byte "=" ∷ value
piece_text (Label request) = canonical_label (parts_asked request)
piece_text (Rules rule) = rule_text rule

-- Lines: their words with a space between each two

-- a space before each
abbrev pub words_behind : Pieces → List ℕ
words_behind [] = []
words_behind (piece ∷ pieces) = byte " " ∷ piece_text piece ++ words_behind pieces

abbrev pub words_text : Pieces → List ℕ
words_text [] = []
words_text (piece ∷ pieces) = piece_text piece ++ words_behind pieces

abbrev pub line_text : Pieces → List ℕ
line_text pieces = words_text pieces ++ byte "\n" ∷ []

-- The script line by line; with its tunable off it has no line of that, and without steps none of them

abbrev pub lines_text : {A : Type 0} → (A → Pieces) → List A → List ℕ
lines_text pieces items = flat_map (λ item. line_text (pieces item)) items

abbrev pub tunable_text : Bool → List ℕ
tunable_text true = line_text (tunable_pieces true)
tunable_text false = []

abbrev pub task_text : Task → List ℕ
task_text task = line_text (task_pieces task) ++ lines_text line_pieces task.lines ++ codes "end\n"

abbrev pub steps_text : List Step → List ℕ
steps_text [] = []
steps_text (step ∷ steps) = codes "steps\n" ++ lines_text step_pieces (step ∷ steps) ++ codes "end\n"

-- the canonical text of a script
abbrev pub script_text : Script → List ℕ
script_text s =
    lines_text boot_pieces s.boots ++ tunable_text s.revocation ++ lines_text file_pieces s.files ++ flat_map task_text s.tasks ++ steps_text s.steps

-- Which scripts can be spelled

-- No word stands for no byte, and a setting's word is parted at its first equals sign.
abbrev pub IsSpellableCall : Call → Type 0
IsSpellableCall (call.Write path text) = text ≢ []
IsSpellableCall (call.Fwrite n text) = text ≢ []
IsSpellableCall (call.Pwrite name text) = text ≢ []
IsSpellableCall (call.Send from to text) = text ≢ []
IsSpellableCall (call.Sysctl name value) = All (λ b. b ≢ byte "=") name
IsSpellableCall other = Unit {0}

-- Only a script that boots mac_biba sets the tunable.
pub record IsSpellable (s : Script) : Type 0 where
  pub tunable : s.revocation ≡ true → IsTrue (is_booted s.boots Biba)
  pub calls : All (λ (task : Task). All (λ (line : Line). IsSpellableCall line.call) task.lines) s.tasks
