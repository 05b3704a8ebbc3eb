-- Scripts as they are spelled: each line as pieces, and which words spell a piece, as docs/MANUAL.md (THE SCRIPT) has them.
use Rattle.std.specs.Prelude.{◌≡◌, ℕ, ◌⊎◌, ◌-◌, ◌||◌, true, false, not, IsTrue, if◌then◌else◌, Bool, List, [], ◌∷◌, ◌++◌, map, Ok, Some, codes}
use Rattle.std.specs.List.{AllZip, filter, flat_map, list_all, join_with_byte}
use Rattle.std.specs.Option.{option_map_or}
use Rattle.std.specs.Char.{is_ascii_graphic}
use Rattle.std.specs.Str.{byte}
use Rattle.mf_errno.specs.Names.{module_text}
use Rattle.mf_errno.specs.Privilege.{privilege_text}
use Rattle.mf_errno.specs.declared.module.Module.{Module}
use Rattle.mf_errno.specs.declared.module.Module.TheVariants.{Biba}
use Rattle.mf_elem.specs.declared.label.Request.{Request}
use Rattle.mf_elem.specs.Label.{no_request}
use Rattle.mf_text.specs.Number.{number_in}
use Rattle.mf_text.specs.Escape.{bytes_of}
use Rattle.mf_labeltext.specs.Reading.{parts, cut, request_in}
use Rattle.mf_rule.specs.declared.rule.Rule.{Rule}
use Rattle.mf_rule.specs.declared.rule_list.TheConstants.{MAX_RULES}
use Rattle.mf_rule.specs.declared.ports.TheConstants.{LAST_PORT}
use Rattle.mf_rule.specs.RuleGrammar as rule
use Rattle.mf_words.specs.Words.{Words, words_in, lines_in, is_blank, is_comment}
use Rattle.mf_names.specs.declared.limits.TheConstants.{MOST_DESCRIPTORS}
use Rattle.mf_calls.specs.Boots.{is_booted}
use Rattle.mf_calls.specs.Tunable.{revocation_name}
use Rattle.mf_calls.specs.declared.limits.TheConstants.{UID_MAX, MODE_LIMIT}
use Rattle.mf_calls.specs.declared.script.Call.{Call}
use Rattle.mf_calls.specs.declared.script.Call.TheVariants as call
use Rattle.mf_calls.specs.declared.script.Line.{Line}
use Rattle.mf_calls.specs.declared.script.Task.{Task}
use Rattle.mf_calls.specs.declared.script.FileLine.{FileLine}
use Rattle.mf_calls.specs.declared.script.Step.{Step}
use Rattle.mf_calls.specs.declared.script.StepKind.{StepKind}
use Rattle.mf_calls.specs.declared.script.StepKind.TheVariants as step
use Rattle.mf_calls.specs.declared.script.Script.{Script}

-- what one word of a line stands for, or the words of a rule, which are the last of their line
pub data Piece : Type 0 where
  Word : (w : List ℕ) → Piece
  Decimal : (most n : ℕ) → Piece
  Octal : (n : ℕ) → Piece
  Groups : (groups : List ℕ) → Piece
  Text : (bytes : List ℕ) → Piece
  Setting : (name value : List ℕ) → Piece
  Label : (request : Request) → Piece
  Rules : (rule : Rule) → Piece

abbrev pub Pieces : Type 0
Pieces = List Piece

-- a slash before each component, or a slash alone
abbrev pub path : List (List ℕ) → Piece
path names = Word (byte "/" ∷ join_with_byte (byte "/") names)

abbrev pub is_line_byte : ℕ → Bool
is_line_byte b = is_blank b || is_ascii_graphic b

-- Which words spell what

-- the word spells the piece; `-` asks for nothing, and else a label text of maclabel(7) says what is asked for
abbrev pub Spells : List ℕ → Piece → Type 0
Spells w (Word v) = w ≡ v
Spells w (Decimal most n) = number_in 10 0 most w ≡ Ok n
Spells w (Octal n) = number_in 8 0 MODE_LIMIT w ≡ Ok n
Spells w (Groups groups) = map (number_in 10 0 UID_MAX) (parts (byte ",") w) ≡ map Ok groups
Spells w (Text bytes) = bytes_of w ≡ Ok bytes
Spells w (Setting name value) = cut (byte "=") w ≡ Some (name, value)
Spells w (Label request) = ((w ≡ codes "-") × (request ≡ no_request)) ⊎ (request_in w ≡ Ok request)
Spells w (Rules r) = ⊥

abbrev pub SpellLine : Words → Pieces → Type 0
SpellLine [] [] = Unit {0}
SpellLine (w ∷ ws) (Rules r ∷ []) = rule.SpellsRule (w ∷ ws) r
SpellLine (w ∷ ws) (piece ∷ pieces) = Spells w piece × SpellLine ws pieces
SpellLine ws pieces = ⊥

-- The pieces of each line

-- how a file is opened: `r` for reading, `w` for writing
abbrev pub open_mode : Bool → Bool → List ℕ
open_mode read write = (if read then codes "r" else []) ++ (if write then codes "w" else [])

-- the protocol of a port
abbrev pub protocol : Bool → List ℕ
protocol tcp = if tcp then codes "tcp" else codes "udp"

abbrev pub call_pieces : Call → Pieces
call_pieces (call.Fork child) = Word (codes "fork") ∷ Word child ∷ []
call_pieces call.Exit = Word (codes "exit") ∷ []
call_pieces (call.See process) = Word (codes "see") ∷ Word process ∷ []
call_pieces (call.Signal process) = Word (codes "signal") ∷ Word process ∷ []
call_pieces (call.Debug process) = Word (codes "debug") ∷ Word process ∷ []
call_pieces (call.Sched process) = Word (codes "sched") ∷ Word process ∷ []
call_pieces (call.Priv privilege) = Word (codes "priv") ∷ Word (privilege_text privilege) ∷ []
call_pieces call.Getpmac = Word (codes "getpmac") ∷ []
call_pieces (call.Setpmac label) = Word (codes "setpmac") ∷ Word label ∷ []
call_pieces (call.Exec p) = Word (codes "exec") ∷ path p ∷ []
call_pieces (call.Create p) = Word (codes "create") ∷ path p ∷ []
call_pieces (call.Mkdir p) = Word (codes "mkdir") ∷ path p ∷ []
call_pieces (call.Read p) = Word (codes "read") ∷ path p ∷ []
call_pieces (call.Write p text) = Word (codes "write") ∷ path p ∷ Text text ∷ []
call_pieces (call.Stat p) = Word (codes "stat") ∷ path p ∷ []
call_pieces (call.Getfmac p) = Word (codes "getfmac") ∷ path p ∷ []
call_pieces (call.Setfmac label p) = Word (codes "setfmac") ∷ Word label ∷ path p ∷ []
call_pieces (call.Readdir p) = Word (codes "readdir") ∷ path p ∷ []
call_pieces (call.Chmod p mode) = Word (codes "chmod") ∷ path p ∷ Octal mode ∷ []
call_pieces (call.Unlink p) = Word (codes "unlink") ∷ path p ∷ []
call_pieces (call.OpenFd p read write) = Word (codes "open") ∷ path p ∷ Word (open_mode read write) ∷ []
call_pieces (call.Fread n) = Word (codes "fread") ∷ Decimal (MOST_DESCRIPTORS - 1) n ∷ []
call_pieces (call.Fwrite n text) = Word (codes "fwrite") ∷ Decimal (MOST_DESCRIPTORS - 1) n ∷ Text text ∷ []
call_pieces (call.Close n) = Word (codes "close") ∷ Decimal (MOST_DESCRIPTORS - 1) n ∷ []
call_pieces (call.Pipe name) = Word (codes "pipe") ∷ Word name ∷ []
call_pieces (call.Socket name) = Word (codes "socket") ∷ Word name ∷ []
call_pieces (call.Pread name) = Word (codes "pread") ∷ Word name ∷ []
call_pieces (call.Pwrite name text) = Word (codes "pwrite") ∷ Word name ∷ Text text ∷ []
call_pieces (call.Pstat name) = Word (codes "pstat") ∷ Word name ∷ []
call_pieces (call.Setpipemac label name) = Word (codes "setpipemac") ∷ Word label ∷ Word name ∷ []
call_pieces (call.Send from to text) = Word (codes "send") ∷ Word from ∷ Word to ∷ Text text ∷ []
call_pieces (call.Recv name) = Word (codes "recv") ∷ Word name ∷ []
call_pieces (call.Seesock name) = Word (codes "seesock") ∷ Word name ∷ []
call_pieces (call.Setsockmac label name) = Word (codes "setsockmac") ∷ Word label ∷ Word name ∷ []
call_pieces (call.Bind name tcp port) = Word (codes "bind") ∷ Word name ∷ Word (protocol tcp) ∷ Decimal LAST_PORT port ∷ []
call_pieces call.Kldstat = Word (codes "kldstat") ∷ []
call_pieces (call.Kldload name) = Word (codes "kldload") ∷ Word name ∷ []
call_pieces (call.Kldunload name) = Word (codes "kldunload") ∷ Word name ∷ []
call_pieces (call.Sysctl name value) = Word (codes "sysctl") ∷ Setting name value ∷ []
call_pieces call.UgidfwList = Word (codes "ugidfw") ∷ Word (codes "list") ∷ []
call_pieces (call.UgidfwAdd rule) = Word (codes "ugidfw") ∷ Word (codes "add") ∷ Rules rule ∷ []
call_pieces (call.UgidfwSet n rule) = Word (codes "ugidfw") ∷ Word (codes "set") ∷ Decimal (MAX_RULES - 1) n ∷ Rules rule ∷ []
call_pieces (call.UgidfwRemove n) = Word (codes "ugidfw") ∷ Word (codes "remove") ∷ Decimal (MAX_RULES - 1) n ∷ []

abbrev pub line_pieces : Line → Pieces
line_pieces line = option_map_or (λ child. Word (codes "@" ++ child) ∷ call_pieces line.call) line.child (call_pieces line.call)

abbrev pub boot_pieces : Module → Pieces
boot_pieces m = Word (codes "boot") ∷ Word (module_text m) ∷ []

-- off or on
abbrev pub switch_word : Bool → List ℕ
switch_word true = codes "1"
switch_word false = codes "0"

abbrev pub tunable_pieces : Bool → Pieces
tunable_pieces revocation = Word (codes "tunable") ∷ Setting revocation_name (switch_word revocation) ∷ []

-- only a text that has some byte is given
abbrev pub text_pieces : List ℕ → Pieces
text_pieces [] = []
text_pieces (b ∷ bytes) = Word (codes "text") ∷ Text (b ∷ bytes) ∷ []

abbrev pub file_pieces : FileLine → Pieces
file_pieces f =
    Word (codes "file") ∷ path f.path ∷ Word (if f.file.dir then codes "dir" else codes "reg")
    ∷ Word (codes "uid") ∷ Decimal UID_MAX f.file.uid ∷ Word (codes "gid") ∷ Decimal UID_MAX f.file.gid
    ∷ Word (codes "mode") ∷ Octal f.file.mode ∷ Word (codes "label") ∷ Label f.label ∷ text_pieces f.text

abbrev pub task_pieces : Task → Pieces
task_pieces t =
    Word (codes "task") ∷ Word t.name ∷ Word (codes "uid") ∷ Decimal UID_MAX t.cred.uid
    ∷ Word (codes "gid") ∷ Groups t.cred.groups ∷ Word (codes "label") ∷ Label t.label ∷ []

abbrev pub step_word : StepKind → List ℕ
step_word step.Enter = codes "enter"
step_word step.Plan = codes "plan"
step_word step.Done = codes "done"
step_word step.Leave = codes "leave"
step_word step.Change = codes "change"

abbrev pub step_pieces : Step → Pieces
step_pieces x = Word (step_word x.kind) ∷ Word x.task ∷ []

-- The lines of a script

abbrev pub task_rows : Task → List Pieces
task_rows t = task_pieces t ∷ map line_pieces t.lines ++ (Word (codes "end") ∷ []) ∷ []

abbrev pub step_rows : List Step → List Pieces
step_rows steps = (Word (codes "steps") ∷ []) ∷ map step_pieces steps ++ (Word (codes "end") ∷ []) ∷ []

-- the line of the tunable, which only a script that boots mac_biba has, and which may be left out where the tunable is off
abbrev pub SayTunable : Script → List Pieces → Type 0
SayTunable s rows = ((rows ≡ tunable_pieces s.revocation ∷ []) × IsTrue (is_booted s.boots Biba)) ⊎ ((rows ≡ []) × (s.revocation ≡ false))

-- the lines of the steps, which may be left out where there are none
abbrev pub SaySteps : List Step → List Pieces → Type 0
SaySteps steps rows = (rows ≡ step_rows steps) ⊎ ((rows ≡ []) × (steps ≡ []))

-- the lines of all else, with these of the tunable
abbrev pub front_rows : List Pieces → Script → List Pieces
front_rows tunable s = map boot_pieces s.boots ++ tunable ++ map file_pieces s.files ++ flat_map task_rows s.tasks

abbrev pub says : Words → Bool
says [] = false
says (w ∷ ws) = not (is_comment w)

abbrev pub sayings : List (List ℕ) → List Words
sayings lines = filter says (map words_in lines)

-- the lines spell the script
pub record SpellScript (lines : List (List ℕ)) (s : Script) : Type 0 where
  pub tunable : List Pieces
  pub steps : List Pieces
  pub plain : list_all (λ line. list_all is_line_byte line) lines ≡ true
  pub say_tunable : SayTunable s tunable
  pub say_steps : SaySteps s.steps steps
  pub spelled : AllZip SpellLine (sayings lines) (front_rows tunable s ++ steps)

abbrev pub IsTextOf : List ℕ → Script → Type 0
IsTextOf bytes s = SpellScript (lines_in bytes) s
