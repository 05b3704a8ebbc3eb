-- Which bytes are a script, which script they are, and else the first faulty line with its first fault: the grammar, the limits and the order
-- of faults of docs/MANUAL.md (THE SCRIPT). In a line NotText is looked for first, then the words from left to right, then Extra, and then what
-- the words ask for is judged.
use Rattle.std.specs.Prelude.{ℕ, ◌+◌, ◌==◌, Bool, true, false, not, ◌&&◌, ◌||◌, nat_lt, nat_le, if◌then◌else◌, List, [], ◌∷◌, ◌++◌, length, Result, Ok, Err, codes}
use Rattle.std.specs.Cmp.Lexicographic.{pointwise}
use Rattle.std.specs.List.{list_all, list_any}
use Rattle.std.specs.Str.{bytes_eq}
use Rattle.mf_errno.specs.declared.errno.Errno.TheVariants.{Enoent, Eexist, Einval}
use Rattle.mf_errno.specs.declared.module.Module.{Module}
use Rattle.mf_errno.specs.declared.module.Module.TheVariants.{Biba}
use Rattle.mf_errno.specs.Names.{module_named}
use Rattle.mf_elem.specs.declared.label.Request.{Request}
use Rattle.mf_elem.specs.Label.{no_request}
use Rattle.mf_labeltext.specs.Reading.{request_in}
use Rattle.mf_item.specs.declared.view.Kind.{Kind}
use Rattle.mf_item.specs.declared.view.Kind.TheVariants as kinds
use Rattle.mf_names.specs.declared.limits.TheConstants.{CONTENT_LIMIT}
use Rattle.mf_policy.specs.Sysctls.{switch}
use Rattle.mf_words.specs.Words.{Words, lines_in, words_in, is_comment}
use Rattle.mf_calls.specs.declared.limits.TheConstants.{BOOT_LIMIT, FILE_LIMIT, TASK_LIMIT, LINE_LIMIT, RULE_LIST_LIMIT, STEP_LIMIT}
use Rattle.mf_calls.specs.declared.script.Call.{Call}
use Rattle.mf_calls.specs.declared.script.Task.{Task}
use Rattle.mf_calls.specs.declared.script.FileLine.{FileLine}
use Rattle.mf_calls.specs.declared.script.Script.{Script}
use Rattle.mf_calls.specs.Paths.{directory_of, has_directory}
use Rattle.mf_calls.specs.Boots.{is_booted, may_ask_for}
use Rattle.mf_calls.specs.Tasks.{lists_rules}
use Rattle.mf_calls.specs.Tunable.{revocation_name}
use Rattle.mf_spelling.specs.Spelling.{is_line_byte}
use Rattle.mf_script.specs.declared.error.ScriptFault.TheVariants.{NotText, UnknownWord, BadLabel, BadPath, Duplicate, NoEnd, TooMany}
use Rattle.mf_script.specs.declared.error.ScriptError.{ScriptError}
use Rattle.mf_script.specs.declared.error.ScriptError.TheVariants as error
use Rattle.mf_script.specs.declared.refusal.LineFault.{LineFault}
use Rattle.mf_script.specs.declared.lines.FileWords.{FileWords}
use Rattle.mf_script.specs.declared.lines.TaskWords.{TaskWords}
use Rattle.mf_script.specs.declared.rows.Place.{Place}
use Rattle.mf_script.specs.declared.rows.Place.TheVariants as place
use Rattle.mf_script.specs.Readers.{Read, ◌>>=◌, plain, fails, boot_refused, unless, unless_refused, or_fault, by_option}
use Rattle.mf_script.specs.Parts.{no_more}
use Rattle.mf_script.specs.Lines.{boot_words, tunable_words, file_words, task_words, line_words, step_words}

-- What the words of a line ask for is judged in this order: TooMany, BootRefused, Duplicate, BadPath, BadLabel.

-- the module, which none of these may be
unfoldable pub judged_module : List Module → Module → Read Module
judged_module boots m = if is_booted boots m then boot_refused Eexist else Ok m

-- the module of that name after these, where there is room for one more
unfoldable pub judged_boot : List Module → List ℕ → Read Module
judged_boot boots name = do
  u ← unless TooMany (nat_lt (length boots) BOOT_LIMIT)
  by_option (module_named name) (boot_refused Enoent) (judged_module boots)

-- what the tunable of that name is set to; `again` where an earlier line has set it
unfoldable pub judged_tunable : List Module → Bool → (List ℕ × List ℕ) → Read Bool
judged_tunable boots again sides = do
  u ← unless_refused Enoent (bytes_eq sides.0 revocation_name && is_booted boots Biba)
  revocation ← by_option (switch sides.1) (boot_refused Einval) Ok
  u ← unless Duplicate (not again)
  Ok revocation

-- what a label text asks for, where `-` asks for nothing
unfoldable pub requested : List ℕ → Read Request
requested w = if bytes_eq w (codes "-") then Ok no_request else or_fault BadLabel (request_in w)

-- what a script that boots these modules asks for an entity of that kind
unfoldable pub judged_request : Kind → List Module → List ℕ → Read Request
judged_request kind boots w = do
  request ← requested w
  u ← unless BadLabel (may_ask_for kind boots request)
  Ok request

abbrev pub has_path : List (List ℕ) → FileLine → Bool
has_path path f = pointwise bytes_eq f.path path

-- what a file's label asks for, where the file may stand after these; the root directory is always there
unfoldable pub file_label : List Module → List FileLine → FileWords → Read Request
file_label boots files f = do
  u ← unless TooMany (nat_lt (length files) FILE_LIMIT && nat_le (length f.text) CONTENT_LIMIT)
  u ← unless Duplicate (not (length f.path == 0 || list_any (has_path f.path) files))
  u ← unless BadPath (has_directory files (directory_of f.path))
  judged_request kinds.Vnode boots f.label

-- the file after these
unfoldable pub judged_file : List Module → List FileLine → FileWords → Read FileLine
judged_file boots files f = do
  label ← file_label boots files f
  Ok (record { path = f.path; file = f.file; label = label; text = f.text })

abbrev pub has_name : List ℕ → Task → Bool
has_name name task = bytes_eq task.name name

-- what a task's label asks for, where the task may stand after these
unfoldable pub task_label : List Module → List Task → TaskWords → Read Request
task_label boots tasks t = do
  u ← unless TooMany (nat_lt (length tasks) TASK_LIMIT)
  u ← unless Duplicate (not (list_any (has_name t.name) tasks))
  judged_request kinds.Process boots t.label

-- the task after these, before its lines
unfoldable pub judged_task : List Module → List Task → TaskWords → Read Task
judged_task boots tasks t = do
  label ← task_label boots tasks t
  Ok (record { name = t.name; cred = t.cred; label = label; lines = [] })

-- how many lines list the rules, with this call
unfoldable pub with_list : Call → ℕ → Read ℕ
with_list call lists =
    if lists_rules call then (unless TooMany (nat_lt lists RULE_LIST_LIMIT) >>= λ u. Ok (lists + 1))
    else Ok lists

-- Each line makes the script longer, or the task that is open, and gives the place of the next line: behind boots, the tunable, files or tasks, in
-- a task, in the steps, or behind them. A place among tasks knows how many of their lines list the rules.

abbrev pub Reading : Type 0
Reading = Script × Place

-- the module behind the word `boot`
unfoldable pub booted_after : List Module → Words → Read Module
booted_after boots ws = boot_words ws >>= judged_boot boots

unfoldable pub boot_in : Script → Words → Read Reading
boot_in s ws = do
  m ← booted_after s.boots ws
  Ok (record s { boots = s.boots ++ m ∷ [] }, place.Boots)

unfoldable pub tunable_in : Script → Bool → Words → Read Reading
tunable_in s again ws = do
  sides ← tunable_words ws
  revocation ← judged_tunable s.boots again sides
  Ok (record s { revocation = revocation }, place.Tunable)

unfoldable pub file_in : Script → Words → Read Reading
file_in s ws = do
  words ← file_words ws
  file ← judged_file s.boots s.files words
  Ok (record s { files = s.files ++ file ∷ [] }, place.Files)

unfoldable pub task_in : Script → ℕ → Words → Read Reading
task_in s lists ws = do
  words ← task_words ws
  task ← judged_task s.boots s.tasks words
  Ok (s, place.Task task lists)

unfoldable pub line_in : Script → Task → ℕ → List ℕ → Words → Read Reading
line_in s t lists w ws = do
  line ← line_words w ws
  u ← unless TooMany (nat_lt (length t.lines) LINE_LIMIT)
  lists ← with_list line.call lists
  Ok (s, place.Task (record t { lines = t.lines ++ line ∷ [] }) lists)

unfoldable pub step_in : Script → List ℕ → Words → Read Reading
step_in s w ws = do
  step ← step_words w ws
  u ← unless TooMany (nat_lt (length s.steps) STEP_LIMIT)
  Ok (record s { steps = s.steps ++ step ∷ [] }, place.Steps)

-- a line of one word
unfoldable pub nothing_behind : Reading → Words → Read Reading
nothing_behind next ws = no_more ws >>= λ u. Ok next

-- script = *boot *tunable *file *task [ steps ], by the first word of a line and the words behind it

unfoldable pub behind_tasks : Script → ℕ → List ℕ → Words → Read Reading
behind_tasks s lists w ws =
    if bytes_eq w (codes "task") then task_in s lists ws
    else if bytes_eq w (codes "steps") then nothing_behind (s, place.Steps) ws
    else fails UnknownWord

unfoldable pub behind_files : Script → List ℕ → Words → Read Reading
behind_files s w ws = if bytes_eq w (codes "file") then file_in s ws else behind_tasks s 0 w ws

unfoldable pub behind_tunable : Script → Bool → List ℕ → Words → Read Reading
behind_tunable s again w ws = if bytes_eq w (codes "tunable") then tunable_in s again ws else behind_files s w ws

unfoldable pub behind_boots : Script → List ℕ → Words → Read Reading
behind_boots s w ws = if bytes_eq w (codes "boot") then boot_in s ws else behind_tunable s false w ws

-- task = .. *line "end"
unfoldable pub in_task : Script → Task → ℕ → List ℕ → Words → Read Reading
in_task s t lists w ws =
    if bytes_eq w (codes "end") then nothing_behind (record s { tasks = s.tasks ++ t ∷ [] }, place.Tasks lists) ws
    else line_in s t lists w ws

-- steps = "steps" *step "end"
unfoldable pub in_steps : Script → List ℕ → Words → Read Reading
in_steps s w ws = if bytes_eq w (codes "end") then nothing_behind (s, place.End) ws else step_in s w ws

unfoldable pub row_in : Script → Place → List ℕ → Words → Read Reading
row_in s place.Boots w ws = behind_boots s w ws
row_in s place.Tunable w ws = behind_tunable s true w ws
row_in s place.Files w ws = behind_files s w ws
row_in s (place.Tasks lists) w ws = behind_tasks s lists w ws
row_in s (place.Task t lists) w ws = in_task s t lists w ws
row_in s place.Steps w ws = in_steps s w ws
row_in s place.End w ws = fails UnknownWord

-- a line without words, or a comment, says nothing
unfoldable pub words_line : Script → Place → Words → Read Reading
words_line s p [] = Ok (s, p)
words_line s p (w ∷ ws) = if is_comment w then Ok (s, p) else row_in s p w ws

unfoldable pub line_read : Script → Place → List ℕ → Read Reading
line_read s p line = unless NotText (list_all is_line_byte line) >>= λ u. words_line s p (words_in line)

-- Line by line: the first faulty line counts.

-- the fault in the line of that number, from 1
abbrev pub at_line : ℕ → LineFault → ScriptError
at_line n fault = error.Fault n fault.fault fault.errno

-- what follows a line that was read
abbrev pub or_at : {A B : Type 0} → ℕ → Read A → (A → Result B ScriptError) → Result B ScriptError
or_at n (Ok x) more = more x
or_at n (Err fault) more = Err (at_line n fault)

-- the script, where it doesn't end inside a task or the steps; n is the number of lines and one more
abbrev pub ended : Script → Place → ℕ → Result Script ScriptError
ended s (place.Task t lists) n = Err (at_line n (plain NoEnd))
ended s place.Steps n = Err (at_line n (plain NoEnd))
ended s other n = Ok s

unfoldable pub script_from : Script → Place → ℕ → List (List ℕ) → Result Script ScriptError
script_from s p n [] = ended s p n
script_from s p n (line ∷ lines) = or_at n (line_read s p line) (λ next. script_from next.0 next.1 (n + 1) lines)

abbrev pub blank : Script
blank = record { boots = []; revocation = false; files = []; tasks = []; steps = [] }

-- the script that the bytes are, or its first fault
unfoldable pub script_of : List ℕ → Result Script ScriptError
script_of bytes = script_from blank place.Boots 1 (lines_in bytes)
