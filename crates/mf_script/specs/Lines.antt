-- The words of each kind of line, from left to right, and no more, as the grammar in docs/MANUAL.md (THE SCRIPT) has them. What the words ask
-- for is judged afterwards.
use Rattle.std.specs.Prelude.{ℕ, Bool, true, false, ◌==◌, if◌then◌else◌, List, [], ◌∷◌, map, Option, Some, None, Ok, codes}
use Rattle.std.specs.Str.{bytes_eq, byte}
use Rattle.mf_spelling.specs.Spelling.{step_word}
use Rattle.mf_cred.specs.declared.cred.Cred.{Cred}
use Rattle.mf_cred.specs.declared.cred.FileView.{FileView}
use Rattle.mf_words.specs.Words.{Words}
use Rattle.mf_calls.specs.declared.script.Line.{Line}
use Rattle.mf_calls.specs.declared.script.Step.{Step}
use Rattle.mf_calls.specs.declared.script.StepKind.{StepKind}
use Rattle.mf_calls.specs.declared.script.StepKind.TheVariants as step
use Rattle.mf_script.specs.declared.error.ScriptFault.TheVariants.{UnknownWord, Extra}
use Rattle.mf_script.specs.declared.lines.FileWords.{FileWords}
use Rattle.mf_script.specs.declared.lines.TaskWords.{TaskWords}
use Rattle.mf_script.specs.Readers.{Read, ◌>>=◌, fails, by_option}
use Rattle.mf_script.specs.Parts.{word_by, field, no_more, one_of, any_word, number_of, mode_of, simple_name_of, path_of, groups_of, is_directory_of, text_of, sides_of}
use Rattle.mf_script.specs.Calls.{call_named, call_words}

-- behind the word `boot`: MODULE
unfoldable pub boot_words : Words → Read (List ℕ)
boot_words ws = do
  name ← word_by any_word ws
  u ← no_more name.1
  Ok name.0

-- behind the word `tunable`: NAME=VALUE, as of a call of sysctl(8)
unfoldable pub tunable_words : Words → Read (List ℕ × List ℕ)
tunable_words ws = do
  sides ← word_by sides_of ws
  u ← no_more sides.1
  Ok sides.0

-- of a regular file [ "text" TEXT ], of a directory nothing
unfoldable pub file_content : Bool → Words → Read (List ℕ × Words)
file_content dir [] = Ok ([], [])
file_content true (w ∷ ws) = fails (if bytes_eq w (codes "text") then UnknownWord else Extra)
file_content false (w ∷ ws) = field (codes "text") text_of (w ∷ ws)

-- KIND "uid" N "gid" N "mode" OCTAL
unfoldable pub file_view : Words → Read (FileView × Words)
file_view ws = do
  dir ← word_by is_directory_of ws
  uid ← field (codes "uid") number_of dir.1
  gid ← field (codes "gid") number_of uid.1
  mode ← field (codes "mode") mode_of gid.1
  Ok (record { uid = uid.0; gid = gid.0; mode = mode.0; dir = dir.0 }, mode.1)

-- behind the word `file`: PATH, the attributes, "label" L [ "text" TEXT ]
unfoldable pub file_words : Words → Read FileWords
file_words ws = do
  path ← word_by path_of ws
  file ← file_view path.1
  label ← field (codes "label") any_word file.1
  text ← file_content file.0.dir label.1
  u ← no_more text.1
  Ok (record { path = path.0; file = file.0; label = label.0; text = text.0 })

-- "uid" N "gid" GROUPS
unfoldable pub cred_words : Words → Read (Cred × Words)
cred_words ws = do
  uid ← field (codes "uid") number_of ws
  groups ← field (codes "gid") groups_of uid.1
  Ok (record { uid = uid.0; ruid = uid.0; svuid = uid.0; groups = groups.0 }, groups.1)

-- behind the word `task`: NAME, the credential, "label" L
unfoldable pub task_words : Words → Read TaskWords
task_words ws = do
  name ← word_by simple_name_of ws
  cred ← cred_words name.1
  label ← field (codes "label") any_word cred.1
  u ← no_more label.1
  Ok (record { name = name.0; cred = cred.0; label = label.0 })

-- the text behind `@`
abbrev pub behind_at : List ℕ → Option (List ℕ)
behind_at [] = None
behind_at (b ∷ w) = if b == byte "@" then Some w else None

-- a line of a task, by its first word: [ "@"NAME ] call
unfoldable pub line_words : List ℕ → Words → Read Line
line_words w ws = by_option (behind_at w) (do
  call ← call_named w ws
  Ok (record { child = None; call = call })) (λ name. do
    child ← simple_name_of name
    call ← call_words ws
    Ok (record { child = Some child; call = call }))

abbrev pub step_kinds : List (List ℕ × StepKind)
step_kinds = map (λ kind. (step_word kind, kind)) (step.Enter ∷ step.Plan ∷ step.Done ∷ step.Leave ∷ step.Change ∷ [])

unfoldable pub step_kind_of : List ℕ → Read StepKind
step_kind_of w = one_of step_kinds w Ok

-- a step, by its first word: KIND NAME
unfoldable pub step_words : List ℕ → Words → Read Step
step_words w ws = do
  kind ← step_kind_of w
  task ← word_by simple_name_of ws
  u ← no_more task.1
  Ok (record { kind = kind; task = task.0 })
