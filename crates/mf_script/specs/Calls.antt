-- The calls of a task's lines, as the tables of calls in docs/MANUAL.md have them: their names, and the arguments of each.
use Rattle.std.specs.Prelude.{ℕ, Bool, if◌then◌else◌, List, [], ◌∷◌, ◌++◌, length, Ok, codes}
use Rattle.mf_words.specs.Words.{Words}
use Rattle.mf_calls.specs.declared.script.Call.{Call}
use Rattle.mf_calls.specs.declared.script.Call.TheVariants as call
use Rattle.mf_script.specs.declared.error.ScriptFault.TheVariants.{Missing}
use Rattle.mf_script.specs.Readers.{Read, ◌>>=◌, fails}
use Rattle.mf_script.specs.Parts.{word_by, no_more, one_of, any_word, mode_of, rule_number_of, descriptor_of, open_mode_of, protocol_of, port_of, simple_name_of, process_of, path_of, text_of, privilege_of, sides_of, rule_of}

-- a reader of the arguments behind a call's name, which returns the words after them too
abbrev pub Arguments : Type 0
Arguments = Words → Read (Call × Words)

-- Calls with no argument, with one, two and three, each of one word

abbrev pub bare : Call → Arguments
bare call ws = Ok (call, ws)

abbrev pub one : {A : Type 0} → (List ℕ → Read A) → (A → Call) → Arguments
one first call ws = do
  x ← word_by first ws
  Ok (call x.0, x.1)

abbrev pub two : {A B : Type 0} → (List ℕ → Read A) → (List ℕ → Read B) → (A → B → Call) → Arguments
two first second call ws = do
  x ← word_by first ws
  y ← word_by second x.1
  Ok (call x.0 y.0, y.1)

abbrev pub three : {A B C : Type 0} → (List ℕ → Read A) → (List ℕ → Read B) → (List ℕ → Read C) → (A → B → C → Call) → Arguments
three first second third call ws = do
  x ← word_by first ws
  y ← word_by second x.1
  z ← word_by third y.1
  Ok (call x.0 y.0 z.0, z.1)

abbrev pub Table : Type 0
Table = List (List ℕ × Arguments)

-- the call of that name in a table, with the arguments that come next, and the words after them
unfoldable pub call_in : Table → List ℕ → Arguments
call_in table name ws = one_of table name (λ arguments. arguments ws)

-- the rows of a table whose names have a length of that kind
abbrev pub with_length : (ℕ → Bool) → Table → Table
with_length fits [] = []
with_length fits (row ∷ table) = if fits (length row.0) then row ∷ with_length fits table else with_length fits table

-- What ugidfw(8) does is said by the word behind it.

unfoldable pub add_rule : Arguments
add_rule ws = do
  rule ← rule_of ws
  Ok (call.UgidfwAdd rule.0, rule.1)

unfoldable pub set_rule : Arguments
set_rule ws = do
  number ← word_by rule_number_of ws
  rule ← rule_of number.1
  Ok (call.UgidfwSet number.0 rule.0, rule.1)

abbrev pub ugidfw_calls : Table
ugidfw_calls =
    (codes "list", bare call.UgidfwList)
    ∷ (codes "add", add_rule)
    ∷ (codes "set", set_rule)
    ∷ (codes "remove", one rule_number_of call.UgidfwRemove)
    ∷ []

unfoldable pub ugidfw : Arguments
ugidfw [] = fails Missing
ugidfw (name ∷ ws) = call_in ugidfw_calls name ws

-- Every call: its name and its arguments.

abbrev pub process_calls : Table
process_calls =
    (codes "fork", one simple_name_of call.Fork)
    ∷ (codes "exit", bare call.Exit)
    ∷ (codes "see", one process_of call.See)
    ∷ (codes "signal", one process_of call.Signal)
    ∷ (codes "debug", one process_of call.Debug)
    ∷ (codes "sched", one process_of call.Sched)
    ∷ (codes "priv", one privilege_of call.Priv)
    ∷ (codes "getpmac", bare call.Getpmac)
    ∷ (codes "setpmac", one any_word call.Setpmac)
    ∷ []

abbrev pub file_calls : Table
file_calls =
    (codes "exec", one path_of call.Exec)
    ∷ (codes "create", one path_of call.Create)
    ∷ (codes "mkdir", one path_of call.Mkdir)
    ∷ (codes "read", one path_of call.Read)
    ∷ (codes "write", two path_of text_of call.Write)
    ∷ (codes "stat", one path_of call.Stat)
    ∷ (codes "getfmac", one path_of call.Getfmac)
    ∷ (codes "setfmac", two any_word path_of call.Setfmac)
    ∷ (codes "readdir", one path_of call.Readdir)
    ∷ (codes "chmod", two path_of mode_of call.Chmod)
    ∷ (codes "unlink", one path_of call.Unlink)
    ∷ []

abbrev pub descriptor_calls : Table
descriptor_calls =
    (codes "open", two path_of open_mode_of (λ path mode. call.OpenFd path mode.0 mode.1))
    ∷ (codes "fread", one descriptor_of call.Fread)
    ∷ (codes "fwrite", two descriptor_of text_of call.Fwrite)
    ∷ (codes "close", one descriptor_of call.Close)
    ∷ []

abbrev pub channel_calls : Table
channel_calls =
    (codes "pipe", one simple_name_of call.Pipe)
    ∷ (codes "socket", one simple_name_of call.Socket)
    ∷ (codes "pread", one simple_name_of call.Pread)
    ∷ (codes "pwrite", two simple_name_of text_of call.Pwrite)
    ∷ (codes "pstat", one simple_name_of call.Pstat)
    ∷ (codes "setpipemac", two any_word simple_name_of call.Setpipemac)
    ∷ (codes "send", three simple_name_of simple_name_of text_of call.Send)
    ∷ (codes "recv", one simple_name_of call.Recv)
    ∷ (codes "seesock", one simple_name_of call.Seesock)
    ∷ (codes "setsockmac", two any_word simple_name_of call.Setsockmac)
    ∷ (codes "bind", three simple_name_of protocol_of port_of call.Bind)
    ∷ []

abbrev pub module_calls : Table
module_calls =
    (codes "kldstat", bare call.Kldstat)
    ∷ (codes "kldload", one any_word call.Kldload)
    ∷ (codes "kldunload", one any_word call.Kldunload)
    ∷ []

abbrev pub setting_calls : Table
setting_calls =
    (codes "sysctl", one sides_of (λ sides. call.Sysctl sides.0 sides.1))
    ∷ (codes "ugidfw", ugidfw)
    ∷ []

abbrev pub calls : Table
calls = process_calls ++ file_calls ++ descriptor_calls ++ channel_calls ++ module_calls ++ setting_calls

-- a call by its name: its arguments, and no more
unfoldable pub call_named : List ℕ → Words → Read Call
call_named name ws = do
  call ← call_in calls name ws
  u ← no_more call.1
  Ok call.0

-- a call: its name, its arguments, and no more
unfoldable pub call_words : Words → Read Call
call_words [] = fails Missing
call_words (name ∷ ws) = call_named name ws
