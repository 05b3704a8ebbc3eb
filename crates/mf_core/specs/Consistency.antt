-- What a history and the state that it determines have to do with each other.
use Rattle.std.specs.Prelude.{◌≡◌, ℕ, ◌+◌, ◌*◌, ◌-◌, ◌<◌, ◌≤◌, List, [], ◌∷◌, length, Option}
use Rattle.mf_calls.specs.declared.script.Line.{Line}
use Rattle.mf_calls.specs.declared.script.Task.{Task}
use Rattle.mf_calls.specs.declared.script.Script.{Script}
use Rattle.mf_calls.specs.Tasks.{lines_of}
use Rattle.mf_calls.specs.WellFormed.{IsWellFormed}
use Rattle.mf_core.specs.declared.progress.Phase.{Phase}
use Rattle.mf_core.specs.declared.progress.Phase.TheVariants as phase
use Rattle.mf_core.specs.declared.progress.Progress.{Progress}
use Rattle.mf_core.specs.declared.progress.Turn.TheVariants as turn
use Rattle.mf_core.specs.declared.history.History.{History}
use Rattle.mf_core.specs.Progress.{progress_at}
use Rattle.mf_core.specs.LegalHistory.{RunState, run_state_of, turn_at_line, next_line, IsLegal}

-- how many events of the line that a task is at have come
abbrev pub events_in : Phase → ℕ
events_in phase.Idle = 0
events_in phase.Entered = 1
events_in other = 2

abbrev pub events_by : Progress → ℕ
events_by progress = 3 * progress.lines + events_in progress.phase

-- how many events the tasks may still bring: three for each line
abbrev pub events_left : List Task → List Progress → ℕ
events_left [] list = 0
events_left (t ∷ ts) [] = 0
events_left (t ∷ ts) (x ∷ xs) = (3 * length t.lines - events_by x) + events_left ts xs

-- a task that isn't between its lines has a next line
abbrev pub HasLine : Phase → ℕ → ℕ → Type 0
HasLine phase.Idle lines n = lines ≤ n
HasLine other lines n = lines < n

-- an open entry is at a line whose call is no change
abbrev pub IsAtEntry : Phase → Option Line → Type 0
IsAtEntry phase.Entered next = turn_at_line next ≡ turn.Entry
IsAtEntry phase.Done next = turn_at_line next ≡ turn.Entry
IsAtEntry other next = Unit {0}

-- The script is well formed, and the history is legal and determines this state of the run, in which each task is within its lines. There
-- is room for all events that may still come.
pub record IsConsistent (script : Script) (history : History) (run : RunState) : Type 0 where
  pub formed : IsWellFormed script
  pub legal : IsLegal script history
  pub here : run_state_of script history.events.list ≡ run
  pub places : length run.progress ≡ length script.tasks
  pub lines : (t : ℕ) → t < length script.tasks → HasLine (progress_at run.progress t).phase (progress_at run.progress t).lines (length (lines_of script t))
  pub entries : (t : ℕ) → t < length script.tasks → IsAtEntry (progress_at run.progress t).phase (next_line script run.progress t)
  pub room : length history.events.list + events_left script.tasks run.progress ≤ history.events.room
