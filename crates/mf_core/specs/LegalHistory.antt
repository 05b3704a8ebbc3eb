-- Which histories are legal for a script, and the state that a history determines: this model's own.
use Rattle.std.specs.Option.{option_map_or}
use Rattle.std.specs.Prelude.{◌≡◌, ◌⊎◌, ℕ, ◌+◌, ◌<◌, if◌then◌else◌, List, [], ◌∷◌, length, map, fold, Option, Some, None, slice_get, option_map}
use Rattle.mf_calls.specs.declared.script.Line.{Line}
use Rattle.mf_calls.specs.declared.script.Script.{Script}
use Rattle.mf_calls.specs.Tasks.{is_change, lines_of, name_of}
use Rattle.mf_plan.specs.declared.state.State.{State}
use Rattle.mf_plan.specs.declared.reply.Reply.{Reply}
use Rattle.mf_core.specs.declared.progress.Phase.{Phase}
use Rattle.mf_core.specs.declared.progress.Phase.TheVariants as phase
use Rattle.mf_core.specs.declared.progress.Progress.{Progress}
use Rattle.mf_core.specs.declared.progress.Turn.{Turn}
use Rattle.mf_core.specs.declared.progress.Turn.TheVariants as turn
use Rattle.mf_core.specs.declared.history.Event.{Event}
use Rattle.mf_core.specs.declared.history.Event.TheVariants as event
use Rattle.mf_core.specs.declared.history.History.{History}
use Rattle.mf_perform.specs.OneCall.{call_reply, call_state}
use Rattle.mf_core.specs.Opening.{opening_state, boots_of}
use Rattle.mf_core.specs.Progress.{first_progress, progress_at, with_phase, with_line, with_left, open_entries}

-- the state of the framework, and how far each task is
pub record RunState : Type 0 where
  pub state : State
  pub progress : List Progress

abbrev pub opening_run : Script → RunState
opening_run s = record { state = opening_state s; progress = map (λ t. first_progress) s.tasks }

-- Turns

-- the line after those that the task has done
abbrev pub next_line : Script → List Progress → ℕ → Option Line
next_line s list t = slice_get (lines_of s t) (progress_at list t).lines

abbrev pub turn_at_line : Option Line → Turn
turn_at_line None = turn.Finished
turn_at_line (Some line) = if is_change line.call then turn.Change else turn.Entry

abbrev pub turn_in : Phase → Option Line → Turn
turn_in phase.Idle next = turn_at_line next
turn_in phase.Entered next = turn.Entered
turn_in phase.Done next = turn.Done
turn_in phase.Stopped next = turn.Stopped

-- what the task may do next
abbrev pub turn_of : Script → List Progress → ℕ → Turn
turn_of s list t = turn_in (progress_at list t).phase (next_line s list t)

-- The reply to the call of a task's next line, and the state after it

abbrev pub next_reply : Script → RunState → ℕ → Option Reply
next_reply s r t = option_map (λ line. call_reply r.state (name_of s t) line.child line.call) (next_line s r.progress t)

abbrev pub next_state : Script → RunState → ℕ → State
next_state s r t = option_map_or (λ line. call_state r.state (name_of s t) line.child line.call) (next_line s r.progress t) r.state

-- Events

abbrev pub next_number : RunState → ℕ → ℕ
next_number r t = (progress_at r.progress t).lines + 1

abbrev pub MayCome : Script → RunState → Event → Type 0
MayCome s r (event.Enter t) = turn_of s r.progress t ≡ turn.Entry
MayCome s r (event.Done t line reply) = (turn_of s r.progress t ≡ turn.Entered) × (line ≡ next_number r t) × (next_reply s r t ≡ Some reply)
MayCome s r (event.Leave t) = (turn_of s r.progress t ≡ turn.Done) ⊎ (turn_of s r.progress t ≡ turn.Entered)
MayCome s r (event.Changed t line reply) = (open_entries r.progress ≡ 0) × (turn_of s r.progress t ≡ turn.Change) × (line ≡ next_number r t) × (next_reply s r t ≡ Some reply)

abbrev pub run_after : Script → RunState → Event → RunState
run_after s r (event.Enter t) = record r { progress = with_phase r.progress t phase.Entered }
run_after s r (event.Done t line reply) = record { state = next_state s r t; progress = with_phase r.progress t phase.Done }
run_after s r (event.Leave t) = record r { progress = with_left r.progress t }
run_after s r (event.Changed t line reply) = record { state = next_state s r t; progress = with_line r.progress t }

abbrev pub AllMayCome : Script → RunState → List Event → Type 0
AllMayCome s r [] = Unit {0}
AllMayCome s r (e ∷ es) = MayCome s r e × AllMayCome s (run_after s r e) es

-- the state of the run that its events determine
abbrev pub run_state_of : Script → List Event → RunState
run_state_of s es = fold (run_after s) (opening_run s) es

-- Histories

-- The boot registrations are the script's, and each event may come after those before it.
pub record IsLegal (s : Script) (h : History) : Type 0 where
  pub boots : h.boots ≡ boots_of s
  pub events : AllMayCome s (opening_run s) h.events.list

-- every task is idle and has no next line
abbrev pub IsComplete : Script → History → Type 0
IsComplete s h = (t : ℕ) → t < length s.tasks → turn_of s (run_state_of s h.events.list).progress t ≡ turn.Finished
