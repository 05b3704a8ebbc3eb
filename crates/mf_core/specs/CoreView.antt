-- What contracts see of a core.
use Rattle.std.specs.List.{sum_by}
use Rattle.std.specs.Prelude.{◌≡◌, ℕ, ◌+◌, ◌<◌, List, Some}
use Rattle.mf_calls.specs.declared.script.Script.{Script}
use Rattle.mf_calls.specs.WellFormed.{line_count}
use Rattle.mf_policy.specs.Registration.{Entry}
use Rattle.mf_plan.specs.Planned.{Plan}
use Rattle.mf_plan.specs.declared.reply.Reply.{Reply}
use Rattle.mf_core.specs.declared.progress.Phase.TheVariants as phase
use Rattle.mf_core.specs.declared.progress.Progress.{Progress}
use Rattle.mf_core.specs.declared.progress.Turn.{Turn}
use Rattle.mf_core.specs.declared.progress.Turn.TheVariants as turn
use Rattle.mf_core.specs.declared.progress.Commit.{Commit}
use Rattle.mf_core.specs.declared.progress.Commit.TheVariants as commit
use Rattle.mf_core.specs.declared.progress.ChangeOutcome.{ChangeOutcome}
use Rattle.mf_core.specs.declared.progress.ChangeOutcome.TheVariants as outcome
use Rattle.mf_core.specs.declared.history.Event.{Event}
use Rattle.mf_core.specs.declared.history.Event.TheVariants as event
use Rattle.mf_core.specs.declared.history.History.{History}
use Rattle.mf_core.specs.Progress.{progress_at, open_entries}
use Rattle.mf_core.specs.Advances.{lines_done, Advances}
use Rattle.mf_core.specs.LegalHistory.{RunState, run_state_of, turn_of, next_reply, next_number}
use Rattle.mf_core.specs.Next.{next_plan}
use Rattle.mf_core.specs.WithEvent.{with_event}

-- a script, and the history of its run so far
pub record CoreView : Type 0 where
  pub script : Script
  pub history : History

-- the core after one event more
abbrev pub with_next : CoreView → Event → CoreView
with_next core e = record core { history = with_event core.history e }

-- the state that its history determines
abbrev pub run_state : CoreView → RunState
run_state core = run_state_of core.script core.history.events.list

-- the listed policies with their specs, in walk order
abbrev pub specs_of : CoreView → List Entry
specs_of core = (run_state core).state.specs

-- how far each task is
abbrev pub progress_of : CoreView → List Progress
progress_of core = (run_state core).progress

-- how many entries are open
abbrev pub open_of : CoreView → ℕ
open_of core = open_entries (progress_of core)

-- how many lines of a task are done
abbrev pub lines_at : CoreView → ℕ → ℕ
lines_at core t = (progress_at (progress_of core) t).lines

-- how many lines are done over all tasks
abbrev pub done_of : CoreView → ℕ
done_of core = lines_done (progress_of core)

-- how many lines the tasks have
abbrev pub all_lines : Script → ℕ
all_lines s = sum_by line_count s.tasks

-- what a task may do next
abbrev pub turn_at : CoreView → ℕ → Turn
turn_at core t = turn_of core.script (run_state core).progress t

-- the task's call is done: its reply is the last event
abbrev pub IsDone : CoreView → ℕ → CoreView → Type 0
IsDone old t new = (reply : Reply) × (next_reply old.script (run_state old) t ≡ Some reply)
    × (new ≡ with_next old (event.Done t (next_number (run_state old) t) reply))

-- the plan is that of the task's call, and these are the listed policies with their specs
abbrev pub IsCurrent : CoreView → ℕ → List Entry → Plan → Type 0
IsCurrent core t listed plan = (next_plan core.script (run_state core) t ≡ Some plan) × (listed ≡ specs_of core)

-- The plan and the listed policies are those of now and the call is done; or they aren't, and nothing changes.
abbrev pub Commits : CoreView → ℕ → List Entry → Plan → Commit → CoreView → Type 0
Commits old t listed plan commit.Done new = IsCurrent old t listed plan × IsDone old t new
Commits old t listed plan commit.Stale new = ¬ IsCurrent old t listed plan × (new ≡ old)

-- the task's change is made: its reply is the last event
abbrev pub IsChanged : CoreView → ℕ → CoreView → Type 0
IsChanged old t new = (reply : Reply) × (next_reply old.script (run_state old) t ≡ Some reply)
    × (new ≡ with_next old (event.Changed t (next_number (run_state old) t) reply))

-- No entry is open and the change is made; or so many are, and nothing changes.
abbrev pub Changes : CoreView → ℕ → ChangeOutcome → CoreView → Type 0
Changes old t outcome.Done new = (open_entries (progress_of old) ≡ 0) × IsChanged old t new
Changes old t (outcome.Waits n) new = (open_entries (progress_of old) ≡ n) × (0 < n) × (new ≡ old)

abbrev pub AdvancesBy : ChangeOutcome → List Progress → ℕ → List Progress → Type 0
AdvancesBy outcome.Done old t new = Advances old new t (record { lines = (progress_at old t).lines + 1; phase = phase.Idle })
AdvancesBy (outcome.Waits n) old t new = new ≡ old

abbrev pub AdvancesOn : Commit → List Progress → ℕ → List Progress → Type 0
AdvancesOn commit.Done old t new = Advances old new t (record (progress_at old t) { phase = phase.Done })
AdvancesOn commit.Stale old t new = new ≡ old

-- how many lines more are done after a leave from that turn
abbrev pub lines_left : Turn → ℕ
lines_left turn.Done = 1
lines_left other = 0

-- how many lines more are done after a change with that outcome
abbrev pub lines_changed : ChangeOutcome → ℕ
lines_changed outcome.Done = 1
lines_changed (outcome.Waits n) = 0
