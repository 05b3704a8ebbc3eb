-- What a pass and a ticket say, and where a core agrees with them.
use Rattle.std.specs.Prelude.{◌≡◌, ℕ, ◌+◌, ◌<◌, ◌≤◌, Bool, true, false, List, [], length, slice_get, slice_index_or}
use Rattle.std.specs.List.{sum_by}
use Rattle.mf_calls.specs.declared.limits.TheConstants.{TASK_LIMIT}
use Rattle.mf_calls.specs.declared.script.Script.{Script}
use Rattle.mf_calls.specs.Tasks.{lines_of}
use Rattle.mf_core.specs.declared.progress.Commit.{Commit}
use Rattle.mf_core.specs.declared.progress.Commit.TheVariants as commit
use Rattle.mf_core.specs.declared.progress.ChangeOutcome.{ChangeOutcome}
use Rattle.mf_core.specs.declared.progress.ChangeOutcome.TheVariants as outcome
use Rattle.mf_core.specs.declared.progress.Turn.{Turn}
use Rattle.mf_core.specs.declared.progress.Turn.TheVariants as turn
use Rattle.mf_core.specs.LegalHistory.{turn_at_line, IsLegal}
use Rattle.mf_core.specs.CoreView.{CoreView, lines_at, turn_at}
use Rattle.mf_share.specs.Weights.{entry_weight}

-- the script without lines
abbrev pub no_script : Script
no_script = record { boots = []; revocation = false; files = []; tasks = []; steps = [] }

pub record PassView : Type 0 where
  pub task : ℕ
  pub lines : ℕ
  pub out : Bool
  pub stopped : Bool

pub record TicketView : Type 0 where
  pub task : ℕ
  pub lines : ℕ
  pub committed : Bool

-- The shares of a pass: one part of the ledger of lines done, with its lines for the amount; and while no ticket is out, one part of the
-- ledger of open entries, with the amount 0.

abbrev pub parts_beside : Bool → ℕ
parts_beside true = 0
parts_beside false = 1

pub record IsPass (s : Script) (task lines : ℕ) (out : Bool) (done_parts done_amount busy_parts busy_amount : ℕ) : Type 0 where
  pub task_is : task < length s.tasks
  pub few_tasks : length s.tasks ≤ TASK_LIMIT
  pub one_part : done_parts ≡ 1
  pub all_lines : done_amount ≡ lines
  pub part_unless_out : busy_parts ≡ parts_beside out
  pub none_open : busy_amount ≡ 0

-- The share of a ticket: the part of the pass, with what its entry weighs.
pub record IsTicket (s : Script) (task : ℕ) (committed : Bool) (busy_parts busy_amount : ℕ) : Type 0 where
  pub task_is : task < length s.tasks
  pub few_tasks : length s.tasks ≤ TASK_LIMIT
  pub one_part : busy_parts ≡ 1
  pub weighed : busy_amount ≡ entry_weight task committed

-- The kernel's own shares: one part of each ledger, with the amount 0. The other parts are those of the passes, one for each task.
pub record IsOwn (s : Script) (done_all busy_all done_parts done_amount busy_parts busy_amount : ℕ) : Type 0 where
  pub done_cut : done_all ≡ length s.tasks + 1
  pub busy_cut : busy_all ≡ length s.tasks + 1
  pub done_part : done_parts ≡ 1
  pub busy_part : busy_parts ≡ 1
  pub none_done : done_amount ≡ 0
  pub none_open : busy_amount ≡ 0

-- the turn that a pass without a ticket says: Stopped, or that of the line after its lines
abbrev pub turn_unless : Bool → Turn → Turn
turn_unless true next = turn.Stopped
turn_unless false next = next

abbrev pub pass_turn : Script → PassView → Turn
pass_turn s pass = turn_unless pass.stopped (turn_at_line (slice_get (lines_of s pass.task) pass.lines))

-- the turn that a ticket says
abbrev pub ticket_turn : Bool → Turn
ticket_turn true = turn.Done
ticket_turn false = turn.Entered

-- It is the core of a run of the script: its history is a legal one.
pub record IsCoreOf (s : Script) (run : CoreView) : Type 0 where
  pub script_is : run.script ≡ s
  pub legal : IsLegal run.script run.history

-- the core's turn of the task, and its lines done, are those that the pass says, or the ticket

pub record AgreesWithPass (run : CoreView) (pass : PassView) : Type 0 where
  pub turn_is : turn_at run pass.task ≡ pass_turn run.script pass
  pub lines_are : lines_at run pass.task ≡ pass.lines

pub record AgreesWithTicket (run : CoreView) (ticket : TicketView) : Type 0 where
  pub turn_is : turn_at run ticket.task ≡ ticket_turn ticket.committed
  pub lines_are : lines_at run ticket.task ≡ ticket.lines

-- the ticket of this pass's task, before its commit
abbrev pub ticket_for : PassView → TicketView
ticket_for pass = record { task = pass.task; lines = pass.lines; committed = false }

-- the ticket after a commit
abbrev pub ticket_after : Commit → TicketView → TicketView
ticket_after commit.Done ticket = record ticket { committed = true }
ticket_after commit.Stale ticket = ticket

-- the pass after its ticket was left: where the call was done it has one line more, else it has stopped
abbrev pub pass_left : Bool → PassView → PassView
pass_left true pass = record pass { lines = pass.lines + 1; out = false }
pass_left false pass = record pass { out = false; stopped = true }

-- the pass after a change
abbrev pub pass_changed : ChangeOutcome → PassView → PassView
pass_changed outcome.Done pass = record pass { lines = pass.lines + 1 }
pass_changed (outcome.Waits n) pass = pass

-- the pass of a task before its first line
abbrev pub first_pass : ℕ → PassView
first_pass task = record { task = task; lines = 0; out = false; stopped = false }

-- the passes of the first n tasks, each before its first line
abbrev pub AreFirst : List PassView → ℕ → Type 0
AreFirst passes n = (t : ℕ) → t < n → (other : PassView) → slice_index_or passes t other ≡ first_pass t

-- in the place of each of the first n tasks is its pass, with no ticket out
abbrev pub AreBack : List PassView → ℕ → Type 0
AreBack passes n = (t : ℕ) → t < n → (other : PassView) → ((slice_index_or passes t other).task ≡ t) × ((slice_index_or passes t other).out ≡ false)

-- the passes of the script's tasks, one for each in order, with no ticket out
pub record AreOneEach (s : Script) (passes : List PassView) : Type 0 where
  pub count : length passes ≡ length s.tasks
  pub each : AreBack passes (length s.tasks)

-- how many lines are done by all passes
abbrev pub lines_sum : List PassView → ℕ
lines_sum passes = sum_by (λ pass. pass.lines) passes
