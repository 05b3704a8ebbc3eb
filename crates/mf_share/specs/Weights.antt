-- What an open entry weighs: what it counts in the ledger of open entries. The weights are digits in base three, a place for each task, so that the total
-- tells of each task whether an entry of it is open, and whether its call is done (Laws): no events of other tasks balance one's own.
use Rattle.std.specs.Prelude.{ℕ, zero, suc, ◌+◌, ◌*◌, ◌^◌, Bool, true, false, List, length}
use Rattle.mf_calls.specs.declared.script.Script.{Script}
use Rattle.mf_core.specs.declared.progress.Commit.{Commit}
use Rattle.mf_core.specs.declared.progress.Commit.TheVariants as commit
use Rattle.mf_core.specs.declared.progress.Phase.{Phase}
use Rattle.mf_core.specs.declared.progress.Phase.TheVariants as phase
use Rattle.mf_core.specs.declared.progress.Progress.{Progress}
use Rattle.mf_core.specs.Progress.{progress_at}
use Rattle.mf_core.specs.CoreView.{CoreView, progress_of}

-- by the number of the task, and whether the call of the entry is done
abbrev pub entry_weight : ℕ → Bool → ℕ
entry_weight t false = 3 ^ t
entry_weight t true = 2 * 3 ^ t

-- how much more an entry weighs after a commit of its call
abbrev pub risen : Commit → ℕ → ℕ
risen commit.Done t = entry_weight t false
risen commit.Stale t = 0

-- by the phase of the task: 0 where no entry of it is open
abbrev pub weight_in : ℕ → Phase → ℕ
weight_in t phase.Entered = entry_weight t false
weight_in t phase.Done = entry_weight t true
weight_in t other = 0

-- of the first n tasks together
abbrev pub weights : List Progress → ℕ → ℕ
weights list zero = 0
weights list (suc n) = weights list n + weight_in n (progress_at list n).phase

-- of all tasks of the script
abbrev pub open_weight : Script → CoreView → ℕ
open_weight s run = weights (progress_of run) (length s.tasks)
