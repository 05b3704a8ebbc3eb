-- What contracts see of a run of a script, and what a run keeps true.
use Rattle.std.specs.Prelude.{◌≡◌, ◌+◌, ◌≤◌, true, length}
use Rattle.mf_calls.specs.declared.script.Script.{Script}
use Rattle.mf_list.specs.Once.{IsListedOnce}
use Rattle.mf_core.specs.declared.history.History.{History}
use Rattle.mf_core.specs.declared.limits.TheConstants.{MOST_AT_OPENING, MOST_EVENTS}
use Rattle.mf_core.specs.declared.history.Event.{Event}
use Rattle.mf_core.specs.LegalHistory.{RunState, run_after}
use Rattle.mf_core.specs.Consistency.{IsConsistent}

-- a script, and the state that a run of it has reached
pub record RunView : Type 0 where
  pub script : Script
  pub run : RunState

-- the run after the event
abbrev pub run_on : RunView → Event → RunView
run_on v e = record v { run = run_after v.script v.run e }

-- Some legal history of the script determines this state of the run. Boot has ended, and no module is listed twice. The opening gives
-- at most so many ids, and each event at most one.
pub record IsReached (script : Script) (run : RunState) : Type 0 where
  pub history : History
  pub consistent : IsConsistent script history run
  pub most : history.events.room ≤ MOST_EVENTS
  pub booted : run.state.booted ≡ true
  pub once : IsListedOnce run.state.specs
  pub ids : run.state.objects.next ≤ MOST_AT_OPENING + length history.events.list
