-- How a player goes on: by an event where it may come, and by a call where a reply is its reply; inner contracts alone cite this.
use Rattle.std.specs.Prelude.{◌≡◌, ◌≢◌, ℕ, Bool, true, false, if◌then◌else◌, List, Option, Some, None, Result, Ok, Err}
use Rattle.mf_errno.specs.declared.errno.Errno.{Errno}
use Rattle.mf_elem.specs.declared.label.LabelValue.{LabelValue}
use Rattle.mf_objects.specs.declared.id.Id.{Id}
use Rattle.mf_calls.specs.declared.script.Call.{Call}
use Rattle.mf_plan.specs.declared.reply.Reply.{Reply}
use Rattle.mf_plan.specs.declared.state.State.{State}
use Rattle.mf_perform.specs.Effect.{after}
use Rattle.mf_perform.specs.Held.{with_lomac_value}
use Rattle.mf_perform.specs.OneCall.{call_reply, call_state}
use Rattle.mf_core.specs.declared.history.Event.{Event}
use Rattle.mf_core.specs.LegalHistory.{MayCome}
use Rattle.mf_core.specs.RunView.{RunView, IsReached, run_on}
use Rattle.mf_audit.specs.declared.done.Done.{Done}
use Rattle.mf_audit.specs.declared.walk.Denied.{Denied}
use Rattle.mf_audit.specs.Ends.{IsSound, effect_of}

-- the run goes on to the next by the event where it may come, and nowhere else
abbrev pub Takes : RunView → Event → RunView → Bool → Type 0
Takes run e next true = MayCome run.script run.run e × (next ≡ run_on run e) × IsReached next.script next.run
Takes run e next false = ¬ MayCome run.script run.run e

-- the state goes on to the next by a call where this is its reply, and nowhere else
abbrev pub Replies : State → List ℕ → Option (List ℕ) → Call → Reply → State → Bool → Type 0
Replies s task child call reply next true = (reply ≡ call_reply s task child call) × (next ≡ call_state s task child call)
Replies s task child call reply next false = reply ≢ call_reply s task child call

-- the state after the checks of a call that left this value: a change of the policies lowers nobody
abbrev pub lowered : Bool → LabelValue → State → Id → State
lowered changes value s me = if changes then s else with_lomac_value value s (Some me)

-- what the effect of a call that may be done needs is there
abbrev pub IsSoundEffect : State → Result Done Errno → Type 0
IsSoundEffect s (Ok done) = IsSound s done.effect
IsSoundEffect s (Err errno) = Unit {0}

abbrev pub undenied : State → List ℕ → Id → Result Done Errno → State
undenied s task me (Ok done) = after s me (effect_of s task me done.effect)
undenied s task me (Err errno) = s

-- the state with the effect, where no check was denied and the call isn't refused
abbrev pub ended : State → List ℕ → Id → Option Denied → Result Done Errno → State
ended s task me (Some denied) end = s
ended s task me None end = undenied s task me end
