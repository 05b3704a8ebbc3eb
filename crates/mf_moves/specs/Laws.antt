-- What is true of every call and its movements: what it changes and shows they cover, and they hand on sources.
use Rattle.std.specs.Prelude.{◌≡◌, ℕ, List, [], ◌∷◌, ◌++◌, Option, Some, Contains}
use Rattle.mf_elem.specs.declared.elem.Elem.{Elem}
use Rattle.mf_policy.specs.declared.registration.Registration.{Registration}
use Rattle.mf_objects.specs.declared.id.Id.{Id}
use Rattle.mf_objects.specs.Live.{live_at}
use Rattle.mf_objects.specs.Population.{IsRising}
use Rattle.mf_calls.specs.declared.script.Call.{Call}
use Rattle.mf_calls.specs.declared.script.Line.{Line}
use Rattle.mf_calls.specs.declared.script.Script.{Script}
use Rattle.mf_calls.specs.WellFormed.{IsWellFormed}
use Rattle.mf_plan.specs.declared.reply.Payload.{Payload}
use Rattle.mf_plan.specs.declared.reply.Reply.{Reply}
use Rattle.mf_plan.specs.declared.reply.Reply.TheVariants as reply
use Rattle.mf_plan.specs.declared.state.State.{State}
use Rattle.mf_plan.specs.Names.{caller_name}
use Rattle.mf_plan.specs.Plan.{row_for}
use Rattle.mf_plan.specs.Views.{process_named}
use Rattle.mf_perform.specs.OneCall.{call_reply, call_state}
use Rattle.mf_core.specs.declared.history.Event.{Event}
use Rattle.mf_core.specs.declared.history.History.{History}
use Rattle.mf_core.specs.LegalHistory.{IsLegal, run_state_of}
use Rattle.mf_flow.specs.Sources.{Sets, moving, relabels, sets_after_line, sources_of}
use Rattle.mf_flow.specs.Table.{sourced}
use Rattle.mf_moves.specs.Alike.{AreAlike, AreTestedAlike, IsSame}
use Rattle.mf_moves.specs.Changed.{IsCovered}
use Rattle.mf_moves.specs.Handed.{EventHandsOver, HandsOver, Has, IsOpen, LeadOpen, Stays, StaysIn, StaysOver}
use Rattle.mf_moves.specs.Moves.{Lead, moves_in, moves_of}

-- Whatever is otherwise of an entity after a call of a process, where it stands in which directory too, the call's movements lead there from the
-- caller, but for what `IsCovered` names. Ids rise in every state that a history comes to.
abbrev pub ChangesAreCovered : Type 0
ChangesAreCovered = (s : State) (task : List ℕ) (child : Option (List ℕ)) (c : Call) (me id : Id)
    → process_named s.objects (caller_name task child) ≡ Some me
    → IsRising 0 s.objects.next s.objects.live
    → IsCovered me (moves_in s task child c) (row_for s task c me).effect id (live_at s.objects id) (live_at (call_state s task child c).objects id)

-- What a call hands back, where it is done in two states, is the same in both where all is the same from which its movements lead to the caller.
abbrev pub ShowsAreCovered : Type 0
ShowsAreCovered = (s s' : State) (task : List ℕ) (child : Option (List ℕ)) (c : Call) (me : Id) (shown shown' : Payload)
    → process_named s.objects (caller_name task child) ≡ Some me
    → AreAlike s s'
    → ((id : Id) → Lead (moves_in s task child c) id me → IsSame s.objects s'.objects id)
    → call_reply s task child c ≡ reply.Ok shown → call_reply s' task child c ≡ reply.Ok shown' → shown ≡ shown'

-- So is the whole reply, errors and denials too, where besides what policies and framework test is the same.
abbrev pub RepliesAreCovered : Type 0
RepliesAreCovered = (s s' : State) (task : List ℕ) (child : Option (List ℕ)) (c : Call) (me : Id)
    → process_named s.objects (caller_name task child) ≡ Some me
    → AreAlike s s' → AreTestedAlike s.objects s'.objects
    → ((id : Id) → Lead (moves_in s task child c) id me → IsSame s.objects s'.objects id)
    → call_reply s task child c ≡ call_reply s' task child c

-- Where movements that count lead from one to another, each source of the one is one of the other after the call, unless it is relabelled by the
-- call or goes. Nobody on the way may be labelled equal.
abbrev pub MovementsHandOn : Type 0
MovementsHandOn = (r : Registration) (s s' : State) (task : List ℕ) (line : Line) (reply : Reply) (sets : Sets) (from to : Id) (e : Elem)
    → IsOpen r s.objects from → LeadOpen r s.objects (moves_of (moving r s task line reply)) from to
    → Stays s s' (relabels r s task line reply to) to
    → Has (sets from) e → Has (sets_after_line r s s' task (Some line) reply sets to) e

-- The same of all movements of a call, where all count and nobody to whom one moves is labelled equal.
abbrev pub LeadsHandOn : Type 0
LeadsHandOn = (r : Registration) (s s' : State) (task : List ℕ) (line : Line) (reply : Reply) (sets : Sets) (from to : Id) (e : Elem)
    → IsOpen r s.objects from → HandsOver r s task line reply from to
    → Stays s s' (relabels r s task line reply to) to
    → Has (sets from) e → Has (sets_after_line r s s' task (Some line) reply sets to) e

-- The same over a history: of the sources after these events, and after one call more.
abbrev pub DoneHandsOn : Type 0
DoneHandsOn = (s : Script) (r : Registration) (es : List Event) (call : Event) (from to : Id) (e : Elem)
    → IsOpen r (run_state_of s es).state.objects from → EventHandsOver s r (run_state_of s es) call from to
    → StaysIn s r (run_state_of s es) call to
    → Has (sources_of s r es from) e → Has (sources_of s r (es ++ call ∷ []) to) e

-- The same over two calls of a legal history, the second from where the first led to: by each policy of sources that was booted, each source of
-- what the first led from is one of what the second leads to, where the thing between is there from the first call on, and isn't relabelled.
abbrev pub TwoCallsHandOn : Type 0
TwoCallsHandOn = (s : Script) (h : History) (r : Registration) (es between rest : List Event) (first second : Event) (from by to : Id) (e : Elem)
    → IsWellFormed s → IsLegal s h → Contains (sourced h.boots) r
    → h.events.list ≡ es ++ first ∷ between ++ second ∷ rest
    → EventHandsOver s r (run_state_of s es) first from by
    → StaysOver s r (run_state_of s es) (first ∷ between) by
    → EventHandsOver s r (run_state_of s (es ++ first ∷ between)) second by to
    → StaysIn s r (run_state_of s (es ++ first ∷ between)) second to
    → Has (sources_of s r es from) e → Has (sources_of s r (es ++ first ∷ between ++ second ∷ []) to) e
