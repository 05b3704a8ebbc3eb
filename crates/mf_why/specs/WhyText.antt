-- The text of why the calls of a history were denied, and by which rules others were allowed: by docs/MANUAL.md (WHY).
use Rattle.std.specs.Option.{option_map_or}
use Rattle.std.specs.Prelude.{ℕ, if◌then◌else◌, List, [], ◌∷◌, ◌++◌, codes}
use Rattle.std.specs.Fmt.{decimal}
use Rattle.mf_calls.specs.declared.script.Script.{Script}
use Rattle.mf_calls.specs.Tasks.{name_of}
use Rattle.mf_plan.specs.declared.reply.Reply.{Reply}
use Rattle.mf_plan.specs.declared.state.State.{State}
use Rattle.mf_plan.specs.Planned.{Plan}
use Rattle.mf_perform.specs.Passed.{passed}
use Rattle.mf_core.specs.declared.history.Event.{Event}
use Rattle.mf_core.specs.declared.history.Event.TheVariants as event
use Rattle.mf_core.specs.declared.history.History.{History}
use Rattle.mf_core.specs.LegalHistory.{RunState, opening_run, run_after}
use Rattle.mf_core.specs.Next.{next_plan}
use Rattle.mf_why.specs.declared.extent.Extent.{Extent}
use Rattle.mf_why.specs.Lines.{denied_text, each_check, lowerings_text, permits_text, tells_permits}

-- what is told of a call with this plan and this reply, of the state before it
abbrev pub call_text : Extent → State → List ℕ → Plan → Reply → List ℕ
call_text extent s place plan reply =
    lowerings_text s place (passed reply plan.items)
    ++ (if tells_permits extent reply then each_check (permits_text s.specs place) 1 plan.items else [])
    ++ denied_text s place plan.items reply

-- of the call of the task's line of that number, which comes next
abbrev pub next_text : Extent → Script → RunState → ℕ → ℕ → Reply → List ℕ
next_text extent s r t line reply =
    option_map_or (λ plan. call_text extent r.state (name_of s t ++ codes " " ++ decimal line) plan reply) (next_plan s r t) []

abbrev pub event_text : Extent → Script → RunState → Event → List ℕ
event_text extent s r (event.Done t line reply) = next_text extent s r t line reply
event_text extent s r (event.Changed t line reply) = next_text extent s r t line reply
event_text extent s r other = []

abbrev pub events_text : Extent → Script → RunState → List Event → List ℕ
events_text extent s r [] = []
events_text extent s r (e ∷ es) = event_text extent s r e ++ events_text extent s (run_after s r e) es

-- the why part of a history's text
abbrev pub why_text : Extent → Script → History → List ℕ
why_text extent s h = events_text extent s (opening_run s) h.events.list
