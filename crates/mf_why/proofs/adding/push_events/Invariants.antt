use Rattle.std.proofs.Common.{◌≡◌, ◌++◌, List, ℕ, drop, take, string_bytes}
use Rattle.mf_core.specs.LegalHistory.{opening_run, run_state_of}
use Rattle.mf_flow.proofs.Followed.{IsReplayed}
use Rattle.mf_why.specs.WhyText.{events_text}
use Rattle.mf_why.proofs.adding.push_events.Given as goal

abbrev pub invariant-loop-event : goal.invariant-loop-event
invariant-loop-event l =
    IsReplayed l.script l.events l.event-index l.run
    × (l.run.run ≡ run_state_of l.script (take l.event-index l.events))
    × (string_bytes l.text ++ events_text l.extent l.script l.run.run (drop l.event-index l.events)
    ≡ string_bytes l.fn.text ++ events_text l.extent l.script (opening_run l.script) l.events)
    × ((more : List ℕ) × (string_bytes l.text ≡ string_bytes l.fn.text ++ more))
