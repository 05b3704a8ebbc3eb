use Rattle.std.proofs.Common.{◌≡◌, ◌+◌}
use Rattle.mf_core.specs.RunView.{IsReached}
use Rattle.mf_audit.proofs.Playing.{IsPlayed}
use Rattle.mf_audit.proofs.audit.audit_events.Given as goal

abbrev pub invariant-loop-event : goal.invariant-loop-event
invariant-loop-event l = record {
  played : IsPlayed l.fn.script l.events l.event-index l.player;
  reached : IsReached l.player.script l.player.run;
  line : l.line ≡ l.boots + l.event-index;
}
