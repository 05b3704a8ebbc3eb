use Rattle.std.proofs.Common.{◌≡◌, take}
use Rattle.mf_load.specs.Replied.{errnos_in}
use Rattle.mf_load.proofs.summary.replied.Given as goal

abbrev pub invariant-loop-event : goal.invariant-loop-event
invariant-loop-event l = l.errnos.items ≡ errnos_in (take l.event-index l.events)
