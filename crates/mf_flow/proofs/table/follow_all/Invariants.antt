use Rattle.std.proofs.Common.{◌≡◌, map}
use Rattle.std.specs.List.{AllByRecursion}
use Rattle.mf_flow.specs.Table.{sourced}
use Rattle.mf_flow.proofs.Followed.{IsReplayed, IsFlow}
use Rattle.mf_flow.proofs.table.follow_all.Given as goal

abbrev pub invariant-loop-event : goal.invariant-loop-event
invariant-loop-event l =
    IsReplayed l.script l.event-items l.event-index l.run
    × (map (λ flow. flow.registration) l.flows.items ≡ sourced l.history.boots)
    × AllByRecursion (IsFlow l.script l.event-items l.event-index l.run) l.flows.items
