use Rattle.std.proofs.Common.{◌≡◌, ◌+◌, drop, map}
use Rattle.std.specs.List.{AllByRecursion}
use Rattle.mf_flow.proofs.Followed.{IsReplayed}
use Rattle.mf_chains.specs.Happenings.{happened_from, happenings_of}
use Rattle.mf_chains.specs.Pasts.{HasLabelSlot, with_more}
use Rattle.mf_chains.proofs.pasts.happenings.Given as goal

abbrev pub invariant-loop-place : goal.invariant-loop-place
invariant-loop-place l =
    IsReplayed l.script l.event-items l.place l.run
    × AllByRecursion HasLabelSlot l.pasts.items
    × (map (with_more (λ r. happened_from l.script r l.run.run (l.place + 1) (drop l.place l.event-items))) l.pasts.items
    ≡ map (with_more (λ r. happenings_of l.script r l.event-items)) l.fn.pasts.items)
