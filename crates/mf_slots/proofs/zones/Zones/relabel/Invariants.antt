use Rattle.mf_slots.proofs.Relabelling.{HasRoomBelow, RewritesBelow}
use Rattle.mf_slots.proofs.zones.Zones.relabel.Given as goal

abbrev pub invariant-loop-slot : goal.invariant-loop-slot
invariant-loop-slot l = HasRoomBelow l.slot l.fn.self l.self-inside.zones.items l.label-inside.handles l.values

abbrev pub invariant-loop-slot-2 : goal.invariant-loop-slot-2
invariant-loop-slot-2 l = RewritesBelow l.slot l.fn.self l.self-inside.zones.items l.fn.label l.label-inside.handles l.values
