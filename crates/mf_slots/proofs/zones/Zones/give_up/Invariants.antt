use Rattle.mf_slots.proofs.Places.{GivesUpBelow}
use Rattle.mf_slots.proofs.zones.Zones.give_up.Given as goal

abbrev pub invariant-loop-slot : goal.invariant-loop-slot
invariant-loop-slot l = GivesUpBelow l.slot l.initial.self l.self l.handles
