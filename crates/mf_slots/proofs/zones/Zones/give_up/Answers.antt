use Rattle.std.proofs.Common.{rules}
use Rattle.mf_slots.proofs.zones.Zones.give_up.Goals as goal

pub loop-slot-preserved : goal.loop-slot-preserved
loop-slot-preserved c = search rules
