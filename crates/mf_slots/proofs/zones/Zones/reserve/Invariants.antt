use Rattle.std.proofs.Common.{◌≡◌, length}
use Rattle.mf_slots.proofs.Places.{seen}
use Rattle.mf_slots.proofs.zones.Zones.reserve.Given as goal

abbrev pub invariant-loop-slot : goal.invariant-loop-slot
invariant-loop-slot l = record { long : length l.self-inside.zones.items ≡ 4; same : seen l.self-inside.zones.items ≡ l.fn.self }
