use Rattle.std.proofs.Common.{◌≡◌, ℕ, ◌<◌}
use Rattle.mf_slots.specs.Zones.{slot_value, value_for}
use Rattle.mf_slots.proofs.zones.Zones.holds.Given as goal

abbrev pub invariant-loop-slot : goal.invariant-loop-slot
invariant-loop-slot l = (slot : ℕ) → slot < l.slot → slot_value l.self l.label slot ≡ value_for l.values slot
