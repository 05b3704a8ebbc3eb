use Rattle.std.proofs.Common.{◌≡◌, ℕ, ◌<◌, length}
use Rattle.mf_elem.specs.declared.label.TheConstants.{SLOTS}
use Rattle.mf_slots.specs.Zones.{slot_value, value_for}
use Rattle.mf_slots.proofs.zones.Zones.fill.Given as goal

abbrev pub invariant-loop-slot : goal.invariant-loop-slot
invariant-loop-slot l = record {
  long : length l.values ≡ SLOTS;
  shown : (slot : ℕ) → slot < l.slot → slot_value l.self l.label slot ≡ value_for l.values slot;
}
