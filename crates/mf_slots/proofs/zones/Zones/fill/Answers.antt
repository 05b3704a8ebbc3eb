use Rattle.std.proofs.Common.{arith, ap, sym, ◌∙◌}
use Rattle.std.proofs.lemmas.List.{length-set}
use Rattle.mf_slots.specs.Zones.{Handles, slot_value}
use Rattle.mf_slots.proofs.Places.{shown_more}
use Rattle.mf_slots.proofs.zones.Zones.fill.Goals as goal

pub loop-slot-preserved : goal.loop-slot-preserved
loop-slot-preserved c =
    let slot = c.loop-slot.slot in
    let is = ap (λ (label : Handles). slot_value c.args.self.now label slot) (sym c.label.view_is) ∙ c.fill_under.ensures in
    record {
      long = length-set c.loop-slot.values slot _ ∙ c.loop-slot.invariant.long;
      shown = shown_more c.args.self.now c.args.label.now c.loop-slot.values slot _ (omega (arith, c.loop-slot.auto, c.loop-slot.invariant.long)) is c.loop-slot.invariant.shown;
    }
