use Rattle.std.proofs.Common.{◌≡◌, ◌<◌, List, get_or, length, sym, ◌∙◌, rules}
use Rattle.slab.specs.Slab.{Slab}
use Rattle.mf_elem.specs.declared.label.LabelValue.{LabelValue}
use Rattle.mf_slots.proofs.Places.{at_zone}
use Rattle.mf_slots.proofs.zones.Zones.value_ref.Goals as goal

pub returns-clause-set : goal.returns-clause-set
returns-clause-set c unset =
    let slabs : List (Slab LabelValue) = c.self.inside.zones.items in
    let zone : Slab LabelValue = c.in_ok-get-2.field-0.now in
    let within : c.args.slot < length slabs = search rules in
    let is : get_or slabs c.args.slot zone ≡ zone = search rules in
    c.self.invariant.1.each c.args.slot c.in_ok-key.key (at_zone slabs c.args.slot zone c.in_ok-key.key within is ∙ sym c.get-3.ensures ∙ unset)
