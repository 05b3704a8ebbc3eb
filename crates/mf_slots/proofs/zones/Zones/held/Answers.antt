use Rattle.std.proofs.Common.{◌<◌, ◌≤◌, length, sym, arith}
use Rattle.slab.specs.Slab.{slab_len}
use Rattle.mf_slots.specs.declared.zones.TheConstants.{MOST_HELD}
use Rattle.mf_slots.proofs.Counted.{few_at}
use Rattle.mf_slots.proofs.zones.Zones.held.Goals as goal

pub overflow_cast-result : goal.overflow_cast-result
overflow_cast-result c =
    let slabs = c.self.inside.zones.items in
    let within : c.args.slot < length slabs = omega (arith, c.self.invariant.0, c.requires) in
    let most : slab_len c.index.result.now ≤ MOST_HELD = few_at slabs c.args.slot c.index.result.now within (sym c.index.ensures) c.self.invariant.2 in
    omega (arith, c.len.ensures, most)
