use Rattle.std.proofs.Common.{◌≡◌, ◌<◌, length, set, sym, ◌∙◌, subst, arith}
use Rattle.std.proofs.lemmas.List.{length-set}
use Rattle.mf_slots.specs.Zones.{NoneUnset, NoneOverfull}
use Rattle.mf_slots.proofs.Places.{seen, seen_kept}
use Rattle.mf_slots.proofs.zones.Zones.reserve.Goals as goal

pub loop-slot-preserved : goal.loop-slot-preserved
loop-slot-preserved c =
    let slabs = c.loop-slot.self-inside.zones.items in
    let n = c.loop-slot.slot in
    let within : n < length slabs = omega (arith, c.loop-slot.invariant.long) in
    record {
      long = length-set slabs n c.reserve_where.new.zone ∙ c.loop-slot.invariant.long;
      same = seen_kept slabs n c.index_mut-zone.result.now c.reserve_where.new.zone within (sym c.index_mut-zone.ensures.value) c.reserve_where.ensures ∙ c.loop-slot.invariant.same;
    }

pub invariant_of-self-in_err-reserve_where : goal.invariant_of-self-in_err-reserve_where
invariant_of-self-in_err-reserve_where c =
    let slabs = c.loop-slot.self-inside.zones.items in
    let n = c.loop-slot.slot in
    let within : n < length slabs = omega (arith, c.loop-slot.invariant.long) in
    let same : seen (set slabs n c.reserve_where.new.zone) ≡ c.args.self.now =
    seen_kept slabs n c.index_mut-zone.result.now c.reserve_where.new.zone within (sym c.index_mut-zone.ensures.value) c.reserve_where.ensures ∙ c.loop-slot.invariant.same in (
      length-set slabs n c.reserve_where.new.zone ∙ c.loop-slot.invariant.long,
      subst NoneUnset (c.self.view_is ∙ sym same) c.self.invariant.1,
      subst NoneOverfull (c.self.view_is ∙ sym same) c.self.invariant.2,
    )
