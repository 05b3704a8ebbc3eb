use Rattle.std.proofs.Common.{ℕ, ◌<◌, sym, subst, arith, Option, Some, set, length, ◌∙◌}
use Rattle.std.proofs.lemmas.List.{length-set}
use Rattle.mf_slots.specs.Zones.{Contents, Frees}
use Rattle.mf_slots.proofs.Places.{seen, frees_zone}
use Rattle.mf_slots.proofs.Counted.{few_changed, few_left}
use Rattle.mf_slots.proofs.ZonesLaws.{set_frees}
use Rattle.mf_slots.proofs.zones.Zones.free.Goals as goal

pub returns-in-Some : goal.returns-in-Some
returns-in-Some c =
    let slabs = c.self.inside.zones.items in
    let zones' = seen (set slabs c.args.slot c.try_remove.new.self) in
    let within : c.args.slot < length slabs = omega (arith, c.self.invariant.0, c.requires) in
    let f : Frees (seen slabs) zones' c.args.slot (Some c.in-Some.key) =
    frees_zone slabs c.args.slot c.index_mut-zone.result.now c.try_remove.new.self c.in-Some.key within (sym c.index_mut-zone.ensures.value) c.try_remove.ensures.updates in
    subst (λ (k : Option ℕ). Frees c.args.self.now zones' c.args.slot k) (sym c.in-Some.is)
    (subst (λ (z : Contents). Frees z zones' c.args.slot (Some c.in-Some.key)) c.self.view_is f)

pub invariant_of-self : goal.invariant_of-self
invariant_of-self c =
    let slabs = c.self.inside.zones.items in
    let zones' = seen (set slabs c.args.slot c.try_remove.new.self) in
    let within : c.args.slot < length slabs = omega (arith, c.self.invariant.0, c.requires) in
    let f : Frees (seen slabs) zones' c.args.slot (Some c.in-Some.key) =
    frees_zone slabs c.args.slot c.index_mut-zone.result.now c.try_remove.new.self c.in-Some.key within (sym c.index_mut-zone.ensures.value) c.try_remove.ensures.updates in (
      length-set slabs c.args.slot c.try_remove.new.self ∙ c.self.invariant.0,
      set_frees (seen slabs) zones' c.args.slot (Some c.in-Some.key) c.self.invariant.1 f,
      few_changed slabs c.args.slot c.index_mut-zone.result.now c.try_remove.new.self within (sym c.index_mut-zone.ensures.value)
          (few_left c.index_mut-zone.result.now c.try_remove.new.self c.try_remove.result c.try_remove.ensures.len c.try_remove.ensures.absent) c.self.invariant.2,
    )
