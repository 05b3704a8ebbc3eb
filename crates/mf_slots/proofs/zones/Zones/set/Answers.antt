use Rattle.std.proofs.Common.{◌≡◌, ℕ, ◌<◌, ◌≤◌, ap, sym, ◌∙◌, subst, arith, Option, Some, set, length}
use Rattle.std.proofs.lemmas.List.{length-set}
use Rattle.slab.specs.Slab.{Slab}
use Rattle.mf_elem.specs.declared.label.LabelValue.{LabelValue}
use Rattle.mf_slots.specs.Zones.{Zone, Contents, Handles, Writes, SetsAt, IsIn, IsMadeAt, handle, zone_of}
use Rattle.mf_slots.proofs.Places.{seen, seen_at, writes_zone}
use Rattle.mf_slots.proofs.Counted.{few_changed}
use Rattle.mf_slots.specs.declared.zones.TheConstants.{MOST_HELD}
use Rattle.mf_slots.proofs.ZonesLaws.{set_writes}
use Rattle.mf_slots.proofs.zones.Zones.set.Goals as goal

pub put-requires : goal.put-requires
put-requires c =
    let slabs = c.self.inside.zones.items in
    let within : c.args.slot < length slabs = omega (arith, c.self.invariant.0, c.requires.slot) in
    let named : handle c.args.label.now c.args.slot ≡ Some c.in-Some.key = ap (λ (l : Handles). handle l c.args.slot) (sym c.label.view_is) ∙ c.in-Some.is in
    let there : IsIn (zone_of c.args.self.now c.args.slot) (Some c.in-Some.key) = subst (λ (h : Option ℕ). IsMadeAt c.args.self.now c.args.slot h) named c.requires.made in
    let zone : zone_of (seen slabs) c.args.slot ≡ c.index_mut.result.now.slots =
    seen_at slabs c.args.slot c.index_mut.result.now within ∙ ap (λ (s : Slab LabelValue). s.slots) (sym c.index_mut.ensures.value) in
    subst (λ (z : Zone). IsIn z (Some c.in-Some.key)) zone (subst (λ (z : Contents). IsIn (zone_of z c.args.slot) (Some c.in-Some.key)) (sym c.self.view_is) there)

pub returns-in-Some : goal.returns-in-Some
returns-in-Some c =
    let slabs = c.self.inside.zones.items in
    let key : ℕ = c.in-Some.key in
    let zones' = seen (set slabs c.args.slot c.put.new.zone) in
    let within : c.args.slot < length slabs = omega (arith, c.self.invariant.0, c.requires.slot) in
    let named : handle c.args.label.now c.args.slot ≡ Some key = ap (λ (l : Handles). handle l c.args.slot) (sym c.label.view_is) ∙ c.in-Some.is in
    let w : Writes (seen slabs) zones' c.args.slot key (Some c.args.value) =
    writes_zone slabs c.args.slot c.index_mut.result.now c.put.new.zone key (Some c.args.value) within (sym c.index_mut.ensures.value) c.put.ensures.updates in
    subst (λ (h : Option ℕ). SetsAt c.args.self.now zones' c.args.slot h c.args.value) (sym named)
    (subst (λ (z : Contents). Writes z zones' c.args.slot key (Some c.args.value)) c.self.view_is w)

pub invariant_of-self : goal.invariant_of-self
invariant_of-self c =
    let slabs = c.self.inside.zones.items in
    let zones' = seen (set slabs c.args.slot c.put.new.zone) in
    let within : c.args.slot < length slabs = omega (arith, c.self.invariant.0, c.requires.slot) in
    let w : Writes (seen slabs) zones' c.args.slot c.in-Some.key (Some c.args.value) =
    writes_zone slabs c.args.slot c.index_mut.result.now c.put.new.zone c.in-Some.key (Some c.args.value) within (sym c.index_mut.ensures.value) c.put.ensures.updates in (
      length-set slabs c.args.slot c.put.new.zone ∙ c.self.invariant.0,
      set_writes (seen slabs) zones' c.args.slot c.in-Some.key c.args.value c.self.invariant.1 c.requires.value w,
      few_changed slabs c.args.slot c.index_mut.result.now c.put.new.zone within (sym c.index_mut.ensures.value) (subst (λ (n : ℕ). n ≤ MOST_HELD) (sym c.put.ensures.len)) c.self.invariant.2,
    )
