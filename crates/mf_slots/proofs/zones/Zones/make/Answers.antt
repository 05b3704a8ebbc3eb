use Rattle.std.proofs.Common.{◌≡◌, ◌<◌, sym, subst, arith, Some, set, length, ◌∙◌}
use Rattle.std.proofs.lemmas.List.{length-set}
use Rattle.mf_slots.specs.Zones.{Contents, Handles, Makes, NoneUnset, NoneOverfull}
use Rattle.mf_slots.proofs.Places.{seen, made, seen_kept}
use Rattle.mf_slots.proofs.Counted.{few_set}
use Rattle.mf_slots.proofs.ZonesLaws.{set_writes}
use Rattle.mf_slots.proofs.zones.Zones.make.Goals as goal

pub returns-clause-ok : goal.returns-clause-ok
returns-clause-ok c =
    let slabs = c.self.inside.zones.items in
    let within : c.args.slot < length slabs = omega (arith, c.self.invariant.0, c.requires.slot) in
    let long : c.args.slot < length c.label.inside.handles = omega arith in
    let m =
    made slabs c.args.slot c.index_mut-zone.result.now c.keep.new.zone c.in_ok-key.key c.args.value c.label.inside.handles within long (sym c.index_mut-zone.ensures.value) c.in_ok-key.ensures.ok in
    let slabs' = set slabs c.args.slot c.keep.new.zone in
    let keys' = set c.label.inside.handles c.args.slot (Some c.in_ok-key.key) in
    subst (λ (z : Contents). Makes z (seen slabs') c.args.label.now keys' c.args.slot c.args.value) c.self.view_is
    (subst (λ (l : Handles). Makes (seen slabs) (seen slabs') l keys' c.args.slot c.args.value) c.label.view_is m)

pub invariant_of-self : goal.invariant_of-self
invariant_of-self c =
    let slabs = c.self.inside.zones.items in
    let slabs' = set slabs c.args.slot c.keep.new.zone in
    let within : c.args.slot < length slabs = omega (arith, c.self.invariant.0, c.requires.slot) in
    let same : seen slabs' ≡ seen slabs = seen_kept slabs c.args.slot c.index_mut-zone.result.now c.keep.new.zone within (sym c.index_mut-zone.ensures.value) c.in_err-key.ensures.err in
    (length-set slabs c.args.slot c.keep.new.zone ∙ c.self.invariant.0, subst NoneUnset (sym same) c.self.invariant.1, subst NoneOverfull (sym same) c.self.invariant.2)

pub invariant_of-self-2 : goal.invariant_of-self-2
invariant_of-self-2 c =
    let slabs = c.self.inside.zones.items in
    let slabs' = set slabs c.args.slot c.keep.new.zone in
    let within : c.args.slot < length slabs = omega (arith, c.self.invariant.0, c.requires.slot) in
    let long : c.args.slot < length c.label.inside.handles = omega arith in
    let m =
    made slabs c.args.slot c.index_mut-zone.result.now c.keep.new.zone c.in_ok-key.key c.args.value c.label.inside.handles within long (sym c.index_mut-zone.ensures.value) c.in_ok-key.ensures.ok in (
      length-set slabs c.args.slot c.keep.new.zone ∙ c.self.invariant.0,
      set_writes (seen slabs) (seen slabs') c.args.slot m.new c.args.value c.self.invariant.1 c.requires.value m.writes,
      few_set slabs c.args.slot c.keep.new.zone c.in_ok-key.ensures.most c.self.invariant.2,
    )
