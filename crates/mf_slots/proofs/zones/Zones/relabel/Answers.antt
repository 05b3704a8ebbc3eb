use Rattle.std.proofs.Common.{◌≡◌, ◌<◌, length, set, sym, ◌∙◌, subst, arith, ap, ℕ, refl}
use Rattle.std.proofs.lemmas.List.{length-map, length-set}
use Rattle.slab.specs.Slab.{Slab}
use Rattle.mf_elem.specs.declared.label.LabelValue.{LabelValue}
use Rattle.mf_slots.specs.Zones.{Contents, Handles, NoneUnset, NoneOverfull, given_to, label_values}
use Rattle.mf_slots.proofs.Places.{seen, seen_kept}
use Rattle.mf_slots.proofs.Relabelling.{RewritesBelow, on_err, room_more, rewrites_more, rewritten, set_relabels}
use Rattle.mf_slots.proofs.zones.Zones.relabel.Goals as goal

pub invariant_of-self : goal.invariant_of-self
invariant_of-self c =
    let slabs = c.loop-slot.self-inside.zones.items in
    let n = c.loop-slot.slot in
    let within : n < length slabs = omega (arith, c.loop-slot.invariant.long) in
    let same : seen (set slabs n c.make_room.new.zone) ≡ c.args.self.now =
    seen_kept slabs n c.index_mut-zone.result.now c.make_room.new.zone within (sym c.index_mut-zone.ensures.value) c.in_err-make_room.ensures.same ∙ c.loop-slot.invariant.same in (
      length-set slabs n c.make_room.new.zone ∙ c.loop-slot.invariant.long,
      subst NoneUnset (c.self.view_is ∙ sym same) c.self.invariant.1,
      subst NoneOverfull (c.self.view_is ∙ sym same) c.self.invariant.2,
    )

pub returns-in_err-make_room-clause-err : goal.returns-in_err-make_room-clause-err
returns-in_err-make_room-clause-err c =
    let slabs = c.loop-slot.self-inside.zones.items in
    let n = c.loop-slot.slot in
    let within : n < length slabs = omega (arith, c.loop-slot.invariant.long) in
    on_err c.from_residual.result _
    (seen_kept slabs n c.index_mut-zone.result.now c.make_room.new.zone within (sym c.index_mut-zone.ensures.value) c.in_err-make_room.ensures.same ∙ c.loop-slot.invariant.same, refl)

pub loop-slot-preserved : goal.loop-slot-preserved
loop-slot-preserved c =
    room_more c.loop-slot.slot c.args.self.now c.loop-slot.self-inside.zones.items c.index_mut-zone.result.now c.make_room.new.zone c.label.inside.handles c.args.values.now
    (omega arith) (sym c.index_mut-zone.ensures.value) c.in_ok-make_room.ensures.same c.in_ok-make_room.ensures.room c.loop-slot.invariant

pub invariant_of-self-in-loop-slot-2 : goal.invariant_of-self-in-loop-slot-2
invariant_of-self-in-loop-slot-2 c =
    let slabs = c.loop-slot-2.self-inside.zones.items in
    let keys = c.loop-slot-2.label-inside.handles in
    let all : c.loop-slot-2.slot ≡ 4 = omega arith in
    let below = subst (λ (n : ℕ). RewritesBelow n c.args.self.now slabs c.args.label.now keys c.args.values.now) all c.loop-slot-2.invariant in
    let four : length c.args.self.now ≡ 4 = ap (λ (z : Contents). length z) (sym c.self.view_is) ∙ length-map c.self.inside.zones.items (λ (s : Slab LabelValue). s.slots) ∙ c.self.invariant.0 in
    let long : length c.args.label.now ≡ 4 = ap (λ (l : Handles). length l) (sym c.label.view_is) ∙ c.label.invariant in
    let relabels = rewritten c.args.self.now slabs c.args.label.now keys c.args.values.now four long below in
    (below.long, set_relabels c.args.self.now (seen slabs) c.args.label.now keys (given_to c.args.values.now (label_values c.args.self.now c.args.label.now)) (subst NoneUnset c.self.view_is c.self.invariant.1) relabels, below.few)

pub loop-slot-2-preserved : goal.loop-slot-2-preserved
loop-slot-2-preserved c =
    rewrites_more c.loop-slot-2.slot c.args.self.now c.loop-slot-2.self-inside.zones.items c.index_mut-zone-in-loop-slot-2.result.now c.rewrite.new.zone
    c.args.label.now c.loop-slot-2.label-inside.handles c.rewrite.result c.args.values.now
    (omega arith) (sym c.index_mut-zone-in-loop-slot-2.ensures.value) c.rewrite.ensures.rewrites c.rewrite.ensures.most c.loop-slot-2.invariant

pub returns-clause-ok : goal.returns-clause-ok
returns-clause-ok c =
    let slabs = c.loop-slot-2.self-inside.zones.items in
    let keys = c.loop-slot-2.label-inside.handles in
    let all : c.loop-slot-2.slot ≡ 4 = omega arith in
    let below = subst (λ (n : ℕ). RewritesBelow n c.args.self.now slabs c.args.label.now keys c.args.values.now) all c.loop-slot-2.invariant in
    let four : length c.args.self.now ≡ 4 = ap (λ (z : Contents). length z) (sym c.self.view_is) ∙ length-map c.self.inside.zones.items (λ (s : Slab LabelValue). s.slots) ∙ c.self.invariant.0 in
    let long : length c.args.label.now ≡ 4 = ap (λ (l : Handles). length l) (sym c.label.view_is) ∙ c.label.invariant in
    rewritten c.args.self.now slabs c.args.label.now keys c.args.values.now four long below

pub invariant_of-label : goal.invariant_of-label
invariant_of-label c = c.loop-slot-2.invariant.wide
