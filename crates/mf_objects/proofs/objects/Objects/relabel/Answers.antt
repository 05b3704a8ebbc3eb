use Rattle.std.proofs.Common.{◌≡◌, List, refl, ap, sym, ◌∙◌, subst}
use Rattle.std.proofs.lemmas.Result.{on_ok_weaker}
use Rattle.mf_elem.specs.declared.label.LabelValue.{LabelValue}
use Rattle.mf_slots.specs.Zones.{Relabels, given_to, label_values}
use Rattle.mf_slots.proofs.Relabelling.{length-given_to}
use Rattle.mf_objects.specs.Live.{Entities, label_at}
use Rattle.mf_objects.specs.Lives.{HasSlotsFor}
use Rattle.mf_objects.specs.Changes.{with_change}
use Rattle.mf_objects.specs.Labels.{with_label}
use Rattle.mf_objects.specs.Sound.{IsPlace}
use Rattle.mf_objects.proofs.Found.{label_there}
use Rattle.mf_objects.proofs.Kept.{view, held_place, place_within, label_changed, relabel_sound, slots_made}
use Rattle.mf_objects.proofs.Indexed.{index_set}
use Rattle.mf_objects.proofs.Counted.{still_open}
use Rattle.mf_objects.proofs.objects.Objects.relabel.Goals as goal

pub relabel-requires : goal.relabel-requires
relabel-requires c =
    let zones = c.self.inside.zones in
    let es = c.self.inside.entities.items in
    let place : IsPlace (view c.self.inside.next zones es) c.args.id c.place-place.result =
    subst (λ (o : Entities). IsPlace o c.args.id c.place-place.result) (sym c.self.view_is) c.place-place.ensures in
    held_place c.self.inside.next zones es c.place-place.result c.index_mut.result.now
    (place_within c.self.inside.next zones es c.args.id c.place-place.result place) c.index_mut.ensures.value c.self.invariant.0

pub invariant_of-self : goal.invariant_of-self
invariant_of-self c =
    let zones = c.self.inside.zones in
    let es = c.self.inside.entities.items in
    let e = c.index_mut.result.now in
    let values : List LabelValue = given_to c.args.values.now (label_values zones e.label) in
    let place : IsPlace (view c.self.inside.next zones es) c.args.id c.place-place.result =
    subst (λ (o : Entities). IsPlace o c.args.id c.place-place.result) (sym c.self.view_is) c.place-place.ensures in (
      relabel_sound c.relabel.result c.self.inside.next zones c.relabel.new.self es c.args.id c.place-place.result e c.relabel.new.label values
          (length-given_to c.args.values.now (label_values zones e.label)) place c.index_mut.ensures.value c.self.invariant.0 c.relabel.ensures.ok c.relabel.ensures.err,
      index_set c.self.inside.index es c.place-place.result e (record e { label = c.relabel.new.label }) c.index_mut.ensures.value refl refl refl c.self.invariant.1,
      still_open c.self.inside.open_fds c.self.inside.next zones es c.args.id c.place-place.result e (record e { label = c.relabel.new.label }) place c.index_mut.ensures.value refl c.self.invariant.2,
    )

pub returns-clause-ok : goal.returns-clause-ok
returns-clause-ok c =
    let next = c.self.inside.next in
    let zones = c.self.inside.zones in
    let es = c.self.inside.entities.items in
    let e = c.index_mut.result.now in
    let values : List LabelValue = given_to c.args.values.now (label_values zones e.label) in
    let place : IsPlace (view next zones es) c.args.id c.place-place.result =
    subst (λ (o : Entities). IsPlace o c.args.id c.place-place.result) (sym c.self.view_is) c.place-place.ensures in
    let label : values ≡ given_to c.args.values.now (label_at (view next zones es) c.args.id) =
    ap (given_to c.args.values.now) (label_there next zones es c.args.id c.place-place.result e place c.index_mut.ensures.value) in
    on_ok_weaker c.relabel.result (λ (relabels : Relabels zones c.relabel.new.self e.label c.relabel.new.label values).
    (label_changed next zones c.relabel.new.self es c.args.id c.place-place.result e c.relabel.new.label values
    (length-given_to c.args.values.now (label_values zones e.label)) place c.index_mut.ensures.value c.self.invariant.0 relabels).shows
    ∙ ap (λ (vs : List LabelValue). with_change (with_label vs) (view next zones es) c.args.id) label
    ∙ ap (λ (o : Entities). with_change (with_label (given_to c.args.values.now (label_at o c.args.id))) o c.args.id) c.self.view_is) c.relabel.ensures.ok

pub returns-clause-made : goal.returns-clause-made
returns-clause-made c has =
    let zones = c.self.inside.zones in
    let es = c.self.inside.entities.items in
    let place : IsPlace (view c.self.inside.next zones es) c.args.id c.place-place.result =
    subst (λ (o : Entities). IsPlace o c.args.id c.place-place.result) (sym c.self.view_is) c.place-place.ensures in
    c.relabel.ensures.made (slots_made c.self.inside.next zones es c.args.id c.place-place.result c.index_mut.result.now c.args.values.now place c.index_mut.ensures.value
    (subst (λ (o : Entities). HasSlotsFor (label_at o c.args.id) c.args.values.now) (sym c.self.view_is) has))
