use Rattle.std.proofs.Common.{◌≡◌, None, ap, sym, ◌∙◌, subst, refl}
use Rattle.std.proofs.lemmas.Result.{on_ok_weaker}
use Rattle.mf_slots.specs.Zones.{handle, Makes}
use Rattle.mf_objects.specs.Live.{Entities}
use Rattle.mf_objects.specs.Lives.{value_at}
use Rattle.mf_objects.specs.Changes.{with_change}
use Rattle.mf_objects.specs.Labels.{with_value}
use Rattle.mf_objects.specs.Sound.{IsPlace}
use Rattle.mf_objects.proofs.Kept.{view, held_place, made_place, place_within, value_set, value_made, unmade_value, unmade_none, made_sound}
use Rattle.mf_objects.proofs.Indexed.{index_set}
use Rattle.mf_objects.proofs.Counted.{still_open}
use Rattle.mf_objects.proofs.objects.Objects.set_label.Goals as goal

pub set-requires-clause-made : goal.set-requires-clause-made
set-requires-clause-made c =
    let zones = c.self.inside.zones in
    let es = c.self.inside.entities.items in
    let place : IsPlace (view c.self.inside.next zones es) c.args.id c.place-place.result =
    subst (λ (o : Entities). IsPlace o c.args.id c.place-place.result) (sym c.self.view_is) c.place-place.ensures in
    let held = held_place c.self.inside.next zones es c.place-place.result c.index_mut.result.now
    (place_within c.self.inside.next zones es c.args.id c.place-place.result place) c.index_mut.ensures.value c.self.invariant.0 in
    made_place zones c.args.slot (handle c.index_mut.result.now.label c.args.slot) (held.each c.args.slot c.requires.slot) (c.if-is_made.ensures.0 refl)

pub invariant_of-self : goal.invariant_of-self
invariant_of-self c =
    let zones = c.self.inside.zones in
    let es = c.self.inside.entities.items in
    let place : IsPlace (view c.self.inside.next zones es) c.args.id c.place-place.result =
    subst (λ (o : Entities). IsPlace o c.args.id c.place-place.result) (sym c.self.view_is) c.place-place.ensures in (
      (value_set c.self.inside.next zones c.set.new.self es c.args.id c.place-place.result c.index_mut.result.now c.args.slot c.args.value
          c.requires.slot c.requires.value place c.index_mut.ensures.value c.self.invariant.0 c.set.ensures).sound,
      index_set c.self.inside.index es c.place-place.result c.index_mut.result.now c.index_mut.result.now c.index_mut.ensures.value refl refl refl c.self.invariant.1,
      still_open c.self.inside.open_fds c.self.inside.next zones es c.args.id c.place-place.result c.index_mut.result.now c.index_mut.result.now place c.index_mut.ensures.value refl c.self.invariant.2,
    )

pub returns-then-is_made-clause-ok : goal.returns-then-is_made-clause-ok
returns-then-is_made-clause-ok c =
    let zones = c.self.inside.zones in
    let es = c.self.inside.entities.items in
    let place : IsPlace (view c.self.inside.next zones es) c.args.id c.place-place.result =
    subst (λ (o : Entities). IsPlace o c.args.id c.place-place.result) (sym c.self.view_is) c.place-place.ensures in
    (value_set c.self.inside.next zones c.set.new.self es c.args.id c.place-place.result c.index_mut.result.now c.args.slot c.args.value
    c.requires.slot c.requires.value place c.index_mut.ensures.value c.self.invariant.0 c.set.ensures).shows
    ∙ ap (λ (o : Entities). with_change (with_value c.args.slot c.args.value) o c.args.id) c.self.view_is

pub make-requires-clause-held : goal.make-requires-clause-held
make-requires-clause-held c =
    let zones = c.self.inside.zones in
    let es = c.self.inside.entities.items in
    let place : IsPlace (view c.self.inside.next zones es) c.args.id c.place-place.result =
    subst (λ (o : Entities). IsPlace o c.args.id c.place-place.result) (sym c.self.view_is) c.place-place.ensures in
    held_place c.self.inside.next zones es c.place-place.result c.index_mut.result.now
    (place_within c.self.inside.next zones es c.args.id c.place-place.result place) c.index_mut.ensures.value c.self.invariant.0

pub invariant_of-self-2 : goal.invariant_of-self-2
invariant_of-self-2 c =
    let zones = c.self.inside.zones in
    let es = c.self.inside.entities.items in
    let place : IsPlace (view c.self.inside.next zones es) c.args.id c.place-place.result =
    subst (λ (o : Entities). IsPlace o c.args.id c.place-place.result) (sym c.self.view_is) c.place-place.ensures in
    let unset : handle c.index_mut.result.now.label c.args.slot ≡ None =
    unmade_none (handle c.index_mut.result.now.label c.args.slot) (λ some. let t = c.if-is_made.ensures in t.1 some) in (
      made_sound c.make.result c.self.inside.next zones c.make.new.self es c.args.id c.place-place.result c.index_mut.result.now c.make.new.label c.args.slot c.args.value
          c.requires.slot c.requires.value place c.index_mut.ensures.value c.self.invariant.0 unset c.make.ensures.ok c.make.ensures.err,
      index_set c.self.inside.index es c.place-place.result c.index_mut.result.now (record c.index_mut.result.now { label = c.make.new.label }) c.index_mut.ensures.value refl refl refl c.self.invariant.1,
      still_open c.self.inside.open_fds c.self.inside.next zones es c.args.id c.place-place.result c.index_mut.result.now (record c.index_mut.result.now { label = c.make.new.label }) place c.index_mut.ensures.value refl c.self.invariant.2,
    )

pub returns-clause-ok : goal.returns-clause-ok
returns-clause-ok c =
    let zones = c.self.inside.zones in
    let es = c.self.inside.entities.items in
    let place : IsPlace (view c.self.inside.next zones es) c.args.id c.place-place.result =
    subst (λ (o : Entities). IsPlace o c.args.id c.place-place.result) (sym c.self.view_is) c.place-place.ensures in
    let unset : handle c.index_mut.result.now.label c.args.slot ≡ None =
    unmade_none (handle c.index_mut.result.now.label c.args.slot) (λ some. let t = c.if-is_made.ensures in t.1 some) in
    on_ok_weaker c.make.result (λ (makes : Makes zones c.make.new.self c.index_mut.result.now.label c.make.new.label c.args.slot c.args.value).
    (value_made c.self.inside.next zones c.make.new.self es c.args.id c.place-place.result c.index_mut.result.now c.make.new.label c.args.slot c.args.value
    c.requires.slot c.requires.value place c.index_mut.ensures.value c.self.invariant.0 unset makes).shows
    ∙ ap (λ (o : Entities). with_change (with_value c.args.slot c.args.value) o c.args.id) c.self.view_is) c.make.ensures.ok

pub returns-clause-made : goal.returns-clause-made
returns-clause-made c made =
    let zones = c.self.inside.zones in
    let es = c.self.inside.entities.items in
    let place : IsPlace (view c.self.inside.next zones es) c.args.id c.place-place.result =
    subst (λ (o : Entities). IsPlace o c.args.id c.place-place.result) (sym c.self.view_is) c.place-place.ensures in
    let unset : handle c.index_mut.result.now.label c.args.slot ≡ None =
    unmade_none (handle c.index_mut.result.now.label c.args.slot) (λ some. let t = c.if-is_made.ensures in t.1 some) in
    absurd (made (ap (λ (o : Entities). value_at o c.args.id c.args.slot) (sym c.self.view_is)
    ∙ unmade_value c.self.inside.next zones es c.args.id c.place-place.result c.index_mut.result.now c.args.slot c.requires.slot place c.index_mut.ensures.value unset))
