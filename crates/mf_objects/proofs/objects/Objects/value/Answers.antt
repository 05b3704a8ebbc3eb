use Rattle.std.proofs.Common.{ap, sym, ◌∙◌, subst}
use Rattle.mf_objects.specs.Live.{Entities}
use Rattle.mf_objects.specs.Lives.{value_at}
use Rattle.mf_objects.specs.Sound.{IsPlace}
use Rattle.mf_objects.proofs.Kept.{view, held_place, place_within, value_place}
use Rattle.mf_objects.proofs.objects.Objects.value.Goals as goal

pub value-requires-clause-held : goal.value-requires-clause-held
value-requires-clause-held c =
    let zones = c.self.inside.zones in
    let es = c.self.inside.entities.items in
    let place : IsPlace (view c.self.inside.next zones es) c.args.id c.place-place.result =
    subst (λ (o : Entities). IsPlace o c.args.id c.place-place.result) (sym c.self.view_is) c.place-place.ensures in
    (held_place c.self.inside.next zones es c.place-place.result c.index.result.now
    (place_within c.self.inside.next zones es c.args.id c.place-place.result place) c.index.ensures c.self.invariant.0).each c.args.slot c.requires.slot

pub returns : goal.returns
returns c =
    let zones = c.self.inside.zones in
    let es = c.self.inside.entities.items in
    let place : IsPlace (view c.self.inside.next zones es) c.args.id c.place-place.result =
    subst (λ (o : Entities). IsPlace o c.args.id c.place-place.result) (sym c.self.view_is) c.place-place.ensures in
    c.value.ensures.value
    ∙ sym (value_place c.self.inside.next zones es c.args.id c.place-place.result c.index.result.now c.args.slot c.requires.slot place c.index.ensures)
    ∙ ap (λ (o : Entities). value_at o c.args.id c.args.slot) c.self.view_is
