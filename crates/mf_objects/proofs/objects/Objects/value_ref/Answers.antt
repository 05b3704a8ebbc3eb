use Rattle.std.proofs.Common.{ap, sym, ◌∙◌, subst}
use Rattle.mf_objects.specs.Live.{Entities}
use Rattle.mf_objects.specs.Lives.{value_at}
use Rattle.mf_objects.specs.Sound.{IsPlace}
use Rattle.mf_objects.proofs.Kept.{view, reference_place}
use Rattle.mf_objects.proofs.objects.Objects.value_ref.Goals as goal

pub returns-clause-value : goal.returns-clause-value
returns-clause-value c =
    let zones = c.self.inside.zones in
    let es = c.self.inside.entities.items in
    let place : IsPlace (view c.self.inside.next zones es) c.args.id c.place-place.result =
    subst (λ (o : Entities). IsPlace o c.args.id c.place-place.result) (sym c.self.view_is) c.place-place.ensures in
    reference_place c.self.inside.next zones es c.args.id c.place-place.result c.index.result.now c.args.slot place c.index.ensures
    _ c.value_ref.ensures.value c.value_ref.ensures.slot
    ∙ ap (λ (o : Entities). value_at o c.args.id c.args.slot) c.self.view_is
