use Rattle.std.proofs.Common.{ap, sym, ◌∙◌, subst}
use Rattle.mf_objects.specs.Live.{Entities, label_at}
use Rattle.mf_objects.specs.Sound.{IsPlace}
use Rattle.mf_objects.proofs.Kept.{view}
use Rattle.mf_objects.proofs.Found.{label_there}
use Rattle.mf_objects.proofs.objects.Objects.fill_label.Goals as goal

pub returns : goal.returns
returns c =
    let next = c.self.inside.next in
    let zones = c.self.inside.zones in
    let es = c.self.inside.entities.items in
    let place : IsPlace (view next zones es) c.args.id c.place-place.result =
    subst (λ (o : Entities). IsPlace o c.args.id c.place-place.result) (sym c.self.view_is) c.place-place.ensures in
    c.fill_values.ensures
    ∙ label_there next zones es c.args.id c.place-place.result c.index.result.now place c.index.ensures
    ∙ ap (λ (o : Entities). label_at o c.args.id) c.self.view_is
