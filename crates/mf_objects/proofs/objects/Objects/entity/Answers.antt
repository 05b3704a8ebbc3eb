use Rattle.std.proofs.Common.{◌≡◌, Some, sym, subst}
use Rattle.mf_objects.proofs.Entities.{label_of}
use Rattle.mf_objects.specs.Live.{Entities, live_at}
use Rattle.mf_objects.specs.Sound.{IsPlace, with_values}
use Rattle.mf_objects.proofs.Kept.{view}
use Rattle.mf_objects.proofs.Found.{shown_place}
use Rattle.mf_objects.proofs.objects.Objects.entity.Goals as goal

pub returns-clause-shown : goal.returns-clause-shown
returns-clause-shown c =
    let zones = c.self.inside.zones in
    let es = c.self.inside.entities.items in
    let place : IsPlace (view c.self.inside.next zones es) c.args.id c.place-place.result =
    subst (λ (o : Entities). IsPlace o c.args.id c.place-place.result) (sym c.self.view_is) c.place-place.ensures in
    subst (λ (o : Entities). live_at o c.args.id ≡ Some (with_values (label_of (live_at o c.args.id)) c.index.result.now)) c.self.view_is
    (shown_place c.self.inside.next zones es c.args.id c.place-place.result c.index.result.now place c.index.ensures)
