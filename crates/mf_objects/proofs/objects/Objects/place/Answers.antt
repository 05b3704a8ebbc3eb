use Rattle.std.proofs.Common.{◌≡◌, List, IsSome, Some, nat_eq, position, ap, sym, ◌∙◌, subst}
use Rattle.std.specs.Prelude.{find}
use Rattle.mf_objects.specs.declared.entity.Entity.{Entity}
use Rattle.mf_objects.specs.Live.{Entities, has_id, live_at}
use Rattle.mf_objects.specs.Sound.{live_of, IsPlace, IsById}
use Rattle.mf_objects.proofs.Kept.{position_some, place_found}
use Rattle.mf_objects.proofs.ById.{stand_by_id}
use Rattle.mf_objects.proofs.objects.Objects.place.Goals as goal

pub place_of-requires : goal.place_of-requires
place_of-requires c =
    let es = c.self.inside.entities.items in
    subst (λ (xs : List Entity). IsById xs) (sym c.deref.ensures.value)
    (stand_by_id c.self.inside.zones 0 c.self.inside.next es c.self.invariant.0.population.rising)

pub unwrap-requires : goal.unwrap-requires
unwrap-requires c =
    let zones = c.self.inside.zones in
    let es = c.self.inside.entities.items in
    let some : IsSome (find (has_id c.args.id) (live_of zones es)) =
    subst (λ (o : Entities). IsSome (live_at o c.args.id)) (sym c.self.view_is) c.requires in
    rw (c.place_of.ensures, c.deref.ensures.value) (position_some zones c.args.id es some)

pub returns : goal.returns
returns c =
    let zones = c.self.inside.zones in
    let es = c.self.inside.entities.items in
    let at : position (λ (e : Entity). nat_eq e.id.0 c.args.id.0) es ≡ Some c.unwrap.result =
    ap (λ (xs : List Entity). position (λ (e : Entity). nat_eq e.id.0 c.args.id.0) xs) (sym c.deref.ensures.value) ∙ sym c.place_of.ensures ∙ c.unwrap.ensures in
    subst (λ (o : Entities). IsPlace o c.args.id c.unwrap.result) c.self.view_is
    (place_found c.self.inside.next zones es c.args.id c.unwrap.result c.self.invariant.0 at)
