use Rattle.std.proofs.Common.{◌≡◌, ◌↔◌, IsTrue, sym, subst}
use Rattle.mf_objects.specs.Live.{Entities}
use Rattle.mf_objects.specs.Lives.{view_at}
use Rattle.mf_objects.specs.Sound.{IsPlace}
use Rattle.mf_objects.proofs.Kept.{view}
use Rattle.mf_objects.proofs.Compared.{seen_place, unseen_place}
use Rattle.mf_objects.proofs.objects.Objects.has_view.Goals as goal

pub returns-then-is_seen_so : goal.returns-then-is_seen_so
returns-then-is_seen_so c =
    let next = c.self.inside.next in
    let zones = c.self.inside.zones in
    let es = c.self.inside.entities.items in
    let e = c.index-entity.result.now in
    let place : IsPlace (view next zones es) c.args.id c.place-place.result =
    subst (λ (o : Entities). IsPlace o c.args.id c.place-place.result) (sym c.self.view_is) c.place-place.ensures in
    subst (λ (o : Entities). IsTrue c.has_values.result ↔ (c.args.view.now ≡ view_at o c.args.id)) c.self.view_is
    (seen_place next zones es c.args.id c.place-place.result e c.args.view.now c.has_values.result place c.index-entity.ensures (c.is_seen_so.ensures.0 c.if-is_seen_so.true) c.has_values.ensures)

pub returns-else-is_seen_so : goal.returns-else-is_seen_so
returns-else-is_seen_so c =
    let next = c.self.inside.next in
    let zones = c.self.inside.zones in
    let es = c.self.inside.entities.items in
    let place : IsPlace (view next zones es) c.args.id c.place-place.result =
    subst (λ (o : Entities). IsPlace o c.args.id c.place-place.result) (sym c.self.view_is) c.place-place.ensures in
    (λ yes. absurd (cc (yes, c.if-is_seen_so.false)), λ seen. c.is_seen_so.ensures.1 (unseen_place next zones es c.args.id c.place-place.result c.index-entity.result.now c.args.view.now place c.index-entity.ensures (subst (λ (o : Entities). c.args.view.now ≡ view_at o c.args.id) (sym c.self.view_is) seen)))
