use Rattle.std.proofs.Common.{refl, ap, sym, ◌∙◌, subst}
use Rattle.mf_objects.specs.Live.{Entities}
use Rattle.mf_objects.specs.Changes.{with_change, with_what, cleared}
use Rattle.mf_objects.specs.Sound.{IsPlace}
use Rattle.mf_objects.proofs.Kept.{view, what_changed}
use Rattle.mf_objects.proofs.Belonging.{cleared_stays}
use Rattle.mf_objects.proofs.Found.{described_still}
use Rattle.mf_objects.proofs.Indexed.{index_set}
use Rattle.mf_objects.proofs.Counted.{still_open}
use Rattle.mf_objects.proofs.objects.Objects.clear.Goals as goal

pub invariant_of-self : goal.invariant_of-self
invariant_of-self c =
    let next = c.self.inside.next in
    let zones = c.self.inside.zones in
    let es = c.self.inside.entities.items in
    let i = c.place-place.result in
    let e = c.index_mut-entity.result.now in
    let place : IsPlace (view next zones es) c.args.id i = subst (λ (o : Entities). IsPlace o c.args.id i) (sym c.self.view_is) c.place-place.ensures in (
      (what_changed next zones es c.args.id i e c.clear.new.self cleared place c.index_mut-entity.ensures.value c.self.invariant.0 (cleared_stays e.what)
          (described_still next zones es c.args.id i e c.clear.new.self place c.index_mut-entity.ensures.value c.self.invariant.0 c.clear.ensures.fds) c.clear.ensures.value).sound,
      index_set c.self.inside.index es i e (record e { what = c.clear.new.self }) c.index_mut-entity.ensures.value refl refl c.clear.ensures.group c.self.invariant.1,
      still_open c.self.inside.open_fds next zones es c.args.id i e (record e { what = c.clear.new.self }) place c.index_mut-entity.ensures.value c.clear.ensures.fds c.self.invariant.2,
    )

pub returns : goal.returns
returns c =
    let next = c.self.inside.next in
    let zones = c.self.inside.zones in
    let es = c.self.inside.entities.items in
    let i = c.place-place.result in
    let e = c.index_mut-entity.result.now in
    let place : IsPlace (view next zones es) c.args.id i = subst (λ (o : Entities). IsPlace o c.args.id i) (sym c.self.view_is) c.place-place.ensures in
    (what_changed next zones es c.args.id i e c.clear.new.self cleared place c.index_mut-entity.ensures.value c.self.invariant.0 (cleared_stays e.what)
    (described_still next zones es c.args.id i e c.clear.new.self place c.index_mut-entity.ensures.value c.self.invariant.0 c.clear.ensures.fds) c.clear.ensures.value).shows
    ∙ ap (λ (o : Entities). with_change (with_what cleared) o c.args.id) c.self.view_is
