use Rattle.std.proofs.Common.{refl, ap, sym, ◌∙◌, subst}
use Rattle.mf_objects.specs.Live.{Entities}
use Rattle.mf_objects.specs.Changes.{with_change, with_what, with_mode}
use Rattle.mf_objects.specs.Sound.{IsPlace}
use Rattle.mf_objects.proofs.Kept.{view, what_changed}
use Rattle.mf_objects.proofs.Belonging.{mode_stays}
use Rattle.mf_objects.proofs.Found.{described_still}
use Rattle.mf_objects.proofs.Indexed.{index_set}
use Rattle.mf_objects.proofs.Counted.{still_open}
use Rattle.mf_objects.proofs.objects.Objects.set_mode.Goals as goal

pub invariant_of-self : goal.invariant_of-self
invariant_of-self c =
    let next = c.self.inside.next in
    let zones = c.self.inside.zones in
    let es = c.self.inside.entities.items in
    let i = c.place-place.result in
    let e = c.index_mut-entity.result.now in
    let place : IsPlace (view next zones es) c.args.id i = subst (λ (o : Entities). IsPlace o c.args.id i) (sym c.self.view_is) c.place-place.ensures in (
      (what_changed next zones es c.args.id i e c.set_mode.new.self (with_mode c.args.mode) place c.index_mut-entity.ensures.value c.self.invariant.0 (mode_stays c.args.mode e.what)
          (described_still next zones es c.args.id i e c.set_mode.new.self place c.index_mut-entity.ensures.value c.self.invariant.0 c.set_mode.ensures.fds) c.set_mode.ensures.value).sound,
      index_set c.self.inside.index es i e (record e { what = c.set_mode.new.self }) c.index_mut-entity.ensures.value refl refl c.set_mode.ensures.group c.self.invariant.1,
      still_open c.self.inside.open_fds next zones es c.args.id i e (record e { what = c.set_mode.new.self }) place c.index_mut-entity.ensures.value c.set_mode.ensures.fds c.self.invariant.2,
    )

pub returns : goal.returns
returns c =
    let next = c.self.inside.next in
    let zones = c.self.inside.zones in
    let es = c.self.inside.entities.items in
    let i = c.place-place.result in
    let e = c.index_mut-entity.result.now in
    let place : IsPlace (view next zones es) c.args.id i = subst (λ (o : Entities). IsPlace o c.args.id i) (sym c.self.view_is) c.place-place.ensures in
    (what_changed next zones es c.args.id i e c.set_mode.new.self (with_mode c.args.mode) place c.index_mut-entity.ensures.value c.self.invariant.0 (mode_stays c.args.mode e.what)
    (described_still next zones es c.args.id i e c.set_mode.new.self place c.index_mut-entity.ensures.value c.self.invariant.0 c.set_mode.ensures.fds) c.set_mode.ensures.value).shows
    ∙ ap (λ (o : Entities). with_change (with_what (with_mode c.args.mode)) o c.args.id) c.self.view_is
