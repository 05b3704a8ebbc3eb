use Rattle.std.proofs.Common.{refl, ap, sym, ◌∙◌, subst}
use Rattle.mf_objects.specs.Live.{Entities}
use Rattle.mf_objects.specs.Changes.{with_change, with_what}
use Rattle.mf_objects.specs.Descriptors.{with_fds, closed}
use Rattle.mf_objects.specs.Sound.{IsPlace}
use Rattle.mf_objects.proofs.Belonging.{fds_stay}
use Rattle.mf_objects.proofs.Kept.{view, what_changed}
use Rattle.mf_objects.proofs.Indexed.{index_set}
use Rattle.mf_objects.proofs.Opening.{closed_described, closed_open, open_live}
use Rattle.mf_objects.proofs.objects.Objects.close_fd.Goals as goal

pub place-place-requires : goal.place-place-requires
place-place-requires c = open_live c.args.self.now c.args.p c.args.n c.requires

pub invariant_of-self : goal.invariant_of-self
invariant_of-self c =
    let next = c.self.inside.next in
    let zones = c.self.inside.zones in
    let es = c.self.inside.entities.items in
    let i = c.place-place.result in
    let e = c.index_mut-entity.result.now in
    let w = c.close_fd.new.self in
    let at = c.index_mut-entity.ensures.value in
    let place : IsPlace (view next zones es) c.args.p i = subst (λ (o : Entities). IsPlace o c.args.p i) (sym c.self.view_is) c.place-place.ensures in (
      (what_changed next zones es c.args.p i e w (with_fds (closed c.args.n)) place at c.self.invariant.0 (fds_stay (closed c.args.n) e.what)
          (closed_described c.args.n next zones es c.args.p i e w place at c.self.invariant.0 c.close_fd.ensures.value) c.close_fd.ensures.value).sound,
      index_set c.self.inside.index es i e (record e { what = w }) at refl refl c.close_fd.ensures.group c.self.invariant.1,
      closed_open c.self.inside.open_fds c.close_fd.result next zones es c.args.p i e w place at c.close_fd.ensures.count c.self.invariant.2,
    )

pub returns : goal.returns
returns c =
    let next = c.self.inside.next in
    let zones = c.self.inside.zones in
    let es = c.self.inside.entities.items in
    let i = c.place-place.result in
    let e = c.index_mut-entity.result.now in
    let w = c.close_fd.new.self in
    let at = c.index_mut-entity.ensures.value in
    let place : IsPlace (view next zones es) c.args.p i = subst (λ (o : Entities). IsPlace o c.args.p i) (sym c.self.view_is) c.place-place.ensures in
    (what_changed next zones es c.args.p i e w (with_fds (closed c.args.n)) place at c.self.invariant.0 (fds_stay (closed c.args.n) e.what)
    (closed_described c.args.n next zones es c.args.p i e w place at c.self.invariant.0 c.close_fd.ensures.value) c.close_fd.ensures.value).shows
    ∙ ap (λ (o : Entities). with_change (with_what (with_fds (closed c.args.n))) o c.args.p) c.self.view_is
