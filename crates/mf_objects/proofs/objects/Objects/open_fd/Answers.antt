use Rattle.std.proofs.Common.{◌<◌, List, length, refl, ap, sym, ◌∙◌, subst, arith}
use Rattle.mf_objects.specs.declared.descriptors.Fd.{Fd}
use Rattle.mf_objects.specs.Live.{Entities, is_process}
use Rattle.mf_objects.specs.Lives.{IsLive, is_regular}
use Rattle.mf_objects.specs.Changes.{with_change, with_what}
use Rattle.mf_objects.specs.Descriptors.{fds_of, fds_at, with_fds, opened, lowest_free}
use Rattle.mf_objects.specs.Population.{AreDescriptors}
use Rattle.mf_objects.specs.Sound.{IsPlace, live_of}
use Rattle.mf_objects.proofs.Belonging.{fds_stay}
use Rattle.mf_objects.proofs.Kept.{view, what_changed}
use Rattle.mf_objects.proofs.Counted.{count_most}
use Rattle.mf_objects.proofs.Indexed.{index_set}
use Rattle.mf_objects.proofs.Opening.{fds_place, opened_described, opened_open}
use Rattle.mf_objects.proofs.objects.Objects.open_fd.Goals as goal

pub open_fd-requires : goal.open_fd-requires
open_fd-requires c =
    let next = c.self.inside.next in
    let zones = c.self.inside.zones in
    let es = c.self.inside.entities.items in
    let i = c.place-place.result in
    let place : IsPlace (view next zones es) c.args.p i = subst (λ (o : Entities). IsPlace o c.args.p i) (sym c.self.view_is) c.place-place.ensures in
    subst (λ (fds : List Fd). length fds < 16) (fds_place next zones es c.args.p i c.index_mut-entity.result.now place c.index_mut-entity.ensures.value)
    (subst (λ (o : Entities). length (fds_at o c.args.p) < 16) (sym c.self.view_is) c.requires.few)

pub overflow_add-self : goal.overflow_add-self
overflow_add-self c =
    let most = count_most c.self.inside.next c.self.inside.zones c.self.inside.entities.items c.self.invariant.0 in
    omega (arith, most, c.self.invariant.2)

pub invariant_of-self : goal.invariant_of-self
invariant_of-self c =
    let next = c.self.inside.next in
    let zones = c.self.inside.zones in
    let es = c.self.inside.entities.items in
    let i = c.place-place.result in
    let e = c.index_mut-entity.result.now in
    let w = c.open_fd.new.self in
    let at = c.index_mut-entity.ensures.value in
    let fd : Fd = record { number = c.lowest_free-number.result; file = c.args.file; read = c.args.read; write = c.args.write; subject = c.args.subject; object = c.args.object } in
    let place : IsPlace (view next zones es) c.args.p i = subst (λ (o : Entities). IsPlace o c.args.p i) (sym c.self.view_is) c.place-place.ensures in
    let process : IsLive is_process (view next zones es) c.args.p = subst (λ (o : Entities). IsLive is_process o c.args.p) (sym c.self.view_is) c.requires.process in
    let described : AreDescriptors (live_of zones es) (fds_of w) =
    opened_described fd next zones es c.args.p i e w place at c.self.invariant.0 process
    (subst (λ (o : Entities). length (fds_at o c.args.p) < 16) (sym c.self.view_is) c.requires.few)
    (subst (λ (o : Entities). IsLive is_regular o c.args.file) (sym c.self.view_is) c.requires.file)
    (c.lowest_free-number.ensures.value ∙ ap (λ (o : Entities). lowest_free (fds_at o c.args.p)) (sym c.self.view_is)) c.open_fd.ensures.value in (
      (what_changed next zones es c.args.p i e w (with_fds (opened fd)) place at c.self.invariant.0 (fds_stay (opened fd) e.what) described c.open_fd.ensures.value).sound,
      index_set c.self.inside.index es i e (record e { what = w }) at refl refl c.open_fd.ensures.group c.self.invariant.1,
      opened_open fd c.self.inside.open_fds next zones es c.args.p i e w place at process c.open_fd.ensures.value c.self.invariant.2,
    )

pub returns-clause-value : goal.returns-clause-value
returns-clause-value c =
    let next = c.self.inside.next in
    let zones = c.self.inside.zones in
    let es = c.self.inside.entities.items in
    let i = c.place-place.result in
    let e = c.index_mut-entity.result.now in
    let w = c.open_fd.new.self in
    let at = c.index_mut-entity.ensures.value in
    let fd : Fd = record { number = c.lowest_free-number.result; file = c.args.file; read = c.args.read; write = c.args.write; subject = c.args.subject; object = c.args.object } in
    let place : IsPlace (view next zones es) c.args.p i = subst (λ (o : Entities). IsPlace o c.args.p i) (sym c.self.view_is) c.place-place.ensures in
    let process : IsLive is_process (view next zones es) c.args.p = subst (λ (o : Entities). IsLive is_process o c.args.p) (sym c.self.view_is) c.requires.process in
    let described : AreDescriptors (live_of zones es) (fds_of w) =
    opened_described fd next zones es c.args.p i e w place at c.self.invariant.0 process
    (subst (λ (o : Entities). length (fds_at o c.args.p) < 16) (sym c.self.view_is) c.requires.few)
    (subst (λ (o : Entities). IsLive is_regular o c.args.file) (sym c.self.view_is) c.requires.file)
    (c.lowest_free-number.ensures.value ∙ ap (λ (o : Entities). lowest_free (fds_at o c.args.p)) (sym c.self.view_is)) c.open_fd.ensures.value in
    (what_changed next zones es c.args.p i e w (with_fds (opened fd)) place at c.self.invariant.0 (fds_stay (opened fd) e.what) described c.open_fd.ensures.value).shows
    ∙ ap (λ (o : Entities). with_change (with_what (with_fds (opened fd))) o c.args.p) c.self.view_is
