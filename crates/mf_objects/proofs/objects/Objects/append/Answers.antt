use Rattle.std.proofs.Common.{refl, ◌≡◌, length, ap, sym, ◌∙◌, subst}
use Rattle.std.proofs.lemmas.Result.{on_ok_weaker}
use Rattle.mf_objects.specs.Live.{Entities, live_at}
use Rattle.mf_objects.specs.Lives.{IsLiveWhere}
use Rattle.mf_objects.specs.Changes.{with_change, with_what, appended}
use Rattle.mf_objects.specs.Fits.{FitsBytes}
use Rattle.mf_objects.specs.Sound.{IsPlace}
use Rattle.mf_objects.proofs.Kept.{view, what_changed}
use Rattle.mf_objects.proofs.Belonging.{appended_stays}
use Rattle.mf_objects.proofs.Found.{where_place, what_sound, described_still}
use Rattle.mf_objects.proofs.Indexed.{index_set}
use Rattle.mf_objects.proofs.Counted.{still_open}
use Rattle.mf_objects.proofs.objects.Objects.append.Goals as goal

pub append-requires : goal.append-requires
append-requires c =
    let next = c.self.inside.next in
    let zones = c.self.inside.zones in
    let es = c.self.inside.entities.items in
    let i = c.place-place.result in
    let e = c.index_mut-entity.result.now in
    let place : IsPlace (view next zones es) c.args.id i = subst (λ (o : Entities). IsPlace o c.args.id i) (sym c.self.view_is) c.place-place.ensures in
    where_place (FitsBytes (length c.args.text.now)) next zones es c.args.id i e place c.index_mut-entity.ensures.value
    (subst (λ (o : Entities). IsLiveWhere (FitsBytes (length c.args.text.now)) (live_at o c.args.id)) (sym c.self.view_is) c.requires)

pub invariant_of-self : goal.invariant_of-self
invariant_of-self c =
    let next = c.self.inside.next in
    let zones = c.self.inside.zones in
    let es = c.self.inside.entities.items in
    let i = c.place-place.result in
    let e = c.index_mut-entity.result.now in
    let place : IsPlace (view next zones es) c.args.id i = subst (λ (o : Entities). IsPlace o c.args.id i) (sym c.self.view_is) c.place-place.ensures in
    let fits : FitsBytes (length c.args.text.now) e.what =
    where_place (FitsBytes (length c.args.text.now)) next zones es c.args.id i e place c.index_mut-entity.ensures.value
    (subst (λ (o : Entities). IsLiveWhere (FitsBytes (length c.args.text.now)) (live_at o c.args.id)) (sym c.self.view_is) c.requires) in (
      what_sound c.append.result next zones es c.args.id i e c.append.new.self (appended c.args.text.now) place c.index_mut-entity.ensures.value c.self.invariant.0 (appended_stays c.args.text.now e.what fits)
          (described_still next zones es c.args.id i e c.append.new.self place c.index_mut-entity.ensures.value c.self.invariant.0 c.append.ensures.fds)
          c.append.ensures.ok c.append.ensures.err,
      index_set c.self.inside.index es i e (record e { what = c.append.new.self }) c.index_mut-entity.ensures.value refl refl c.append.ensures.group c.self.invariant.1,
      still_open c.self.inside.open_fds next zones es c.args.id i e (record e { what = c.append.new.self }) place c.index_mut-entity.ensures.value c.append.ensures.fds c.self.invariant.2,
    )

pub returns-clause-ok : goal.returns-clause-ok
returns-clause-ok c =
    let next = c.self.inside.next in
    let zones = c.self.inside.zones in
    let es = c.self.inside.entities.items in
    let i = c.place-place.result in
    let e = c.index_mut-entity.result.now in
    let place : IsPlace (view next zones es) c.args.id i = subst (λ (o : Entities). IsPlace o c.args.id i) (sym c.self.view_is) c.place-place.ensures in
    let fits : FitsBytes (length c.args.text.now) e.what =
    where_place (FitsBytes (length c.args.text.now)) next zones es c.args.id i e place c.index_mut-entity.ensures.value
    (subst (λ (o : Entities). IsLiveWhere (FitsBytes (length c.args.text.now)) (live_at o c.args.id)) (sym c.self.view_is) c.requires) in
    on_ok_weaker c.append.result (λ (changed : c.append.new.self ≡ (appended c.args.text.now) e.what).
    (what_changed next zones es c.args.id i e c.append.new.self (appended c.args.text.now) place c.index_mut-entity.ensures.value c.self.invariant.0 (appended_stays c.args.text.now e.what fits)
    (described_still next zones es c.args.id i e c.append.new.self place c.index_mut-entity.ensures.value c.self.invariant.0 c.append.ensures.fds) changed).shows
    ∙ ap (λ (o : Entities). with_change (with_what (appended c.args.text.now)) o c.args.id) c.self.view_is) c.append.ensures.ok
