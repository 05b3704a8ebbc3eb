use Rattle.std.proofs.Common.{refl, ◌≡◌, ℕ, List, ap, sym, ◌∙◌, subst}
use Rattle.std.proofs.lemmas.Result.{on_ok_weaker}
use Rattle.mf_objects.specs.Live.{Entities, live_at}
use Rattle.mf_objects.specs.Lives.{IsLiveWhere}
use Rattle.mf_objects.specs.Changes.{with_change, with_what, with_messages, with_message}
use Rattle.mf_objects.specs.Fits.{FitsMessage}
use Rattle.mf_objects.specs.Sound.{IsPlace}
use Rattle.mf_objects.proofs.Kept.{view, what_changed}
use Rattle.mf_objects.proofs.Belonging.{messages_stay}
use Rattle.mf_objects.proofs.Found.{where_place, what_sound, described_still}
use Rattle.mf_objects.proofs.Indexed.{index_set}
use Rattle.mf_objects.proofs.Counted.{still_open}
use Rattle.mf_objects.proofs.objects.Objects.push_message.Goals as goal

pub push_message-requires : goal.push_message-requires
push_message-requires c =
    let next = c.self.inside.next in
    let zones = c.self.inside.zones in
    let es = c.self.inside.entities.items in
    let i = c.place-place.result in
    let e = c.index_mut-entity.result.now in
    let place : IsPlace (view next zones es) c.args.id i = subst (λ (o : Entities). IsPlace o c.args.id i) (sym c.self.view_is) c.place-place.ensures in
    where_place FitsMessage next zones es c.args.id i e place c.index_mut-entity.ensures.value
    (subst (λ (o : Entities). IsLiveWhere FitsMessage (live_at o c.args.id)) (sym c.self.view_is) c.requires.room)

pub invariant_of-self : goal.invariant_of-self
invariant_of-self c =
    let next = c.self.inside.next in
    let zones = c.self.inside.zones in
    let es = c.self.inside.entities.items in
    let i = c.place-place.result in
    let e = c.index_mut-entity.result.now in
    let place : IsPlace (view next zones es) c.args.id i = subst (λ (o : Entities). IsPlace o c.args.id i) (sym c.self.view_is) c.place-place.ensures in (
      what_sound c.push_message.result next zones es c.args.id i e c.push_message.new.self (with_messages (with_message c.in_ok-message.message)) place c.index_mut-entity.ensures.value c.self.invariant.0 (messages_stay (with_message c.in_ok-message.message) e.what)
          (described_still next zones es c.args.id i e c.push_message.new.self place c.index_mut-entity.ensures.value c.self.invariant.0 c.push_message.ensures.fds)
          c.push_message.ensures.ok c.push_message.ensures.err,
      index_set c.self.inside.index es i e (record e { what = c.push_message.new.self }) c.index_mut-entity.ensures.value refl refl c.push_message.ensures.group c.self.invariant.1,
      still_open c.self.inside.open_fds next zones es c.args.id i e (record e { what = c.push_message.new.self }) place c.index_mut-entity.ensures.value c.push_message.ensures.fds c.self.invariant.2,
    )

pub returns-clause-ok : goal.returns-clause-ok
returns-clause-ok c =
    let next = c.self.inside.next in
    let zones = c.self.inside.zones in
    let es = c.self.inside.entities.items in
    let i = c.place-place.result in
    let e = c.index_mut-entity.result.now in
    let place : IsPlace (view next zones es) c.args.id i = subst (λ (o : Entities). IsPlace o c.args.id i) (sym c.self.view_is) c.place-place.ensures in
    on_ok_weaker c.push_message.result (λ (changed : c.push_message.new.self ≡ (with_messages (with_message c.in_ok-message.message)) e.what).
    (what_changed next zones es c.args.id i e c.push_message.new.self (with_messages (with_message c.in_ok-message.message)) place c.index_mut-entity.ensures.value c.self.invariant.0 (messages_stay (with_message c.in_ok-message.message) e.what)
    (described_still next zones es c.args.id i e c.push_message.new.self place c.index_mut-entity.ensures.value c.self.invariant.0 c.push_message.ensures.fds) changed).shows
    ∙ ap (λ (o : Entities). with_change (with_what (with_messages (with_message c.in_ok-message.message))) o c.args.id) c.self.view_is
    ∙ ap (λ (text : List ℕ). with_change (with_what (with_messages (with_message text))) c.args.self.now c.args.id) (let same = c.in_ok-message.ensures in same)) c.push_message.ensures.ok
