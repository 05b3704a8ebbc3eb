use Rattle.std.proofs.Common.{refl, ◌≡◌, ℕ, List, [], ◌∷◌, drop, get_or, ap, sym, ◌∙◌, subst}
use Rattle.mf_objects.specs.Live.{Entities, live_at, messages_at, messages_of}
use Rattle.mf_objects.specs.Lives.{IsLiveWhere}
use Rattle.mf_objects.specs.Changes.{with_change, with_what, with_messages}
use Rattle.mf_objects.specs.Fits.{HasMessage}
use Rattle.mf_objects.specs.Head.{head_of}
use Rattle.mf_objects.specs.Sound.{IsPlace}
use Rattle.mf_objects.proofs.Kept.{view, what_changed}
use Rattle.mf_objects.proofs.Belonging.{messages_stay}
use Rattle.mf_objects.proofs.Found.{where_place, messages_place, described_still}
use Rattle.mf_objects.proofs.Indexed.{index_set}
use Rattle.mf_objects.proofs.Counted.{still_open}
use Rattle.mf_objects.proofs.objects.Objects.pop_message.Goals as goal

pub pop_message-message-requires : goal.pop_message-message-requires
pop_message-message-requires c =
    let next = c.self.inside.next in
    let zones = c.self.inside.zones in
    let es = c.self.inside.entities.items in
    let i = c.place-place.result in
    let e = c.index_mut-entity.result.now in
    let place : IsPlace (view next zones es) c.args.id i = subst (λ (o : Entities). IsPlace o c.args.id i) (sym c.self.view_is) c.place-place.ensures in
    where_place HasMessage next zones es c.args.id i e place c.index_mut-entity.ensures.value
    (subst (λ (o : Entities). IsLiveWhere HasMessage (live_at o c.args.id)) (sym c.self.view_is) c.requires)

pub invariant_of-self : goal.invariant_of-self
invariant_of-self c =
    let next = c.self.inside.next in
    let zones = c.self.inside.zones in
    let es = c.self.inside.entities.items in
    let i = c.place-place.result in
    let e = c.index_mut-entity.result.now in
    let place : IsPlace (view next zones es) c.args.id i = subst (λ (o : Entities). IsPlace o c.args.id i) (sym c.self.view_is) c.place-place.ensures in (
      (what_changed next zones es c.args.id i e c.pop_message-message.new.self (with_messages (drop 1)) place c.index_mut-entity.ensures.value c.self.invariant.0
          (messages_stay (drop 1) e.what)
          (described_still next zones es c.args.id i e c.pop_message-message.new.self place c.index_mut-entity.ensures.value c.self.invariant.0 c.pop_message-message.ensures.fds) c.pop_message-message.ensures.rest).sound,
      index_set c.self.inside.index es i e (record e { what = c.pop_message-message.new.self }) c.index_mut-entity.ensures.value refl refl c.pop_message-message.ensures.group c.self.invariant.1,
      still_open c.self.inside.open_fds next zones es c.args.id i e (record e { what = c.pop_message-message.new.self }) place c.index_mut-entity.ensures.value c.pop_message-message.ensures.fds c.self.invariant.2,
    )

pub returns-clause-rest : goal.returns-clause-rest
returns-clause-rest c =
    let next = c.self.inside.next in
    let zones = c.self.inside.zones in
    let es = c.self.inside.entities.items in
    let i = c.place-place.result in
    let e = c.index_mut-entity.result.now in
    let place : IsPlace (view next zones es) c.args.id i = subst (λ (o : Entities). IsPlace o c.args.id i) (sym c.self.view_is) c.place-place.ensures in
    (what_changed next zones es c.args.id i e c.pop_message-message.new.self (with_messages (drop 1)) place c.index_mut-entity.ensures.value c.self.invariant.0
    (messages_stay (drop 1) e.what)
    (described_still next zones es c.args.id i e c.pop_message-message.new.self place c.index_mut-entity.ensures.value c.self.invariant.0 c.pop_message-message.ensures.fds) c.pop_message-message.ensures.rest).shows
    ∙ ap (λ (o : Entities). with_change (with_what (with_messages (drop 1))) o c.args.id) c.self.view_is

pub returns-clause-oldest : goal.returns-clause-oldest
returns-clause-oldest c =
    let next = c.self.inside.next in
    let zones = c.self.inside.zones in
    let es = c.self.inside.entities.items in
    let i = c.place-place.result in
    let e = c.index_mut-entity.result.now in
    let place : IsPlace (view next zones es) c.args.id i = subst (λ (o : Entities). IsPlace o c.args.id i) (sym c.self.view_is) c.place-place.ensures in
    let messages : messages_at c.args.self.now c.args.id ≡ c.pop_message-message.result ∷ messages_of c.pop_message-message.new.self =
    ap (λ (o : Entities). messages_at o c.args.id) (sym c.self.view_is) ∙ messages_place next zones es c.args.id i e place c.index_mut-entity.ensures.value
    ∙ c.pop_message-message.ensures.oldest in
    c.of.ensures ∙ ap head_of c.as_slice.ensures.value ∙ ap (λ (ms : List (List ℕ)). head_of (get_or ms 0 [])) (sym messages)
