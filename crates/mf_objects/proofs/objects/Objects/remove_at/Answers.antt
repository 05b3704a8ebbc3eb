use Rattle.std.proofs.Common.{◌≡◌, ◌<◌, ℕ, List, length, remove, ap, sym, ◌∙◌, subst, arith}
use Rattle.std.proofs.lemmas.List.{length-map}
use Rattle.mf_objects.specs.declared.entity.Entity.{Entity}
use Rattle.mf_objects.specs.Live.{LiveEntity, Entities}
use Rattle.mf_objects.specs.Population.{IsRising}
use Rattle.mf_objects.specs.Sound.{live_of, live_entity, open_count}
use Rattle.mf_objects.proofs.Rising.{remove_filter}
use Rattle.mf_objects.proofs.Kept.{view, held_place, bare_place, dropped}
use Rattle.mf_objects.proofs.ById.{stand_by_id}
use Rattle.mf_objects.proofs.Indexed.{index_removed}
use Rattle.mf_objects.proofs.Counted.{less_open}
use Rattle.mf_objects.proofs.objects.Objects.remove_at.Goals as goal

within : (next : ℕ) (objects : Entities) (es : List Entity) (lives : List LiveEntity) (place : ℕ) → lives ≡ objects.live → length lives ≡ length es → place < length objects.live → place < length es
within next objects es lives place is len h = omega (arith, ap (λ (ls : List LiveEntity). length ls) is)

pub give_up-requires : goal.give_up-requires
give_up-requires c =
    let zones = c.self.inside.zones in
    let es = c.self.inside.entities.items in
    held_place c.self.inside.next zones es c.args.place c.remove-name.result
    (within c.self.inside.next c.args.self.now es (live_of zones es) c.args.place (ap (λ (o : Entities). o.live) c.self.view_is) (length-map es (live_entity zones)) c.requires.within)
    c.remove-name.ensures.value c.self.invariant.0

pub invariant_of-self : goal.invariant_of-self
invariant_of-self c =
    let zones = c.self.inside.zones in
    let es = c.self.inside.entities.items in
    let b =
    dropped c.self.inside.next zones c.give_up.new.self es c.args.place c.remove-name.result
    (within c.self.inside.next c.args.self.now es (live_of zones es) c.args.place (ap (λ (o : Entities). o.live) c.self.view_is) (length-map es (live_entity zones)) c.requires.within)
    c.requires.later c.remove-name.ensures.value c.self.invariant.0
    (bare_place c.self.inside.next zones es c.args.self.now c.args.place c.remove-name.result c.self.view_is
    (within c.self.inside.next c.args.self.now es (live_of zones es) c.args.place (ap (λ (o : Entities). o.live) c.self.view_is) (length-map es (live_entity zones)) c.requires.within)
    c.remove-name.ensures.value c.requires.bare)
    c.give_up.ensures in (
      rw c.remove-name.ensures.items b.sound,
      index_removed c.self.inside.index c.remove.new.self es c.remove-name.new.self.items c.args.place c.remove-name.result c.group.result c.as_str.result.now c.group.ensures c.as_str.ensures
          c.remove.ensures c.remove-name.ensures.items
          (within c.self.inside.next c.args.self.now es (live_of zones es) c.args.place (ap (λ (o : Entities). o.live) c.self.view_is) (length-map es (live_entity zones)) c.requires.within)
          c.remove-name.ensures.value (stand_by_id zones 0 c.self.inside.next es c.self.invariant.0.population.rising) c.self.invariant.1,
      less_open c.self.inside.open_fds c.fd_count.result es c.args.place c.remove-name.result
          (within c.self.inside.next c.args.self.now es (live_of zones es) c.args.place (ap (λ (o : Entities). o.live) c.self.view_is) (length-map es (live_entity zones)) c.requires.within)
          c.remove-name.ensures.value c.self.invariant.2 c.fd_count.ensures.value
          ∙ ap (λ (xs : List Entity). open_count xs) (sym c.remove-name.ensures.items),
    )

pub returns-clause-removed : goal.returns-clause-removed
returns-clause-removed c =
    let zones = c.self.inside.zones in
    let es = c.self.inside.entities.items in
    let b =
    dropped c.self.inside.next zones c.give_up.new.self es c.args.place c.remove-name.result
    (within c.self.inside.next c.args.self.now es (live_of zones es) c.args.place (ap (λ (o : Entities). o.live) c.self.view_is) (length-map es (live_entity zones)) c.requires.within)
    c.requires.later c.remove-name.ensures.value c.self.invariant.0
    (bare_place c.self.inside.next zones es c.args.self.now c.args.place c.remove-name.result c.self.view_is
    (within c.self.inside.next c.args.self.now es (live_of zones es) c.args.place (ap (λ (o : Entities). o.live) c.self.view_is) (length-map es (live_entity zones)) c.requires.within)
    c.remove-name.ensures.value c.requires.bare)
    c.give_up.ensures in
    ap (λ (xs : List Entity). view c.self.inside.next c.give_up.new.self xs) c.remove-name.ensures.items
    ∙ b.shows
    ∙ ap (λ (o : Entities). let p : Entities = record { next = o.next; live = remove o.live c.args.place } in p) c.self.view_is

pub returns-clause-by_id : goal.returns-clause-by_id
returns-clause-by_id c id has =
    let zones = c.self.inside.zones in
    let es = c.self.inside.entities.items in
    let b =
    dropped c.self.inside.next zones c.give_up.new.self es c.args.place c.remove-name.result
    (within c.self.inside.next c.args.self.now es (live_of zones es) c.args.place (ap (λ (o : Entities). o.live) c.self.view_is) (length-map es (live_entity zones)) c.requires.within)
    c.requires.later c.remove-name.ensures.value c.self.invariant.0
    (bare_place c.self.inside.next zones es c.args.self.now c.args.place c.remove-name.result c.self.view_is
    (within c.self.inside.next c.args.self.now es (live_of zones es) c.args.place (ap (λ (o : Entities). o.live) c.self.view_is) (length-map es (live_entity zones)) c.requires.within)
    c.remove-name.ensures.value c.requires.bare)
    c.give_up.ensures in
    let removed : view c.self.inside.next c.give_up.new.self c.remove-name.new.self.items ≡ (let p : Entities = record { next = c.args.self.now.next; live = remove c.args.self.now.live c.args.place } in p) =
    ap (λ (xs : List Entity). view c.self.inside.next c.give_up.new.self xs) c.remove-name.ensures.items
    ∙ b.shows
    ∙ ap (λ (o : Entities). let p : Entities = record { next = o.next; live = remove o.live c.args.place } in p) c.self.view_is in
    let lives = live_of zones es in
    let same : lives ≡ c.args.self.now.live = ap (λ (o : Entities). o.live) c.self.view_is in
    let first : LiveEntity = live_entity zones c.remove-name.result in
    let all : IsRising 0 c.self.inside.next c.args.self.now.live = subst (λ (ls : List LiveEntity). IsRising 0 c.self.inside.next ls) same c.self.invariant.0.population.rising in
    removed
    ∙ ap (λ (ls : List LiveEntity). let p : Entities = record { next = c.args.self.now.next; live = ls } in p)
    (remove_filter id 0 c.self.inside.next c.args.self.now.live c.args.place first c.requires.within all (has first))
