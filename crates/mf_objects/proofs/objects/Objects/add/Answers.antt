use Rattle.std.specs.Prelude.{find}
use Rattle.std.proofs.Common.{◌≡◌, ◌<◌, ℕ, List, [], ◌∷◌, ◌++◌, ◌+◌, length, ap, sym, ◌∙◌, subst, arith, refl, None}
use Rattle.std.proofs.lemmas.List.{length-map}
use Rattle.mf_objects.specs.declared.id.Id.{Id}
use Rattle.mf_objects.specs.declared.entity.Entity.{Entity}
use Rattle.mf_objects.specs.Live.{LiveEntity, Entities, live_at}
use Rattle.mf_objects.specs.Changes.{with_entity, made}
use Rattle.mf_objects.specs.Fits.{MayJoin}
use Rattle.mf_objects.specs.Population.{IsRising, Belongs, is_namesake}
use Rattle.mf_objects.specs.Sound.{live_of, live_entity, open_count}
use Rattle.mf_objects.proofs.Rising.{find_new}
use Rattle.mf_objects.proofs.Belonging.{joins, joins_bare}
use Rattle.mf_objects.proofs.Kept.{view, Becomes, added}
use Rattle.mf_objects.proofs.Opened.{joins_unopened}
use Rattle.mf_objects.proofs.Counted.{count_push}
use Rattle.mf_objects.proofs.Indexed.{index_added}
use Rattle.mf_objects.proofs.objects.Objects.add.Goals as goal

pub invariant_of-self-2 : goal.invariant_of-self-2
invariant_of-self-2 c =
    let zones = c.self.inside.zones in
    let es = c.self.inside.entities.items in
    let e : Entity = record { id = record { 0 = c.self.inside.next }; name = c.in_ok-name.name; label = c.in_ok-label.label; what = c.args.what } in
    let room : length es < 1024 = omega (arith, c.requires.few, length-map es (live_entity zones), ap (λ (o : Entities). length o.live) c.self.view_is) in
    let four : length c.args.values.now ≡ 4 = omega arith in
    let belongs : Belongs (live_of zones es) c.self.inside.next c.args.what =
    joins (view c.self.inside.next zones es) c.args.what c.self.invariant.0.population.rising (subst (λ (o : Entities). MayJoin o c.args.what) (sym c.self.view_is) c.requires.joins) in
    let free : find (is_namesake e.name e.what) (live_of zones es) ≡ None =
    ap (λ (n : List ℕ). find (is_namesake n c.args.what) (live_of zones es)) (let n = c.in_ok-name.ensures in n)
    ∙ ap (λ (o : Entities). find (is_namesake c.args.name.now c.args.what) o.live) c.self.view_is
    ∙ c.requires.name in
    let b : Becomes (c.self.inside.next + 1) c.enroll.new.zones (es ++ e ∷ [])
    (record { next = c.self.inside.next + 1; live = live_of zones es ++ record { id = e.id; name = e.name; label = c.args.values.now; what = e.what } ∷ [] }) =
    added c.self.inside.next zones c.enroll.new.zones es e c.args.values.now refl room four c.self.invariant.0 belongs (joins_bare c.args.self.now c.args.what c.requires.joins) (joins_unopened c.args.self.now c.args.what c.requires.joins) free c.in_ok-label.ensures.label in
    let pushed : c.push.new.self.items ≡ c.reserve.new.self.items ++ e ∷ [] = rw c.unwrap.ensures at c.push.ensures.items in
    let items : c.push.new.self.items ≡ es ++ e ∷ [] = pushed ∙ ap (λ (xs : List Entity). xs ++ e ∷ []) c.reserve.ensures.items in (
      rw items b.sound,
      index_added c.self.inside.index c.enroll.new.index es c.push.new.self.items e c.group-group.result c.as_str.result.now c.group-group.ensures c.as_str.ensures c.in_ok-label.ensures.named items
          c.self.invariant.1,
      c.self.invariant.2 ∙ sym (ap (λ (xs : List Entity). open_count xs) items ∙ count_push es e (joins_unopened c.args.self.now c.args.what c.requires.joins)),
    )

pub returns-clause-ok : goal.returns-clause-ok
returns-clause-ok c =
    let zones = c.self.inside.zones in
    let es = c.self.inside.entities.items in
    let e : Entity = record { id = record { 0 = c.self.inside.next }; name = c.in_ok-name.name; label = c.in_ok-label.label; what = c.args.what } in
    let room : length es < 1024 = omega (arith, c.requires.few, length-map es (live_entity zones), ap (λ (o : Entities). length o.live) c.self.view_is) in
    let four : length c.args.values.now ≡ 4 = omega arith in
    let belongs : Belongs (live_of zones es) c.self.inside.next c.args.what =
    joins (view c.self.inside.next zones es) c.args.what c.self.invariant.0.population.rising (subst (λ (o : Entities). MayJoin o c.args.what) (sym c.self.view_is) c.requires.joins) in
    let free : find (is_namesake e.name e.what) (live_of zones es) ≡ None =
    ap (λ (n : List ℕ). find (is_namesake n c.args.what) (live_of zones es)) (let n = c.in_ok-name.ensures in n)
    ∙ ap (λ (o : Entities). find (is_namesake c.args.name.now c.args.what) o.live) c.self.view_is
    ∙ c.requires.name in
    let b : Becomes (c.self.inside.next + 1) c.enroll.new.zones (es ++ e ∷ [])
    (record { next = c.self.inside.next + 1; live = live_of zones es ++ record { id = e.id; name = e.name; label = c.args.values.now; what = e.what } ∷ [] }) =
    added c.self.inside.next zones c.enroll.new.zones es e c.args.values.now refl room four c.self.invariant.0 belongs (joins_bare c.args.self.now c.args.what c.requires.joins) (joins_unopened c.args.self.now c.args.what c.requires.joins) free c.in_ok-label.ensures.label in
    let pushed : c.push.new.self.items ≡ c.reserve.new.self.items ++ e ∷ [] = rw c.unwrap.ensures at c.push.ensures.items in
    let items : c.push.new.self.items ≡ es ++ e ∷ [] = pushed ∙ ap (λ (xs : List Entity). xs ++ e ∷ []) c.reserve.ensures.items in
    ap (λ (xs : List Entity). view (c.self.inside.next + 1) c.enroll.new.zones xs) items
    ∙ b.shows
    ∙ ap (λ (n : List ℕ). with_entity (view c.self.inside.next zones es) n c.args.values.now c.args.what) (let n = c.in_ok-name.ensures in n)
    ∙ ap (λ (o : Entities). with_entity o c.args.name.now c.args.values.now c.args.what) c.self.view_is

pub returns-clause-found : goal.returns-clause-found
returns-clause-found c =
    let zones = c.self.inside.zones in
    let es = c.self.inside.entities.items in
    let e : Entity = record { id = record { 0 = c.self.inside.next }; name = c.in_ok-name.name; label = c.in_ok-label.label; what = c.args.what } in
    let room : length es < 1024 = omega (arith, c.requires.few, length-map es (live_entity zones), ap (λ (o : Entities). length o.live) c.self.view_is) in
    let four : length c.args.values.now ≡ 4 = omega arith in
    let belongs : Belongs (live_of zones es) c.self.inside.next c.args.what =
    joins (view c.self.inside.next zones es) c.args.what c.self.invariant.0.population.rising (subst (λ (o : Entities). MayJoin o c.args.what) (sym c.self.view_is) c.requires.joins) in
    let free : find (is_namesake e.name e.what) (live_of zones es) ≡ None =
    ap (λ (n : List ℕ). find (is_namesake n c.args.what) (live_of zones es)) (let n = c.in_ok-name.ensures in n)
    ∙ ap (λ (o : Entities). find (is_namesake c.args.name.now c.args.what) o.live) c.self.view_is
    ∙ c.requires.name in
    let b : Becomes (c.self.inside.next + 1) c.enroll.new.zones (es ++ e ∷ [])
    (record { next = c.self.inside.next + 1; live = live_of zones es ++ record { id = e.id; name = e.name; label = c.args.values.now; what = e.what } ∷ [] }) =
    added c.self.inside.next zones c.enroll.new.zones es e c.args.values.now refl room four c.self.invariant.0 belongs (joins_bare c.args.self.now c.args.what c.requires.joins) (joins_unopened c.args.self.now c.args.what c.requires.joins) free c.in_ok-label.ensures.label in
    let pushed : c.push.new.self.items ≡ c.reserve.new.self.items ++ e ∷ [] = rw c.unwrap.ensures at c.push.ensures.items in
    let items : c.push.new.self.items ≡ es ++ e ∷ [] = pushed ∙ ap (λ (xs : List Entity). xs ++ e ∷ []) c.reserve.ensures.items in
    let whole : view (c.self.inside.next + 1) c.enroll.new.zones c.push.new.self.items ≡ with_entity c.args.self.now c.args.name.now c.args.values.now c.args.what =
    ap (λ (xs : List Entity). view (c.self.inside.next + 1) c.enroll.new.zones xs) items
    ∙ b.shows
    ∙ ap (λ (n : List ℕ). with_entity (view c.self.inside.next zones es) n c.args.values.now c.args.what) (let n = c.in_ok-name.ensures in n)
    ∙ ap (λ (o : Entities). with_entity o c.args.name.now c.args.values.now c.args.what) c.self.view_is in
    let x : LiveEntity = made c.args.self.now c.args.name.now c.args.values.now c.args.what in
    let rising : IsRising 0 c.args.self.now.next c.args.self.now.live = subst (λ (o : Entities). IsRising 0 o.next o.live) c.self.view_is c.self.invariant.0.population.rising in
    let id : Id = record { 0 = c.self.inside.next } in
    let same : id ≡ x.id = ap (λ (o : Entities). let i : Id = record { 0 = o.next } in i) c.self.view_is in
    ap (λ (o : Entities). live_at o id) whole
    ∙ ap (λ (i : Id). live_at (with_entity c.args.self.now c.args.name.now c.args.values.now c.args.what) i) same
    ∙ find_new 0 c.args.self.now.next c.args.self.now.live x rising refl
