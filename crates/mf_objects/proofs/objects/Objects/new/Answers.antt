use Rattle.std.proofs.Common.{◌≡◌, ◌++◌, ◌∷◌, [], List, length, replicate, ap, sym, ◌∙◌, subst, arith, refl}
use Rattle.mf_slots.specs.Zones.{Contents, MakesLabel}
use Rattle.mf_objects.specs.declared.entity.Entity.{Entity}
use Rattle.mf_objects.specs.declared.id.Id.{Id}
use Rattle.mf_objects.specs.Index.{IsIndex, group_of}
use Rattle.mf_objects.specs.Sound.{open_count, root_labelled}
use Rattle.mf_objects.proofs.Kept.{view}
use Rattle.mf_objects.proofs.Root.{opened}
use Rattle.mf_objects.proofs.Counted.{count_push}
use Rattle.mf_objects.proofs.Indexed.{index_none, index_added}
use Rattle.mf_objects.proofs.objects.Objects.new.Goals as goal

pub invariant_of-result : goal.invariant_of-result
invariant_of-result c =
    let e : Entity = root_labelled c.in_ok-label.label in
    let values = c.args.values.now in
    let four : length values ≡ 4 = omega arith in
    let makes : MakesLabel (replicate 4 []) c.enroll.new.zones c.in_ok-label.label values =
    subst (λ (z : Contents). MakesLabel z c.enroll.new.zones c.in_ok-label.label values) c.in_ok-zones.ensures c.in_ok-label.ensures.label in
    let b = opened c.enroll.new.zones e values four makes refl refl refl (λ _. refl) refl in
    let items : c.in_ok-entities.entities.items ≡ [] ++ e ∷ [] = c.in_ok-entities.ensures in (
      rw items b.sound,
      index_added c.in_ok-index.index c.enroll.new.index [] c.in_ok-entities.entities.items e (group_of e.what) [] refl refl c.in_ok-label.ensures.named items
          (subst (λ (index : List (List Id)). IsIndex index []) (sym c.in_ok-index.ensures) index_none),
      sym (ap (λ (xs : List Entity). open_count xs) items ∙ count_push [] e refl),
    )

pub returns : goal.returns
returns c =
    let e : Entity = root_labelled c.in_ok-label.label in
    let values = c.args.values.now in
    let four : length values ≡ 4 = omega arith in
    let makes : MakesLabel (replicate 4 []) c.enroll.new.zones c.in_ok-label.label values =
    subst (λ (z : Contents). MakesLabel z c.enroll.new.zones c.in_ok-label.label values) c.in_ok-zones.ensures c.in_ok-label.ensures.label in
    let b = opened c.enroll.new.zones e values four makes refl refl refl (λ _. refl) refl in
    ap (λ (xs : List Entity). view 1 c.enroll.new.zones xs) c.in_ok-entities.ensures ∙ b.shows
