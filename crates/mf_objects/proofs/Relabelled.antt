-- The zones and the live entities, where a whole label of one gets new values.
use Rattle.std.proofs.Common.{◌≡◌, ℕ, ◌<◌, ◌≤◌, ◌+◌, List, ◌∷◌, ◌++◌, Some, length, ap, ◌∙◌, arith, inl, inr}
use Rattle.std.proofs.lemmas.List.{map-append}
use Rattle.mf_elem.specs.declared.label.LabelValue.{LabelValue}
use Rattle.mf_slots.specs.Zones.{Contents, Handles, handle, under, value_for, zone_of, Relabels}
use Rattle.mf_slots.proofs.ZonesLaws.{has_handle}
use Rattle.mf_slots.proofs.Relabelling.{Moves, moves_at, has_value}
use Rattle.mf_objects.specs.declared.entity.Entity.{Entity}
use Rattle.mf_objects.specs.Live.{LiveEntity}
use Rattle.mf_objects.specs.Labels.{with_label}
use Rattle.mf_objects.specs.Sound.{live_entity, labels_of, owner_count, held_count, IsExact, live_of}
use Rattle.mf_objects.proofs.Zoned.{owned_yes, owned_no, held_none, held_some, held_most, some_is, count_split, live_kept, values_made}

-- the handles of the other entities keep what they have
others_kept : (zones zones' : Contents) (xs ys : List Entity) (e : Entity) (label : Handles) (values : List LabelValue)
    → IsExact zones (labels_of (xs ++ e ∷ ys)) → Relabels zones zones' e.label label values → (slot h : ℕ) → slot < 4
    → 1 ≤ owner_count slot h (labels_of xs) + owner_count slot h (labels_of ys) → under zones' slot h ≡ under zones slot h
others_kept zones zones' xs ys e label values exact relabels slot h four owned_by =
    let m : Moves (zone_of zones slot) (zone_of zones' slot) (handle e.label slot) (handle label slot) (value_for values slot) = moves_at zones zones' e.label label values relabels slot in
    let split = count_split slot h xs ys e in
    let count = exact.each slot h four in
    let most = held_most (under zones slot h) in
    let not_old : handle e.label slot ≡ Some h → ⊥ =
    (λ was. let one = owned_yes (handle e.label slot) h was in absurd (omega (arith, split, count, most, one, owned_by))) in
    let not_new : handle label slot ≡ Some h → ⊥ =
    (λ own. elim (m.own_or_free h own) [
      | inl was ↦ not_old was
      | inr free ↦ let none = held_none (under zones slot h) free in absurd (omega (arith, split, count, none, owned_by))
    ]) in
    m.others h not_old not_new

pub exact_whole : (zones zones' : Contents) (xs ys : List Entity) (e : Entity) (label : Handles) (values : List LabelValue)
    → IsExact zones (labels_of (xs ++ e ∷ ys)) → Relabels zones zones' e.label label values → IsExact zones' (labels_of (xs ++ record e { label = label } ∷ ys))
exact_whole zones zones' xs ys e label values exact relabels =
    let e' : Entity = record e { label = label } in
    record {
      each = λ slot h l.
          let m : Moves (zone_of zones slot) (zone_of zones' slot) (handle e.label slot) (handle label slot) (value_for values slot) =
          moves_at zones zones' e.label label values relabels slot in
          let old = count_split slot h xs ys e in
          let new = count_split slot h xs ys e' in
          let count = exact.each slot h l in
          let most = held_most (under zones slot h) in
          elim (has_handle (handle label slot) h) [
            | inl own ↦
                let one = owned_yes (handle label slot) h own in
                let some = held_some (under zones' slot h) (some_is (under zones' slot h) (value_for values slot) (m.holds h own)) in
                elim (m.own_or_free h own) [
                  | inl was ↦ let was_one = owned_yes (handle e.label slot) h was in omega (arith, old, new, count, most, one, some, was_one)
                  | inr free ↦ let none = held_none (under zones slot h) free in omega (arith, old, new, count, one, some, none)
                ]
            | inr other ↦
                let zero_now = owned_no (handle label slot) h other in
                elim (has_handle (handle e.label slot) h) [
                  | inl was ↦ absurd (other (m.kept h was))
                  | inr never ↦
                      let zero_then = owned_no (handle e.label slot) h never in
                      let same = ap held_count (m.others h never other) in
                      omega (arith, old, new, count, zero_now, zero_then, same)
                ]
          ];
    }

pub live_whole : (zones zones' : Contents) (xs ys : List Entity) (e : Entity) (label : Handles) (values : List LabelValue) → length values ≡ 4
    → IsExact zones (labels_of (xs ++ e ∷ ys)) → Relabels zones zones' e.label label values
    → live_of zones' (xs ++ record e { label = label } ∷ ys) ≡ live_of zones xs ++ with_label values (live_entity zones e) ∷ live_of zones ys
live_whole zones zones' xs ys e label values four exact relabels =
    let e' : Entity = record e { label = label } in
    let here : live_entity zones' e' ≡ with_label values (live_entity zones e) =
    ap (λ (ls : List LabelValue). let l : LiveEntity = record { id = e.id; name = e.name; label = ls; what = e.what } in l)
    (values_made zones' label values four (has_value zones zones' e.label label values relabels)) in
    let kept = others_kept zones zones' xs ys e label values exact relabels in
    let front : live_of zones' xs ≡ live_of zones xs = live_kept zones zones' xs (record { same = λ s k l own. kept s k l (omega (arith, own)) }) in
    let back : live_of zones' ys ≡ live_of zones ys = live_kept zones zones' ys (record { same = λ s k l own. kept s k l (omega (arith, own)) }) in
    map-append (live_entity zones') xs (e' ∷ ys)
    ∙ ap (λ (ls : List LiveEntity). ls ++ live_entity zones' e' ∷ live_of zones' ys) front
    ∙ ap (λ (x : LiveEntity). live_of zones xs ++ x ∷ live_of zones' ys) here
    ∙ ap (λ (ls : List LiveEntity). live_of zones xs ++ with_label values (live_entity zones e) ∷ ls) back
