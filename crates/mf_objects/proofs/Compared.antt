-- A label that is compared with values, and a whole entity with what policies see of it.
use Rattle.std.proofs.Common.{◌≡◌, ◌↔◌, ℕ, ◌<◌, List, [], ◌∷◌, Bool, true, IsTrue, Some, length, get_or, refl, ap, sym, ◌∙◌, arith, zero, suc}
use Rattle.mf_elem.specs.declared.label.LabelValue.{LabelValue}
use Rattle.mf_elem.specs.declared.label.LabelValue.TheVariants.{Unset}
use Rattle.std.proofs.lemmas.Bool.{eqb-true}
use Rattle.mf_slots.specs.Zones.{Contents, Handles, label_values, slot_value, value_for}
use Rattle.mf_item.specs.declared.view.ObjectView.{ObjectView}
use Rattle.mf_objects.specs.declared.id.Id.{Id}
use Rattle.mf_objects.specs.declared.entity.Entity.{Entity}
use Rattle.mf_objects.specs.Live.{Entities, has_id, live_at, kind_of, file_of}
use Rattle.mf_objects.specs.Lives.{view_at}
use Rattle.mf_objects.specs.Sound.{live_entity, live_of, with_values, IsPlace, IsSeenSo}
use Rattle.mf_objects.proofs.Kept.{view, found_place}
use Rattle.mf_objects.proofs.Found.{passes_found}
use Rattle.mf_objects.proofs.Zoned.{four_values}

abbrev all_values : Contents → Handles → List LabelValue
all_values zones label = slot_value zones label 0 ∷ slot_value zones label 1 ∷ slot_value zones label 2 ∷ slot_value zones label 3 ∷ []

-- the four values are those of the slots
pub same_values : (zones : Contents) (label : Handles) (values : List LabelValue) (answer : Bool) → length values ≡ 4
    → IsTrue answer ↔ ((slot : ℕ) → slot < 4 → slot_value zones label slot ≡ value_for values slot) → IsTrue answer ↔ (values ≡ label_values zones label)
unfolding label_values
same_values zones label values answer four tells = (λ yes. together (tells.0 yes), λ same. tells.1 (apart same))
  where
    together : ((slot : ℕ) → slot < 4 → slot_value zones label slot ≡ value_for values slot) → values ≡ all_values zones label
    together each = rw (each 0 (omega arith), each 1 (omega arith), each 2 (omega arith), each 3 (omega arith)) (sym (four_values values four))

    apart : values ≡ all_values zones label → (slot : ℕ) → slot < 4 → slot_value zones label slot ≡ value_for values slot
    apart same zero l = sym (ap (λ (vs : List LabelValue). get_or vs 0 Unset) same)
    apart same (suc zero) l = sym (ap (λ (vs : List LabelValue). get_or vs 1 Unset) same)
    apart same (suc (suc zero)) l = sym (ap (λ (vs : List LabelValue). get_or vs 2 Unset) same)
    apart same (suc (suc (suc zero))) l = sym (ap (λ (vs : List LabelValue). get_or vs 3 Unset) same)
    apart same (suc (suc (suc (suc slot)))) l = absurd (omega arith)

-- an entity that lives is seen so, where its label is the same too
seen_whole : (o : Entities) (id : Id) (e : Entity) (label : List LabelValue) (v : ObjectView) → live_at o id ≡ Some (with_values label e) → e.id.0 ≡ id.0
    → IsSeenSo e v → v.label ≡ label → v ≡ view_at o id
seen_whole o id e label v is same so labels =
    let apart : v ≡ record { id = id.0; kind = kind_of e.what; file = file_of e.what; label = label } = rw (sym same, sym so.id, sym so.kind, sym so.file, sym labels) refl in
    rw is apart

-- what is seen of an entity that lives
seen_parts : (o : Entities) (id : Id) (e : Entity) (label : List LabelValue) (v : ObjectView) → live_at o id ≡ Some (with_values label e) → e.id.0 ≡ id.0
    → v ≡ view_at o id → IsSeenSo e v × (v.label ≡ label)
seen_parts o id e label v is same seen =
    let whole : v ≡ record { id = id.0; kind = kind_of e.what; file = file_of e.what; label = label } = rw is at seen in
    (record { id = ap (λ (x : ObjectView). x.id) whole ∙ sym same; kind = ap (λ (x : ObjectView). x.kind) whole; file = ap (λ (x : ObjectView). x.file) whole }, ap (λ (x : ObjectView). x.label) whole)

own_number : (next : ℕ) (zones : Contents) (es : List Entity) (id : Id) (e : Entity) → live_at (view next zones es) id ≡ Some (live_entity zones e) → e.id.0 ≡ id.0
own_number next zones es id e is = eqb-true e.id.0 id.0 (passes_found (has_id id) (live_of zones es) (live_entity zones e) is)

-- the entity at a place is seen so, but for its label, which is still to be compared
pub seen_place : (next : ℕ) (zones : Contents) (es : List Entity) (id : Id) (i : ℕ) (e : Entity) (v : ObjectView) (answer : Bool) → IsPlace (view next zones es) id i
    → e ≡ get_or es i e → IsSeenSo e v → IsTrue answer ↔ (v.label ≡ label_values zones e.label) → IsTrue answer ↔ (v ≡ view_at (view next zones es) id)
seen_place next zones es id i e v answer place at so tells =
    let is = found_place next zones es id i e place at in
    let same = own_number next zones es id e is in
    (λ yes. seen_whole (view next zones es) id e (label_values zones e.label) v is same so (tells.0 yes), λ seen. tells.1 (seen_parts (view next zones es) id e (label_values zones e.label) v is same seen).1)

pub unseen_place : (next : ℕ) (zones : Contents) (es : List Entity) (id : Id) (i : ℕ) (e : Entity) (v : ObjectView) → IsPlace (view next zones es) id i
    → e ≡ get_or es i e → v ≡ view_at (view next zones es) id → IsSeenSo e v
unseen_place next zones es id i e v place at seen =
    let is = found_place next zones es id i e place at in
    (seen_parts (view next zones es) id e (label_values zones e.label) v is (own_number next zones es id e is) seen).0

-- values that are those of the four slots
pub shown_values : (zones : Contents) (label : Handles) (values : List LabelValue) → length values ≡ 4
    → ((slot : ℕ) → slot < 4 → slot_value zones label slot ≡ value_for values slot) → values ≡ label_values zones label
shown_values zones label values four each = (same_values zones label values true four (λ yes. each, λ all. refl)).0 refl
