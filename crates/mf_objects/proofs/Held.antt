-- As many values lie in the zone of a slot as live entities have the slot made: each side counts the handles of the slot.
use Rattle.std.proofs.Common.{◌≡◌, ℕ, ◌<◌, ◌≤◌, ◌≢◌, ◌+◌, Bool, cond, List, [], ◌∷◌, Option, Some, None, IsSome, is_some, count_by, length, refl, ap, sym, ◌∙◌, arith, zero, suc}
use Rattle.std.proofs.lemmas.List.Sums.{sum_by-cons}
use Rattle.mf_elem.specs.declared.label.LabelValue.{LabelValue}
use Rattle.mf_elem.specs.declared.label.LabelValue.TheVariants.{Unset, Range, Number}
use Rattle.mf_slots.specs.Zones.{Zone, Contents, Handles, handle, at_handle, under, zone_of, slot_value, IsHeldAt, NoneUnset, value_count}
use Rattle.mf_slots.proofs.Places.{has_place}
use Rattle.mf_slots.proofs.ZonesLaws.{unset_exactly}
use Rattle.mf_objects.specs.declared.entity.Entity.{Entity}
use Rattle.mf_objects.specs.Live.{LiveEntity, is_set, value_in}
use Rattle.mf_objects.specs.Lives.{made_count}
use Rattle.mf_objects.specs.Sound.{live_entity, labels_of, owned, owner_count, held_count, IsExact, live_of}
use Rattle.mf_objects.proofs.Zoned.{owned_yes, owned_no}
use Rattle.mf_objects.proofs.Kept.{get_values}

-- Sums over the numbers below n

abbrev total : ℕ → (ℕ → ℕ) → ℕ
total zero f = 0
total (suc n) f = f 0 + total n (λ k. f (suc k))

total_same : (n : ℕ) (f g : ℕ → ℕ) → ((k : ℕ) → f k ≡ g k) → total n f ≡ total n g
total_same zero f g same = refl
total_same (suc n) f g same = omega (arith, same 0, total_same n (λ k. f (suc k)) (λ k. g (suc k)) (λ k. same (suc k)))

total_none : (n : ℕ) (f : ℕ → ℕ) → ((k : ℕ) → f k ≡ 0) → total n f ≡ 0
total_none zero f none = refl
total_none (suc n) f none = omega (arith, none 0, total_none n (λ k. f (suc k)) (λ k. none (suc k)))

total_plus : (n : ℕ) (f g : ℕ → ℕ) → total n (λ k. f k + g k) ≡ total n f + total n g
total_plus zero f g = refl
total_plus (suc n) f g = omega (arith, total_plus n (λ k. f (suc k)) (λ k. g (suc k)))

total_one : (n k : ℕ) (f : ℕ → ℕ) → k < n → f k ≡ 1 → ((j : ℕ) → j ≢ k → f j ≡ 0) → total n f ≡ 1
total_one zero k f below one others = absurd (omega (arith, below))
total_one (suc n) zero f below one others = omega (arith, one, total_none n (λ j. f (suc j)) (λ j. others (suc j) (omega arith)))
total_one (suc n) (suc k) f below one others =
    omega (arith, others 0 (omega arith), total_one n k (λ j. f (suc j)) (omega (arith, below)) one (λ j ne. others (suc j) (omega (arith, ne))))

count_cons : {X : Type 0} (p : X → Bool) (x : X) (xs : List X) → count_by p (x ∷ xs) ≡ cond (p x) 1 0 + count_by p xs
count_cons p x xs = sum_by-cons (λ y. cond (p y) 1 0) x xs

-- Both sides

-- the values of a zone, handle by handle
zone_total : (zone : Zone) → count_by is_some zone ≡ total (length zone) (λ h. held_count (at_handle zone h))
zone_total [] = refl
zone_total (None ∷ zone) = omega (arith, count_cons is_some None zone, zone_total zone)
zone_total (Some v ∷ zone) = omega (arith, count_cons is_some (Some v) zone, zone_total zone)

-- how many of the labels have the slot made
abbrev made_labels : ℕ → List Handles → ℕ
made_labels slot [] = 0
made_labels slot (label ∷ labels) = cond (is_some (handle label slot)) 1 0 + made_labels slot labels

owned_total : (n : ℕ) (key : Option ℕ) → ((h : ℕ) → 1 ≤ owned key h → h < n) → total n (owned key) ≡ cond (is_some key) 1 0
owned_total n None below = total_none n (owned None) (λ h. refl)
owned_total n (Some k) below =
    let one : owned (Some k) k ≡ 1 = owned_yes (Some k) k refl in
    total_one n k (owned (Some k)) (below k (omega (arith, one))) one (λ h ne. owned_no (Some k) h (λ same. ne (sym (inside k h same))))
  where
    inside : (a b : ℕ) → Some a ≡ Some b → a ≡ b
    inside a b e = cc

owner_total : (n slot : ℕ) (labels : List Handles) → ((h : ℕ) → 1 ≤ owner_count slot h labels → h < n)
    → total n (λ h. owner_count slot h labels) ≡ made_labels slot labels
owner_total n slot [] below = total_none n (λ h. 0) (λ h. refl)
owner_total n slot (label ∷ labels) below =
    let split = total_plus n (owned (handle label slot)) (λ h. owner_count slot h labels) in
    let here = owned_total n (handle label slot) (λ h own. below h (omega (arith, own))) in
    let rest = owner_total n slot labels (λ h own. below h (omega (arith, own))) in
    omega (arith, split, here, rest)

some_held : (o : Option LabelValue) → 1 ≤ held_count o → IsSome o
some_held None h = absurd (omega (arith, h))
some_held (Some v) h = refl

-- the values in the zone of a slot are as many as the labels whose slot is made
zone_labels : (zones : Contents) (labels : List Handles) (slot : ℕ) → slot < 4 → IsExact zones labels → value_count zones slot ≡ made_labels slot labels
zone_labels zones labels slot four exact =
    let n = length (zone_of zones slot) in
    zone_total (zone_of zones slot)
    ∙ total_same n (λ h. held_count (under zones slot h)) (λ h. owner_count slot h labels) (λ h. sym (exact.each slot h four))
    ∙ owner_total n slot labels (λ h own. has_place (zone_of zones slot) h (some_held (under zones slot h) (omega (arith, own, exact.each slot h four))))

-- a slot is made exactly where its value isn't Unset
set_value : (zones : Contents) (label : Handles) (slot : ℕ) → NoneUnset zones → IsHeldAt zones slot (handle label slot)
    → is_set (slot_value zones label slot) ≡ is_some (handle label slot)
set_value zones label slot set held = by_value (slot_value zones label slot) (handle label slot) (unset_exactly zones label slot set held).0 (unset_exactly zones label slot set held).1
  where
    by_value : (v : LabelValue) (key : Option ℕ) → (v ≡ Unset → key ≡ None) → (key ≡ None → v ≡ Unset) → is_set v ≡ is_some key
    by_value Unset key none unset = ap is_some (sym (none refl))
    by_value (Range r) None none unset = absurd (cc (unset refl))
    by_value (Range r) (Some h) none unset = refl
    by_value (Number n) None none unset = absurd (cc (unset refl))
    by_value (Number n) (Some h) none unset = refl

live_labels : (zones : Contents) (es : List Entity) (slot : ℕ) → slot < 4 → NoneUnset zones → ((h : ℕ) → 1 ≤ owner_count slot h (labels_of es) → IsSome (under zones slot h))
    → count_by (λ (e : LiveEntity). is_set (value_in slot e)) (live_of zones es) ≡ made_labels slot (labels_of es)
live_labels zones [] slot four set held = refl
live_labels zones (e ∷ es) slot four set held =
    let key = handle e.label slot in
    let here : is_set (value_in slot (live_entity zones e)) ≡ is_some key =
    ap is_set (get_values zones e.label slot four) ∙ set_value zones e.label slot set (held_at key (λ h own. held h (omega (arith, owned_yes key h own)))) in
    count_cons (λ (x : LiveEntity). is_set (value_in slot x)) (live_entity zones e) (live_of zones es)
    ∙ ap (λ (b : Bool). cond b 1 0 + count_by (λ (x : LiveEntity). is_set (value_in slot x)) (live_of zones es)) here
    ∙ ap (λ (n : ℕ). cond (is_some key) 1 0 + n) (live_labels zones es slot four set (λ h own. held h (omega (arith, own))))
  where
    held_at : (key : Option ℕ) → ((h : ℕ) → key ≡ Some h → IsSome (under zones slot h)) → IsHeldAt zones slot key
    held_at None some = tt
    held_at (Some h) some = some h refl

-- the values in the zone of a slot are as many as the live entities whose slot is made
pub held_made : (next : ℕ) (zones : Contents) (es : List Entity) (slot : ℕ) → slot < 4 → IsExact zones (labels_of es) → NoneUnset zones
    → value_count zones slot ≡ made_count (record { next = next; live = live_of zones es }) slot
held_made next zones es slot four exact set =
    zone_labels zones (labels_of es) slot four exact
    ∙ sym (live_labels zones es slot four set (λ h own. some_held (under zones slot h) (omega (arith, own, exact.each slot h four))))
