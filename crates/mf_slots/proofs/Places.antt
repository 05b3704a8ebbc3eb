-- A zone that is replaced, seen slot by slot.
use Rattle.std.proofs.Common.{◌≡◌, ℕ, ◌<◌, List, [], ◌∷◌, Option, Some, None, length, get_or, set, map, refl, ap, sym, ◌∙◌, subst, arith, inl, inr, zero, suc, IsSome, ◌+◌}
use Rattle.std.proofs.lemmas.List.{set-get_or, get_or-set_same, get_or-set_other, get_or-map, length-map}
use Rattle.std.proofs.lemmas.Bool.{cases_eq}
use Rattle.slab.specs.Slab.{Slab, get, with_value, Updates as UpdatesSlab}
use Rattle.mf_elem.specs.declared.label.LabelValue.{LabelValue}
use Rattle.mf_elem.specs.declared.label.LabelValue.TheVariants.{Unset}
use Rattle.mf_slots.specs.Zones.{Contents, Handles, handle, slot_value, under, value_for, Writes, Updates, Adds, Makes, Frees}

-- what contracts see of the slabs
abbrev pub seen : List (Slab LabelValue) → Contents
seen slabs = map (λ (s : Slab LabelValue). s.slots) slabs

pub seen_at : (slabs : List (Slab LabelValue)) (i : ℕ) (d : Slab LabelValue) → i < length slabs → get_or (seen slabs) i [] ≡ (get_or slabs i d).slots
seen_at slabs i d h = get_or-map (λ (s : Slab LabelValue). s.slots) slabs i d [] h

pub seen_set : (slabs : List (Slab LabelValue)) (i : ℕ) (s : Slab LabelValue) → seen (set slabs i s) ≡ set (seen slabs) i s.slots
seen_set [] i s = refl
seen_set (x ∷ slabs) zero s = refl
seen_set (x ∷ slabs) (suc i) s = ap (λ (zs : Contents). x.slots ∷ zs) (seen_set slabs i s)

-- one zone that has what it had
pub seen_kept : (slabs : List (Slab LabelValue)) (i : ℕ) (old new : Slab LabelValue) → i < length slabs → get_or slabs i old ≡ old → new.slots ≡ old.slots
    → seen (set slabs i new) ≡ seen slabs
seen_kept slabs i old new within is same =
    seen_set slabs i new
    ∙ ap (λ (z : List (Option LabelValue)). set (seen slabs) i z) (same ∙ sym (seen_at slabs i old within ∙ ap (λ (s : Slab LabelValue). s.slots) is))
    ∙ set-get_or (seen slabs) i []

-- one zone that was updated under a key
pub writes_zone : (slabs : List (Slab LabelValue)) (i : ℕ) (old new : Slab LabelValue) (k : ℕ) (v : Option LabelValue)
    → i < length slabs → get_or slabs i old ≡ old → Updates old.slots new.slots k v
    → Writes (seen slabs) (seen (set slabs i new)) i k v
writes_zone slabs i old new k v within is up =
    let zone : get_or (seen slabs) i [] ≡ old.slots = seen_at slabs i old within ∙ ap (λ (s : Slab LabelValue). s.slots) is in
    let long : i < length (seen slabs) = subst (λ n. i < n) (sym (length-map slabs (λ (s : Slab LabelValue). s.slots))) within in
    record {
      changed = rw (seen_set slabs i new) (ap (λ (z : List (Option LabelValue)). get_or z k None) (get_or-set_same (seen slabs) i new.slots [] long) ∙ up.changed);
      others = λ s j apart. elim (cases_eq s i) [
        | inl same ↦
            let there : under (seen (set slabs i new)) i j ≡ under (seen slabs) i j =
            rw (seen_set slabs i new) (ap (λ (z : List (Option LabelValue)). get_or z j None) (get_or-set_same (seen slabs) i new.slots [] long)
            ∙ up.others j (λ e. apart same e)
            ∙ ap (λ (z : List (Option LabelValue)). get_or z j None) (sym zone)) in
            subst (λ n. under (seen (set slabs i new)) n j ≡ under (seen slabs) n j) (sym same) there
        | inr differ ↦ rw (seen_set slabs i new) (ap (λ (z : List (Option LabelValue)). get_or z j None) (get_or-set_other (seen slabs) i s new.slots [] differ))
      ];
    }

pub at_zone : (slabs : List (Slab LabelValue)) (i : ℕ) (zone : Slab LabelValue) (k : ℕ) → i < length slabs → get_or slabs i zone ≡ zone → under (seen slabs) i k ≡ get zone k
at_zone slabs i zone k within is =
    ap (λ (z : List (Option LabelValue)). get_or z k None) (seen_at slabs i zone within ∙ ap (λ (s : Slab LabelValue). s.slots) is)

-- a slot of a label is made
pub made : (slabs : List (Slab LabelValue)) (i : ℕ) (old new : Slab LabelValue) (k : ℕ) (v : LabelValue) (keys : Handles)
    → i < length slabs → i < length keys → get_or slabs i old ≡ old → Adds old.slots new.slots (Some k) v
    → Makes (seen slabs) (seen (set slabs i new)) keys (set keys i (Some k)) i v
made slabs i old new k v keys within long is adds =
    let same : adds.new ≡ k = cc in
    let free : get old k ≡ None = ap (get old) (sym same) ∙ adds.was_free in
    let updates : Updates old.slots new.slots k (Some v) = subst (λ (n : ℕ). Updates old.slots new.slots n (Some v)) same adds.updates in
    record {
      new = k;
      was_free = at_zone slabs i old k within is ∙ free;
      writes = writes_zone slabs i old new k (Some v) within is updates;
      here = get_or-set_same keys i (Some k) None long;
      elsewhere = λ s ne. get_or-set_other keys i s (Some k) None ne;
    }

-- a write under a key that has a value
pub updates_at : (zone : Slab LabelValue) (k : ℕ) (v : LabelValue) → k < length zone.slots → Updates zone.slots (with_value zone k v).slots k (Some v)
updates_at zone k v within =
    record {
      changed = get_or-set_same zone.slots k (Some v) None within;
      others = λ j ne. get_or-set_other zone.slots k j (Some v) None ne;
    }

pub has_place : (xs : List (Option LabelValue)) (k : ℕ) → IsSome (get_or xs k None) → k < length xs
has_place [] k h = cc
has_place (x ∷ xs) zero h = omega arith
has_place (x ∷ xs) (suc k) h = let l : k < length xs = has_place xs k h in omega arith

-- the values of the label's slots below n are freed, and all else is as before
pub record GivesUpBelow (n : ℕ) (zones zones' : Contents) (label : Handles) : Type 0 where
  pub freed : (slot h : ℕ) → slot < n → handle label slot ≡ Some h → under zones' slot h ≡ None
  pub others : (s k : ℕ) → (s < n → handle label s ≡ Some k → ⊥) → under zones' s k ≡ under zones s k

pub gives_up_none : (zones : Contents) (label : Handles) → GivesUpBelow 0 zones zones label
gives_up_none zones label = record { freed = λ slot h l e. absurd (omega arith); others = λ s k no. refl }

-- one slot more
pub gives_up_more : (n : ℕ) (zones zones1 zones2 : Contents) (label : Handles)
    → GivesUpBelow n zones zones1 label → Frees zones1 zones2 n (handle label n) → GivesUpBelow (n + 1) zones zones2 label
gives_up_more n zones zones1 zones2 label before frees =
    record {
      freed = λ slot h l e. elim (cases_eq slot n) [
        | inl same ↦
            let here : handle label n ≡ Some h = ap (handle label) (sym same) ∙ e in
            subst (λ m. under zones2 m h ≡ None) (sym same) (frees.freed h here)
        | inr differ ↦
            frees.others slot h (λ same _. differ same) ∙ before.freed slot h (omega (arith, differ)) e
      ];
      others = λ s k no.
          frees.others s k (λ same e. no (omega (arith, same)) (ap (handle label) same ∙ e))
          ∙ before.others s k (λ l e. no (omega (arith, l)) e);
    }

-- a zone that lost a key
pub frees_zone : (slabs : List (Slab LabelValue)) (i : ℕ) (old new : Slab LabelValue) (k : ℕ)
    → i < length slabs → get_or slabs i old ≡ old → UpdatesSlab old new k None
    → Frees (seen slabs) (seen (set slabs i new)) i (Some k)
frees_zone slabs i old new k within is up =
    let w = writes_zone slabs i old new k None within is (record { changed = up.changed; others = up.others }) in
    record {
      freed = λ h e. let same : k ≡ h = cc in subst (λ j. under (seen (set slabs i new)) i j ≡ None) same w.changed;
      others = λ s j no. w.others s j (λ si jk. no si (ap (λ (n : ℕ). Some n) (sym jk)));
    }

pub frees_none : (zones : Contents) (slot : ℕ) → Frees zones zones slot None
frees_none zones slot = record { freed = λ h e. cc; others = λ s k no. refl }

-- one slot more has its value
pub shown_more : (zones : Contents) (label : Handles) (values : List LabelValue) (n : ℕ) (v : LabelValue) → n < length values → slot_value zones label n ≡ v
    → ((slot : ℕ) → slot < n → slot_value zones label slot ≡ value_for values slot) → (slot : ℕ) → slot < n + 1 → slot_value zones label slot ≡ value_for (set values n v) slot
shown_more zones label values n v long is before slot within = elim (cases_eq slot n) [
  | inl same ↦ ap (slot_value zones label) same ∙ is ∙ sym (ap (value_for (set values n v)) same ∙ get_or-set_same values n v Unset long)
  | inr differ ↦ before slot (omega (arith, differ, within)) ∙ sym (get_or-set_other values n slot v Unset differ)
]
