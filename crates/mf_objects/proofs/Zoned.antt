-- The zones and the labels of the live entities: what each change of the zones leaves of the other entities.
use Rattle.std.proofs.Common.{◌≡◌, ◌≢◌, ℕ, ◌<◌, ◌≤◌, ◌+◌, List, [], ◌∷◌, ◌++◌, Option, Some, None, length, get_or, set, take, drop, refl, ap, sym, ◌∙◌, arith, inl, inr, zero, suc, IsSome, nat_eq, eq-eqb, false, ◌⊎◌, replicate}
use Rattle.std.proofs.lemmas.List.{map-append, set_split, set-get_or, set_at, length-map}
use Rattle.std.proofs.lemmas.Bool.{cases_eq}
use Rattle.std.proofs.lemmas.Bool.Decides.{nat_tests}
use Rattle.mf_elem.specs.declared.label.LabelValue.{LabelValue}
use Rattle.mf_elem.specs.declared.label.LabelValue.TheVariants.{Unset}
use Rattle.mf_slots.specs.Zones.{Contents, Handles, handle, label_values, under, slot_value, value_under, value_or_unset, value_for, MakesLabel, GivesUp, Writes, Makes, IsHeld, IsHeldAt}
use Rattle.mf_slots.proofs.ZonesLaws.{slot_value-same, has_handle}
use Rattle.mf_objects.specs.declared.entity.Entity.{Entity}
use Rattle.mf_objects.specs.Live.{LiveEntity}
use Rattle.mf_objects.specs.Labels.{with_value}
use Rattle.mf_objects.specs.Sound.{live_entity, labels_of, owned, owner_count, held_count, IsExact, live_of}

-- Owners of a handle

pub owned_yes : (key : Option ℕ) (h : ℕ) → key ≡ Some h → owned key h ≡ 1
owned_yes None h e = cc
owned_yes (Some k) h e = let same : k ≡ h = cc in rw (eq-eqb k h same) refl

differ_eqb : (k h : ℕ) → k ≢ h → nat_eq k h ≡ false
differ_eqb k h ne = grind (arith, nat_tests)

pub owned_no : (key : Option ℕ) (h : ℕ) → (key ≡ Some h → ⊥) → owned key h ≡ 0
owned_no None h no_handle = refl
owned_no (Some k) h no_handle = let ne : k ≢ h = (λ same. no_handle (ap (λ (n : ℕ). Some n) same)) in rw (differ_eqb k h ne) refl

owner_count-append : (slot h : ℕ) (xs ys : List Handles) → owner_count slot h (xs ++ ys) ≡ owner_count slot h xs + owner_count slot h ys
owner_count-append slot h [] ys = omega arith
owner_count-append slot h (x ∷ xs) ys = omega (arith, owner_count-append slot h xs ys)

pub held_none : (o : Option LabelValue) → o ≡ None → held_count o ≡ 0
held_none o e = rw e refl

pub held_some : (o : Option LabelValue) → IsSome o → held_count o ≡ 1
held_some None h = cc
held_some (Some v) h = refl

pub held_most : (o : Option LabelValue) → held_count o ≤ 1
held_most None = omega arith
held_most (Some v) = omega arith

some_held : (o : Option LabelValue) → 1 ≤ held_count o → IsSome o
some_held None h = absurd (omega arith)
some_held (Some v) h = refl

pub some_is : (o : Option LabelValue) (v : LabelValue) → o ≡ Some v → IsSome o
some_is o v e = rw e refl

-- the owners in a list of entities round one of them
pub count_split : (slot h : ℕ) (xs ys : List Entity) (e : Entity)
    → owner_count slot h (labels_of (xs ++ e ∷ ys)) ≡ owner_count slot h (labels_of xs) + (owned (handle e.label slot) h + owner_count slot h (labels_of ys))
count_split slot h xs ys e =
    ap (λ (ls : List Handles). owner_count slot h ls) (map-append (λ (x : Entity). x.label) xs (e ∷ ys))
    ∙ owner_count-append slot h (labels_of xs) (labels_of (e ∷ ys))

count_join : (slot h : ℕ) (xs ys : List Entity)
    → owner_count slot h (labels_of (xs ++ ys)) ≡ owner_count slot h (labels_of xs) + owner_count slot h (labels_of ys)
count_join slot h xs ys =
    ap (λ (ls : List Handles). owner_count slot h ls) (map-append (λ (x : Entity). x.label) xs ys)
    ∙ owner_count-append slot h (labels_of xs) (labels_of ys)

-- Entities whose handles keep what they have

-- at each handle that the entities own, the zones have what they had
pub record Keeps (zones zones' : Contents) (entities : List Entity) : Type 0 where
  pub same : (slot h : ℕ) → slot < 4 → 1 ≤ owner_count slot h (labels_of entities) → under zones' slot h ≡ under zones slot h

values_kept : (zones zones' : Contents) (label : Handles)
    → ((slot h : ℕ) → slot < 4 → handle label slot ≡ Some h → under zones' slot h ≡ under zones slot h) → label_values zones' label ≡ label_values zones label
unfolding label_values
values_kept zones zones' label same =
    let first : slot_value zones' label 0 ≡ slot_value zones label 0 = slot_value-same zones zones' label 0 (λ h. same 0 h (omega arith)) in
    let second : slot_value zones' label 1 ≡ slot_value zones label 1 = slot_value-same zones zones' label 1 (λ h. same 1 h (omega arith)) in
    let third : slot_value zones' label 2 ≡ slot_value zones label 2 = slot_value-same zones zones' label 2 (λ h. same 2 h (omega arith)) in
    let fourth : slot_value zones' label 3 ≡ slot_value zones label 3 = slot_value-same zones zones' label 3 (λ h. same 3 h (omega arith)) in
    rw (first, second, third, fourth) refl

seen_kept : (zones zones' : Contents) (e : Entity)
    → ((slot h : ℕ) → slot < 4 → handle e.label slot ≡ Some h → under zones' slot h ≡ under zones slot h) → live_entity zones' e ≡ live_entity zones e
seen_kept zones zones' e same =
    ap (λ (ls : List LabelValue). let l : LiveEntity = record { id = e.id; name = e.name; label = ls; what = e.what } in l) (values_kept zones zones' e.label same)

pub live_kept : (zones zones' : Contents) (es : List Entity) → Keeps zones zones' es → live_of zones' es ≡ live_of zones es
live_kept zones zones' [] keeps = refl
live_kept zones zones' (e ∷ es) keeps =
    let here : live_entity zones' e ≡ live_entity zones e =
    seen_kept zones zones' e (λ slot h l own. keeps.same slot h l (omega (arith, owned_yes (handle e.label slot) h own))) in
    let rest : Keeps zones zones' es = record { same = λ slot h l own. keeps.same slot h l (omega (arith, own)) } in
    ap (λ (x : LiveEntity). x ∷ live_of zones' es) here ∙ ap (λ (xs : List LiveEntity). live_entity zones e ∷ xs) (live_kept zones zones' es rest)

-- One entity more

pub exact_push : (zones zones' : Contents) (es : List Entity) (e : Entity) (values : List LabelValue)
    → IsExact zones (labels_of es) → MakesLabel zones zones' e.label values → IsExact zones' (labels_of (es ++ e ∷ []))
exact_push zones zones' es e values exact makes =
    record {
      each = λ slot h l.
          let split = count_split slot h es [] e in
          let before = exact.each slot h l in
          elim (has_handle (handle e.label slot) h) [
            | inl own ↦
                let one = owned_yes (handle e.label slot) h own in
                let none = held_none (under zones slot h) (makes.was_free slot h own) in
                let some = held_some (under zones' slot h) (makes.held slot h own) in
                omega (arith, split, before, one, none, some)
            | inr other ↦
                let zero_owned = owned_no (handle e.label slot) h other in
                let same = ap held_count (makes.others slot h other) in
                omega (arith, split, before, zero_owned, same)
          ];
    }

pub four_values : (values : List LabelValue) → length values ≡ 4
    → get_or values 0 Unset ∷ get_or values 1 Unset ∷ get_or values 2 Unset ∷ get_or values 3 Unset ∷ [] ≡ values
four_values [] four = absurd (omega arith)
four_values (a ∷ []) four = absurd (omega arith)
four_values (a ∷ b ∷ []) four = absurd (omega arith)
four_values (a ∷ b ∷ c ∷ []) four = absurd (omega arith)
four_values (a ∷ b ∷ c ∷ d ∷ []) four = refl
four_values (a ∷ b ∷ c ∷ d ∷ x ∷ xs) four = absurd (omega arith)

pub values_made : (zones : Contents) (label : Handles) (values : List LabelValue) → length values ≡ 4 → ((slot : ℕ) → slot_value zones label slot ≡ value_for values slot)
    → label_values zones label ≡ values
unfolding label_values
values_made zones label values four made =
    let first : slot_value zones label 0 ≡ get_or values 0 Unset = made 0 in
    let second : slot_value zones label 1 ≡ get_or values 1 Unset = made 1 in
    let third : slot_value zones label 2 ≡ get_or values 2 Unset = made 2 in
    let fourth : slot_value zones label 3 ≡ get_or values 3 Unset = made 3 in
    rw (first, second, third, fourth) (four_values values four)

pub live_push : (zones zones' : Contents) (es : List Entity) (e : Entity) (values : List LabelValue) → length values ≡ 4
    → IsExact zones (labels_of es) → MakesLabel zones zones' e.label values
    → live_of zones' (es ++ e ∷ []) ≡ live_of zones es ++ record { id = e.id; name = e.name; label = values; what = e.what } ∷ []
live_push zones zones' es e values four exact makes =
    let keeps : Keeps zones zones' es =
    record {
      same = λ slot h l own. elim (has_handle (handle e.label slot) h) [
        | inl mine ↦ absurd (omega (arith, exact.each slot h l, held_none (under zones slot h) (makes.was_free slot h mine), own))
        | inr other ↦ makes.others slot h other
      ];
    } in
    map-append (live_entity zones') es (e ∷ [])
    ∙ ap (λ (xs : List LiveEntity). xs ++ live_entity zones' e ∷ []) (live_kept zones zones' es keeps)
    ∙ ap (λ (ls : List LabelValue). live_of zones es ++ record { id = e.id; name = e.name; label = ls; what = e.what } ∷ []) (values_made zones' e.label values four makes.made)

-- One entity less

pub exact_drop : (zones zones' : Contents) (xs ys : List Entity) (e : Entity)
    → IsExact zones (labels_of (xs ++ e ∷ ys)) → GivesUp zones zones' e.label → IsExact zones' (labels_of (xs ++ ys))
exact_drop zones zones' xs ys e exact gives =
    record {
      each = λ slot h l.
          let split = count_split slot h xs ys e in
          let join = count_join slot h xs ys in
          let before = exact.each slot h l in
          let most = held_most (under zones slot h) in
          elim (has_handle (handle e.label slot) h) [
            | inl own ↦
                let one = owned_yes (handle e.label slot) h own in
                let none = held_none (under zones' slot h) (gives.freed slot h l own) in
                omega (arith, split, join, before, most, one, none)
            | inr other ↦
                let zero_owned = owned_no (handle e.label slot) h other in
                let same = ap held_count (gives.others slot h (λ _ own. other own)) in
                omega (arith, split, join, before, zero_owned, same)
          ];
    }

pub live_drop : (zones zones' : Contents) (xs ys : List Entity) (e : Entity)
    → IsExact zones (labels_of (xs ++ e ∷ ys)) → GivesUp zones zones' e.label → live_of zones' (xs ++ ys) ≡ live_of zones (xs ++ ys)
live_drop zones zones' xs ys e exact gives =
    live_kept zones zones' (xs ++ ys) (record {
      same = λ slot h l own. elim (has_handle (handle e.label slot) h) [
        | inl mine ↦
            let one = owned_yes (handle e.label slot) h mine in
            absurd (omega (arith, count_split slot h xs ys e, count_join slot h xs ys, exact.each slot h l, held_most (under zones slot h), one, own))
        | inr other ↦ gives.others slot h (λ _ mine. other mine)
      ];
    })

held_at : (zones : Contents) (slot : ℕ) (key : Option ℕ) → ((h : ℕ) → key ≡ Some h → IsSome (under zones slot h)) → IsHeldAt zones slot key
held_at zones slot None some = tt
held_at zones slot (Some h) some = some h refl

pub is_held : (zones : Contents) (xs ys : List Entity) (e : Entity) → IsExact zones (labels_of (xs ++ e ∷ ys)) → IsHeld zones e.label
is_held zones xs ys e exact =
    record {
      each = λ slot l. held_at zones slot (handle e.label slot) (λ h own.
          let one = owned_yes (handle e.label slot) h own in
          some_held (under zones slot h) (omega (arith, count_split slot h xs ys e, exact.each slot h l, one)));
    }

-- One entity with another label

-- the entity gets this label, whose slot has the value under this handle, which no other entity has
pub record SetsSlot (zones zones' : Contents) (xs ys : List Entity) (e : Entity) (label : Handles) (slot h : ℕ) (v : LabelValue) : Type 0 where
  pub within : slot < 4
  pub writes : Writes zones zones' slot h (Some v)
  pub here : handle label slot ≡ Some h
  pub elsewhere : (s : ℕ) → s ≢ slot → handle label s ≡ handle e.label s
  pub rest : (k : ℕ) → k ≢ h → owned (handle e.label slot) k ≡ 0
  pub before : owner_count slot h (labels_of xs) ≡ 0
  pub after : owner_count slot h (labels_of ys) ≡ 0

pub relabels_set : (zones zones' : Contents) (xs ys : List Entity) (e : Entity) (slot h : ℕ) (v : LabelValue)
    → slot < 4 → IsExact zones (labels_of (xs ++ e ∷ ys)) → handle e.label slot ≡ Some h → Writes zones zones' slot h (Some v)
    → SetsSlot zones zones' xs ys e e.label slot h v
relabels_set zones zones' xs ys e slot h v within exact own writes =
    let one = owned_yes (handle e.label slot) h own in
    let split = count_split slot h xs ys e in
    let count = exact.each slot h within in
    let most = held_most (under zones slot h) in
    record {
      within = within;
      writes = writes;
      here = own;
      elsewhere = λ s ne. refl;
      rest = λ k ne. owned_no (handle e.label slot) k (λ other. ne (inside_some k h (sym other ∙ own)));
      before = omega (arith, one, split, count, most);
      after = omega (arith, one, split, count, most);
    }
  where
    inside_some : (a b : ℕ) → Some a ≡ Some b → a ≡ b
    inside_some a b e = cc

pub relabels_make : (zones zones' : Contents) (xs ys : List Entity) (e : Entity) (label : Handles) (slot : ℕ) (v : LabelValue)
    → slot < 4 → IsExact zones (labels_of (xs ++ e ∷ ys)) → handle e.label slot ≡ None → (makes : Makes zones zones' e.label label slot v)
    → SetsSlot zones zones' xs ys e label slot makes.new v
relabels_make zones zones' xs ys e label slot v within exact unset makes =
    let split = count_split slot makes.new xs ys e in
    let count = exact.each slot makes.new within in
    let none = held_none (under zones slot makes.new) makes.was_free in
    record {
      within = within;
      writes = makes.writes;
      here = makes.here;
      elsewhere = makes.elsewhere;
      rest = λ k ne. ap (λ (key : Option ℕ). owned key k) unset;
      before = omega (arith, split, count, none);
      after = omega (arith, split, count, none);
    }

-- whether a place of the zones is this one
same_place : (s slot k h : ℕ) → ((s ≡ slot) × (k ≡ h)) ⊎ (s ≡ slot → k ≡ h → ⊥)
same_place s slot k h = elim (cases_eq s slot) [
  | inl same ↦ elim (cases_eq k h) [ inl too ↦ inl (same, too) | inr differ ↦ inr (λ _ too. differ too) ]
  | inr differ ↦ inr (λ same _. differ same)
]

relabelled : Entity → Handles → Entity
relabelled e label = record e { label = label }

pub exact_relabel : (zones zones' : Contents) (xs ys : List Entity) (e : Entity) (label : Handles) (slot h : ℕ) (v : LabelValue)
    → IsExact zones (labels_of (xs ++ e ∷ ys)) → SetsSlot zones zones' xs ys e label slot h v → IsExact zones' (labels_of (xs ++ record e { label = label } ∷ ys))
exact_relabel zones zones' xs ys e label slot h v exact relabels =
    let e' : Entity = record e { label = label } in
    record {
      each = λ s k l.
          let old = count_split s k xs ys e in
          let new = count_split s k xs ys e' in
          let count = exact.each s k l in
          elim (same_place s slot k h) [
            | inl same ↦
                let own : handle label s ≡ Some k = ap (handle label) same.0 ∙ relabels.here ∙ ap (λ (n : ℕ). Some n) (sym same.1) in
                let one = owned_yes (handle label s) k own in
                let is_value : under zones' s k ≡ Some v = ap (λ (n : ℕ). under zones' n k) same.0 ∙ ap (under zones' slot) same.1 ∙ relabels.writes.changed in
                let some = held_some (under zones' s k) (some_is (under zones' s k) v is_value) in
                let none : owner_count s k (labels_of xs) ≡ 0 =
                ap (λ (n : ℕ). owner_count n k (labels_of xs)) same.0 ∙ ap (λ (n : ℕ). owner_count slot n (labels_of xs)) same.1 ∙ relabels.before in
                let none_after : owner_count s k (labels_of ys) ≡ 0 =
                ap (λ (n : ℕ). owner_count n k (labels_of ys)) same.0 ∙ ap (λ (n : ℕ). owner_count slot n (labels_of ys)) same.1 ∙ relabels.after in
                omega (arith, new, one, some, none, none_after)
            | inr apart ↦
                let kept = ap held_count (relabels.writes.others s k apart) in
                let owned_same : owned (handle label s) k ≡ owned (handle e.label s) k =
                elim (cases_eq s slot) [
                  | inl same ↦
                      let ne : k ≢ h = (λ too. apart same too) in
                      let now : owned (handle label s) k ≡ 0 =
                      owned_no (handle label s) k (λ own. ne (inside_some k h (sym own ∙ ap (handle label) same ∙ relabels.here))) in
                      let was : owned (handle e.label s) k ≡ 0 = ap (λ (n : ℕ). owned (handle e.label n) k) same ∙ relabels.rest k ne in
                      now ∙ sym was
                  | inr differ ↦ ap (λ (key : Option ℕ). owned key k) (relabels.elsewhere s differ)
                ] in
                omega (arith, old, new, count, kept, owned_same)
          ];
    }
  where
    inside_some : (a b : ℕ) → Some a ≡ Some b → a ≡ b
    inside_some a b e = cc

values_relabel : (zones zones' : Contents) (old label : Handles) (slot h : ℕ) (v : LabelValue)
    → slot < 4 → Writes zones zones' slot h (Some v) → handle label slot ≡ Some h → ((s : ℕ) → s ≢ slot → handle label s ≡ handle old s)
    → label_values zones' label ≡ set (label_values zones old) slot v
unfolding label_values
values_relabel zones zones' old label slot h v within writes here elsewhere =
    let at_slot : slot_value zones' label slot ≡ v = ap (value_under zones' slot) here ∙ ap value_or_unset writes.changed in
    let other : (s : ℕ) → s ≢ slot → slot_value zones' label s ≡ slot_value zones old s =
    λ s ne. ap (value_under zones' s) (elsewhere s ne) ∙ slot_value-same zones zones' old s (λ k own. writes.others s k (λ same _. ne same)) in
    by_slot slot within at_slot other
  where
    by_slot : (n : ℕ) → n < 4 → slot_value zones' label n ≡ v → ((s : ℕ) → s ≢ n → slot_value zones' label s ≡ slot_value zones old s)
        → slot_value zones' label 0 ∷ slot_value zones' label 1 ∷ slot_value zones' label 2 ∷ slot_value zones' label 3 ∷ []
        ≡ set (slot_value zones old 0 ∷ slot_value zones old 1 ∷ slot_value zones old 2 ∷ slot_value zones old 3 ∷ []) n v
    by_slot zero l here other = rw (here, other 1 (omega arith), other 2 (omega arith), other 3 (omega arith)) refl
    by_slot (suc zero) l here other = rw (other 0 (omega arith), here, other 2 (omega arith), other 3 (omega arith)) refl
    by_slot (suc (suc zero)) l here other = rw (other 0 (omega arith), other 1 (omega arith), here, other 3 (omega arith)) refl
    by_slot (suc (suc (suc zero))) l here other = rw (other 0 (omega arith), other 1 (omega arith), other 2 (omega arith), here) refl
    by_slot (suc (suc (suc (suc n)))) l here other = absurd (omega arith)

pub live_relabel : (zones zones' : Contents) (xs ys : List Entity) (e : Entity) (label : Handles) (slot h : ℕ) (v : LabelValue)
    → SetsSlot zones zones' xs ys e label slot h v
    → live_of zones' (xs ++ record e { label = label } ∷ ys) ≡ live_of zones xs ++ with_value slot v (live_entity zones e) ∷ live_of zones ys
live_relabel zones zones' xs ys e label slot h v relabels =
    let e' : Entity = record e { label = label } in
    let values : label_values zones' label ≡ set (label_values zones e.label) slot v =
    values_relabel zones zones' e.label label slot h v relabels.within relabels.writes relabels.here relabels.elsewhere in
    let here : live_entity zones' e' ≡ with_value slot v (live_entity zones e) =
    ap (λ (ls : List LabelValue). let l : LiveEntity = record { id = e.id; name = e.name; label = ls; what = e.what } in l) values in
    let front : live_of zones' xs ≡ live_of zones xs = live_kept zones zones' xs (record { same = λ s k l own. relabels.writes.others s k (apart xs relabels.before s k own) }) in
    let back : live_of zones' ys ≡ live_of zones ys = live_kept zones zones' ys (record { same = λ s k l own. relabels.writes.others s k (apart ys relabels.after s k own) }) in
    map-append (live_entity zones') xs (e' ∷ ys)
    ∙ ap (λ (ls : List LiveEntity). ls ++ live_entity zones' e' ∷ live_of zones' ys) front
    ∙ ap (λ (x : LiveEntity). live_of zones xs ++ x ∷ live_of zones' ys) here
    ∙ ap (λ (ls : List LiveEntity). live_of zones xs ++ with_value slot v (live_entity zones e) ∷ ls) back
  where
    apart : (zs : List Entity) → owner_count slot h (labels_of zs) ≡ 0 → (s k : ℕ) → 1 ≤ owner_count s k (labels_of zs) → s ≡ slot → k ≡ h → ⊥
    apart zs none s k own same too =
        let moved : owner_count s k (labels_of zs) ≡ 0 =
        ap (λ (n : ℕ). owner_count n k (labels_of zs)) same ∙ ap (λ (n : ℕ). owner_count slot n (labels_of zs)) too ∙ none in
        omega (arith, moved, own)

-- The same by places

pub split_place : (es : List Entity) (i : ℕ) (e : Entity) → i < length es → e ≡ get_or es i e → es ≡ take i es ++ e ∷ drop (suc i) es
split_place es i e within is = sym (set-get_or es i e) ∙ ap (set es i) (sym is) ∙ set_split es i e within

pub live_split : (zones : Contents) (xs ys : List Entity) (e : Entity) (i : ℕ) (x : LiveEntity) → length xs ≡ i
    → live_of zones xs ++ x ∷ live_of zones ys ≡ set (live_of zones (xs ++ e ∷ ys)) i x
live_split zones xs ys e i x len =
    sym (ap (λ (ls : List LiveEntity). set ls i x) (map-append (live_entity zones) xs (e ∷ ys))
    ∙ set_at (live_of zones xs) (live_entity zones e) (live_of zones ys) x i (length-map xs (live_entity zones) ∙ len))

-- Nothing yet

pub exact_none : IsExact (replicate 4 []) []
exact_none = record { each = by_slot }
  where
    by_slot : (slot h : ℕ) → slot < 4 → 0 ≡ held_count (under (replicate 4 []) slot h)
    by_slot zero h l = refl
    by_slot (suc zero) h l = refl
    by_slot (suc (suc zero)) h l = refl
    by_slot (suc (suc (suc zero))) h l = refl
    by_slot (suc (suc (suc (suc slot)))) h l = absurd (omega arith)
