-- A label whose slots get new values.
use Rattle.std.proofs.Common.{◌≡◌, ◌≢◌, ℕ, ◌<◌, ◌≤◌, ◌+◌, List, [], ◌∷◌, Option, Some, None, get_or, set, length, replicate, refl, ap, sym, ◌∙◌, subst, arith, inl, inr, ◌⊎◌, IsSome, zero, suc, Result, Ok, Err, OnErr}
use Rattle.std.proofs.lemmas.List.{get_or-set_same, get_or-set_other, get_or_past, length-set, length-map}
use Rattle.std.proofs.lemmas.Bool.{cases_eq, cases_lt}
use Rattle.slab.specs.Slab.{Slab, slab_len}
use Rattle.mf_elem.specs.declared.label.LabelValue.{LabelValue}
use Rattle.mf_elem.specs.declared.label.LabelValue.TheVariants.{Unset, Range, Number}
use Rattle.mf_slots.specs.Zones.{Zone, Contents, Handles, handle, zone_of, under, at_handle, value_for, value_or_unset, held_in, value_under, slot_value, given, given_to, label_values, IsIn, NoneUnset, NoneOverfull, Updates, Adds, Rewrites, Relabels, MakesLabel, HasRoomToWrite}
use Rattle.mf_slots.proofs.Places.{seen, seen_at, seen_set, seen_kept}
use Rattle.mf_slots.proofs.Counted.{few_changed}
use Rattle.mf_slots.specs.declared.zones.TheConstants.{MOST_HELD}
use Rattle.mf_slots.proofs.ZonesLaws.{has_handle}

-- what one slot is after a change: it keeps its handle, or gets a free one
pub record Moves (zone zone' : Zone) (key key' : Option ℕ) (v : LabelValue) : Type 0 where
  pub holds : (h : ℕ) → key' ≡ Some h → at_handle zone' h ≡ Some v
  pub set : v ≢ Unset → IsSome key'
  pub unset : v ≡ Unset → key' ≡ None
  pub own_or_free : (h : ℕ) → key' ≡ Some h → (key ≡ Some h) ⊎ (at_handle zone h ≡ None)
  pub kept : (h : ℕ) → key ≡ Some h → key' ≡ Some h
  pub others : (h : ℕ) → (key ≡ Some h → ⊥) → (key' ≡ Some h → ⊥) → at_handle zone' h ≡ at_handle zone h

inside : (a b : ℕ) → Some a ≡ Some b → a ≡ b
inside a b e = cc

none_some : (key : Option ℕ) (h : ℕ) → key ≡ None → key ≡ Some h → ⊥
none_some key h none some = cc

some_of : (key : Option ℕ) (h : ℕ) → key ≡ Some h → IsSome key
some_of key h e = rw e refl

moves_added : (zone zone' : Zone) (key : Option ℕ) (v : LabelValue) → v ≢ Unset → Adds zone zone' key v → Moves zone zone' None key v
moves_added zone zone' key v value adds =
    record {
      holds = λ h e. ap (at_handle zone') (inside h adds.new (sym e ∙ adds.here)) ∙ adds.updates.changed;
      set = λ _. some_of key adds.new adds.here;
      unset = λ e. absurd (value e);
      own_or_free = λ h e. inr (ap (at_handle zone) (inside h adds.new (sym e ∙ adds.here)) ∙ adds.was_free);
      kept = λ h e. cc;
      others = λ h _ other. adds.updates.others h (λ same. other (adds.here ∙ ap (λ (n : ℕ). Some n) (sym same)));
    }

moves_written : (zone zone' : Zone) (h : ℕ) (key : Option ℕ) (v : LabelValue) → v ≢ Unset → Updates zone zone' h (Some v) → key ≡ Some h → Moves zone zone' (Some h) key v
moves_written zone zone' h key v value updates is =
    record {
      holds = λ k e. ap (at_handle zone') (inside k h (sym e ∙ is)) ∙ updates.changed;
      set = λ _. some_of key h is;
      unset = λ e. absurd (value e);
      own_or_free = λ k e. inl (sym is ∙ e);
      kept = λ k e. is ∙ e;
      others = λ k other _. updates.others k (λ same. other (ap (λ (n : ℕ). Some n) (sym same)));
    }

-- a rewritten slot, whichever case it is
pub moves : (zone zone' : Zone) (key key' : Option ℕ) (v : LabelValue) → Rewrites zone zone' key key' v → Moves zone zone' key key' v
moves zone zone' None key' Unset rewrites =
    record {
      holds = λ h e. absurd (none_some key' h rewrites.1 e);
      set = λ value. absurd (value refl);
      unset = λ _. rewrites.1;
      own_or_free = λ h e. absurd (none_some key' h rewrites.1 e);
      kept = λ h e. cc;
      others = λ h _ _. ap (λ (z : Zone). at_handle z h) rewrites.0;
    }
moves zone zone' (Some h) key' Unset rewrites = absurd rewrites
moves zone zone' None key' (Range r) adds = moves_added zone zone' key' (Range r) (λ e. cc) adds
moves zone zone' None key' (Number n) adds = moves_added zone zone' key' (Number n) (λ e. cc) adds
moves zone zone' (Some h) key' (Range r) rewrites = moves_written zone zone' h key' (Range r) (λ e. cc) rewrites.0 rewrites.1
moves zone zone' (Some h) key' (Number n) rewrites = moves_written zone zone' h key' (Number n) (λ e. cc) rewrites.0 rewrites.1

-- a slot of a label that got new values
pub moves_at : (zones zones' : Contents) (label label' : Handles) (values : List LabelValue) → Relabels zones zones' label label' values
    → (slot : ℕ) → Moves (zone_of zones slot) (zone_of zones' slot) (handle label slot) (handle label' slot) (value_for values slot)
moves_at zones zones' label label' values relabels slot =
    moves (zone_of zones slot) (zone_of zones' slot) (handle label slot) (handle label' slot) (value_for values slot) (relabels.each slot)

value_there : (zones : Contents) (slot : ℕ) (key : Option ℕ) (v : LabelValue) → (v ≢ Unset → IsSome key) → ((h : ℕ) → key ≡ Some h → under zones slot h ≡ Some v)
    → value_under zones slot key ≡ v
value_there zones slot None Unset some holds = refl
value_there zones slot None (Range r) some holds = cc (some (λ e. cc))
value_there zones slot None (Number n) some holds = cc (some (λ e. cc))
value_there zones slot (Some h) v some holds = ap value_or_unset (holds h refl)

-- the value of the slot is the one that it got
pub has_value : (zones zones' : Contents) (label label' : Handles) (values : List LabelValue) → Relabels zones zones' label label' values
    → (slot : ℕ) → slot_value zones' label' slot ≡ value_for values slot
has_value zones zones' label label' values relabels slot =
    let m : Moves (zone_of zones slot) (zone_of zones' slot) (handle label slot) (handle label' slot) (value_for values slot) =
    moves_at zones zones' label label' values relabels slot in
    value_there zones' slot (handle label' slot) (value_for values slot) m.set m.holds

some_is : (o : Option LabelValue) (v : LabelValue) → o ≡ Some v → IsSome o
some_is o v e = rw e refl

pub set_relabels : (zones zones' : Contents) (label label' : Handles) (values : List LabelValue) → NoneUnset zones → Relabels zones zones' label label' values → NoneUnset zones'
set_relabels zones zones' label label' values set relabels =
    record {
      each = λ slot h e.
          let m : Moves (zone_of zones slot) (zone_of zones' slot) (handle label slot) (handle label' slot) (value_for values slot) = moves_at zones zones' label label' values relabels slot in
          elim (has_handle (handle label' slot) h) [
            | inl own ↦ none_some (handle label' slot) h (m.unset (same_value (value_for values slot) (sym (m.holds h own) ∙ e))) own
            | inr other ↦
                elim (has_handle (handle label slot) h) [
                  | inl was ↦ other (m.kept h was)
                  | inr never ↦ set.each slot h (sym (m.others h never other) ∙ e)
                ]
          ];
    }
  where
    same_value : (v : LabelValue) → Some v ≡ Some Unset → v ≡ Unset
    same_value v e = cc

-- the values of a label without a made slot
pub makes_label : (zones zones' : Contents) (label label' : Handles) (values : List LabelValue) → ((slot : ℕ) → handle label slot ≡ None)
    → Relabels zones zones' label label' values → MakesLabel zones zones' label' values
makes_label zones zones' label label' values new relabels =
    record {
      made = has_value zones zones' label label' values relabels;
      unset = λ slot none. (at slot).unset none;
      held = λ slot h own. some_is (under zones' slot h) (value_for values slot) ((at slot).holds h own);
      was_free = λ slot h own. elim ((at slot).own_or_free h own) [
        | inl was ↦ absurd (none_some (handle label slot) h (new slot) was)
        | inr free ↦ free
      ];
      others = λ slot h other. (at slot).others h (none_some (handle label slot) h (new slot)) other;
    }
  where
    at : (slot : ℕ) → Moves (zone_of zones slot) (zone_of zones' slot) (handle label slot) (handle label' slot) (value_for values slot)
    at slot = moves_at zones zones' label label' values relabels slot

-- a slot that is given nothing keeps what it has
pub rewrites_kept : (zone : Zone) (key : Option ℕ) → IsIn zone key → (held_in zone key ≡ Unset → key ≡ None) → Rewrites zone zone key key (held_in zone key)
rewrites_kept zone None held set = (refl, refl)
rewrites_kept zone (Some h) held set = by_value (at_handle zone h) refl held (λ e. none_some (Some h) h (set e) refl)
  where
    by_value : (o : Option LabelValue) → at_handle zone h ≡ o → IsSome o → (value_or_unset o ≡ Unset → ⊥) → Rewrites zone zone (Some h) (Some h) (value_or_unset o)
    by_value None is held set = absurd (set refl)
    by_value (Some Unset) is held set = absurd (set refl)
    by_value (Some (Range r)) is held set = (record { changed = is; others = λ k differ. refl }, refl)
    by_value (Some (Number n)) is held set = (record { changed = is; others = λ k differ. refl }, refl)

-- a made slot isn't Unset
pub made_is_set : (zones : Contents) (slot : ℕ) (key : Option ℕ) → NoneUnset zones → IsIn (zone_of zones slot) key → held_in (zone_of zones slot) key ≡ Unset → key ≡ None
made_is_set zones slot None set held is = refl
made_is_set zones slot (Some h) set held is = absurd (by_value (under zones slot h) (set.each slot h) held is)
  where
    by_value : (o : Option LabelValue) → o ≢ Some Unset → IsSome o → value_or_unset o ≡ Unset → ⊥
    by_value None set held is = cc
    by_value (Some v) set held is = set (ap (λ (w : LabelValue). Some w) is)

-- the value of a slot that is given one
given_value : (zones : Contents) (label : Handles) (values : List LabelValue) (slot : ℕ) → slot < 4
    → value_for (given_to values (label_values zones label)) slot ≡ given (value_for values slot) (slot_value zones label slot)
unfolding given_to label_values
given_value zones label values zero four = refl
given_value zones label values (suc zero) four = refl
given_value zones label values (suc (suc zero)) four = refl
given_value zones label values (suc (suc (suc zero))) four = refl
given_value zones label values (suc (suc (suc (suc slot)))) four = absurd (omega arith)

no_value_past : (values label : List LabelValue) (slot : ℕ) → 4 ≤ slot → value_for (given_to values label) slot ≡ Unset
unfolding given_to
no_value_past values label zero past = absurd (omega arith)
no_value_past values label (suc zero) past = absurd (omega arith)
no_value_past values label (suc (suc zero)) past = absurd (omega arith)
no_value_past values label (suc (suc (suc zero))) past = absurd (omega arith)
no_value_past values label (suc (suc (suc (suc slot)))) past = refl

pub length-given_to : (values label : List LabelValue) → length (given_to values label) ≡ 4
unfolding given_to
length-given_to values label = refl

-- a label without a made slot has just what it is given
pub given_to_new : (zones : Contents) (label : Handles) (values : List LabelValue) → length values ≡ 4 → ((slot : ℕ) → handle label slot ≡ None)
    → given_to values (label_values zones label) ≡ values
unfolding given_to label_values
given_to_new zones label [] four new = absurd (omega arith)
given_to_new zones label (a ∷ []) four new = absurd (omega arith)
given_to_new zones label (a ∷ b ∷ []) four new = absurd (omega arith)
given_to_new zones label (a ∷ b ∷ c ∷ []) four new = absurd (omega arith)
given_to_new zones label (a ∷ b ∷ c ∷ d ∷ x ∷ xs) four new = absurd (omega arith)
given_to_new zones label (a ∷ b ∷ c ∷ d ∷ []) four new = rw (given_here a 0, given_here b 1, given_here c 2, given_here d 3) refl
  where
    unset : (slot : ℕ) → slot_value zones label slot ≡ Unset
    unset slot = ap (value_under zones slot) (new slot)

    given_unset : (v : LabelValue) → given v Unset ≡ v
    given_unset Unset = refl
    given_unset (Range r) = refl
    given_unset (Number n) = refl

    given_here : (v : LabelValue) (slot : ℕ) → given v (slot_value zones label slot) ≡ v
    given_here v slot = ap (given v) (unset slot) ∙ given_unset v

pub none_made : (slot : ℕ) → handle (replicate 4 None) slot ≡ None
none_made zero = refl
none_made (suc zero) = refl
none_made (suc (suc zero)) = refl
none_made (suc (suc (suc zero))) = refl
none_made (suc (suc (suc (suc slot)))) = refl

-- Slot by slot

-- the zones are as before, and the slots below n have room for their values
pub record HasRoomBelow (n : ℕ) (zones : Contents) (slabs : List (Slab LabelValue)) (keys : Handles) (values : List LabelValue) : Type 0 where
  pub long : length slabs ≡ 4
  pub same : seen slabs ≡ zones
  pub room : (slot : ℕ) (d : Slab LabelValue) → slot < n → HasRoomToWrite (get_or slabs slot d) (handle keys slot) (value_for values slot)

pub room_more : (n : ℕ) (zones : Contents) (slabs : List (Slab LabelValue)) (old new : Slab LabelValue) (keys : Handles) (values : List LabelValue) → n < 4 → get_or slabs n old ≡ old
    → new.slots ≡ old.slots → HasRoomToWrite new (handle keys n) (value_for values n) → HasRoomBelow n zones slabs keys values → HasRoomBelow (n + 1) zones (set slabs n new) keys values
room_more n zones slabs old new keys values within is same room below =
    record {
      long = length-set slabs n new ∙ below.long;
      same = seen_kept slabs n old new (omega (arith, below.long)) is same ∙ below.same;
      room = λ slot d l. elim (cases_eq slot n) [
        | inl here ↦
            let at_n : get_or (set slabs n new) n d ≡ new = get_or-set_same slabs n new d (omega (arith, below.long)) in
            subst (λ (k : ℕ). HasRoomToWrite (get_or (set slabs n new) k d) (handle keys k) (value_for values k)) (sym here)
            (subst (λ (z : Slab LabelValue). HasRoomToWrite z (handle keys n) (value_for values n)) (sym at_n) room)
        | inr differ ↦
            subst (λ (z : Slab LabelValue). HasRoomToWrite z (handle keys slot) (value_for values slot)) (sym (get_or-set_other slabs n slot new d differ))
            (below.room slot d (omega (arith, differ)))
      ];
    }

-- the slots below n are rewritten, and the others are as before and have room for their values
pub record RewritesBelow (n : ℕ) (zones : Contents) (slabs : List (Slab LabelValue)) (label keys : Handles) (values : List LabelValue) : Type 0 where
  pub long : length slabs ≡ 4
  pub wide : length keys ≡ 4
  pub written : (slot : ℕ) → slot < n
      → Rewrites (zone_of zones slot) (zone_of (seen slabs) slot) (handle label slot) (handle keys slot) (given (value_for values slot) (slot_value zones label slot))
  pub zone : (slot : ℕ) → n ≤ slot → zone_of (seen slabs) slot ≡ zone_of zones slot
  pub key : (slot : ℕ) → n ≤ slot → handle keys slot ≡ handle label slot
  pub few : NoneOverfull (seen slabs)
  pub room : (slot : ℕ) (d : Slab LabelValue) → n ≤ slot → slot < 4 → HasRoomToWrite (get_or slabs slot d) (handle keys slot) (value_for values slot)

pub rewrites_more : (n : ℕ) (zones : Contents) (slabs : List (Slab LabelValue)) (old new : Slab LabelValue) (label keys : Handles) (key : Option ℕ) (values : List LabelValue)
    → n < 4 → get_or slabs n old ≡ old → Rewrites old.slots new.slots (handle keys n) key (given (value_for values n) (held_in old.slots (handle keys n)))
    → (slab_len old ≤ MOST_HELD → slab_len new ≤ MOST_HELD) → RewritesBelow n zones slabs label keys values → RewritesBelow (n + 1) zones (set slabs n new) label (set keys n key) values
rewrites_more n zones slabs old new label keys key values within is rewrites most below =
    let short : n < length slabs = omega (arith, below.long) in
    let short_seen : n < length (seen slabs) = omega (arith, below.long, length-map slabs (λ (s : Slab LabelValue). s.slots)) in
    let was : old.slots ≡ zone_of zones n =
    ap (λ (s : Slab LabelValue). s.slots) (sym is) ∙ sym (seen_at slabs n old short) ∙ below.zone n (omega arith) in
    let now : zone_of (seen (set slabs n new)) n ≡ new.slots = ap (λ (z : Contents). zone_of z n) (seen_set slabs n new) ∙ get_or-set_same (seen slabs) n new.slots [] short_seen in
    let key_now : handle (set keys n key) n ≡ key = get_or-set_same keys n key None (omega (arith, below.wide)) in
    let other_zone : (slot : ℕ) → slot ≢ n → zone_of (seen (set slabs n new)) slot ≡ zone_of (seen slabs) slot =
    λ slot differ. ap (λ (z : Contents). zone_of z slot) (seen_set slabs n new) ∙ get_or-set_other (seen slabs) n slot new.slots [] differ in
    let other_key : (slot : ℕ) → slot ≢ n → handle (set keys n key) slot ≡ handle keys slot = λ slot differ. get_or-set_other keys n slot key None differ in
    let here : Rewrites (zone_of zones n) (zone_of (seen (set slabs n new)) n) (handle label n) (handle (set keys n key) n) (given (value_for values n) (slot_value zones label n)) =
    rw (sym was, now, key_now, sym (below.key n (omega arith))) rewrites in
    record {
      long = length-set slabs n new ∙ below.long;
      wide = length-set keys n key ∙ below.wide;
      written = λ slot l. elim (cases_eq slot n) [
        | inl same ↦
            subst (λ (k : ℕ). Rewrites (zone_of zones k) (zone_of (seen (set slabs n new)) k) (handle label k) (handle (set keys n key) k) (given (value_for values k) (slot_value zones label k)))
            (sym same) here
        | inr differ ↦
            let before = below.written slot (omega (arith, differ)) in
            rw (other_zone slot differ, other_key slot differ) before
      ];
      zone = λ slot l. other_zone slot (omega arith) ∙ below.zone slot (omega arith);
      key = λ slot l. other_key slot (omega arith) ∙ below.key slot (omega arith);
      few = few_changed slabs n old new short is most below.few;
      room = λ slot d l four.
          let same_slab : get_or (set slabs n new) slot d ≡ get_or slabs slot d = get_or-set_other slabs n slot new d (omega arith) in
          let same_key : handle (set keys n key) slot ≡ handle keys slot = other_key slot (omega arith) in
          rw (same_slab, same_key) (below.room slot d (omega arith) four);
    }

pub rewritten : (zones : Contents) (slabs : List (Slab LabelValue)) (label keys : Handles) (values : List LabelValue)
    → length zones ≡ 4 → length label ≡ 4 → RewritesBelow 4 zones slabs label keys values → Relabels zones (seen slabs) label keys (given_to values (label_values zones label))
rewritten zones slabs label keys values z l below =
    record {
      each = λ slot. elim (cases_lt slot 4) [
        | inl few ↦
            subst (λ (v : LabelValue). Rewrites (zone_of zones slot) (zone_of (seen slabs) slot) (handle label slot) (handle keys slot) v) (sym (given_value zones label values slot few))
            (below.written slot few)
        | inr beyond ↦
            let no_key : handle label slot ≡ None = get_or_past label slot None (omega (arith, l)) in
            let unset : Rewrites (zone_of zones slot) (zone_of (seen slabs) slot) None (handle keys slot) Unset = (below.zone slot beyond, below.key slot beyond ∙ no_key) in
            rw (no_key, no_value_past values (label_values zones label) slot beyond) unset
      ];
    }

pub on_err : {T E : Type 0} (r : Result T E) (P : Type 0) → P → OnErr r P
on_err (Ok x) P p = tt
on_err (Err e) P p = p
