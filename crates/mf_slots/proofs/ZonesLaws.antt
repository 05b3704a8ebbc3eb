-- What a change of the zones leaves of labels that it doesn't touch.
use Rattle.std.proofs.Common.{◌≡◌, ◌≢◌, ℕ, ◌↔◌, List, [], Option, Some, None, IsSome, refl, ◌⊎◌, ap, sym, ◌∙◌, inl, inr, arith, zero, suc, replicate}
use Rattle.std.proofs.lemmas.Bool.{cases_eq, cases_lt}
use Rattle.mf_elem.specs.declared.label.LabelValue.{LabelValue}
use Rattle.mf_elem.specs.declared.label.LabelValue.TheVariants.{Unset}
use Rattle.mf_slots.specs.Zones.{Contents, Handles, handle, under, value_under, slot_value, value_or_unset, IsHeldAt, NoneUnset, Writes, MakesLabel, Frees, GivesUp}

value_under-same : (zones zones' : Contents) (slot : ℕ) (key : Option ℕ)
    → ((h : ℕ) → key ≡ Some h → under zones' slot h ≡ under zones slot h) → value_under zones' slot key ≡ value_under zones slot key
value_under-same zones zones' slot None same = refl
value_under-same zones zones' slot (Some h) same = ap value_or_unset (same h refl)

-- a slot keeps its value where its handle keeps what it has
pub slot_value-same : (zones zones' : Contents) (label : Handles) (slot : ℕ)
    → ((h : ℕ) → handle label slot ≡ Some h → under zones' slot h ≡ under zones slot h) → slot_value zones' label slot ≡ slot_value zones label slot
slot_value-same zones zones' label slot same = value_under-same zones zones' slot (handle label slot) same

-- a slot of a label has this handle, or hasn't
pub has_handle : (key : Option ℕ) (h : ℕ) → (key ≡ Some h) ⊎ (key ≡ Some h → ⊥)
has_handle None h = inr (λ e. cc)
has_handle (Some k) h = elim (cases_eq k h) [ inl same ↦ inl (ap (λ (n : ℕ). Some n) same) | inr differ ↦ inr (λ e. differ cc) ]

-- No value in the zones is Unset

pub set_none : NoneUnset (replicate 4 [])
set_none = record { each = by_slot }
  where
    by_slot : (slot h : ℕ) → under (replicate 4 []) slot h ≢ Some Unset
    by_slot zero h e = cc
    by_slot (suc zero) h e = cc
    by_slot (suc (suc zero)) h e = cc
    by_slot (suc (suc (suc zero))) h e = cc
    by_slot (suc (suc (suc (suc slot)))) h e = cc

pub set_writes : (zones zones' : Contents) (slot h : ℕ) (v : LabelValue) → NoneUnset zones → v ≢ Unset → Writes zones zones' slot h (Some v) → NoneUnset zones'
set_writes zones zones' slot h v set value writes =
    record {
      each = λ s k e. elim (cases_eq s slot) [
        | inl same ↦
            elim (cases_eq k h) [
              | inl too ↦ value (inside (sym writes.changed ∙ ap (λ (n : ℕ). under zones' n h) (sym same) ∙ ap (under zones' s) (sym too) ∙ e))
              | inr differ ↦ set.each s k (sym (writes.others s k (λ _ too. differ too)) ∙ e)
            ]
        | inr differ ↦ set.each s k (sym (writes.others s k (λ same _. differ same)) ∙ e)
      ];
    }
  where
    inside : Some v ≡ Some Unset → v ≡ Unset
    inside e = cc

pub set_makes : (zones zones' : Contents) (label : Handles) (values : List LabelValue) → NoneUnset zones → MakesLabel zones zones' label values → NoneUnset zones'
set_makes zones zones' label values set makes =
    record {
      each = λ slot h e. elim (has_handle (handle label slot) h) [
        | inl own ↦
            let unset : slot_value zones' label slot ≡ Unset = ap (value_under zones' slot) own ∙ ap value_or_unset e in
            apart h (handle label slot) (makes.unset slot (sym (makes.made slot) ∙ unset)) own
        | inr other ↦ set.each slot h (sym (makes.others slot h other) ∙ e)
      ];
    }
  where
    apart : (h : ℕ) (key : Option ℕ) → key ≡ None → key ≡ Some h → ⊥
    apart h key none some = cc

pub set_frees : (zones zones' : Contents) (slot : ℕ) (key : Option ℕ) → NoneUnset zones → Frees zones zones' slot key → NoneUnset zones'
set_frees zones zones' slot key set frees =
    record {
      each = λ s k e. elim (cases_eq s slot) [
        | inl same ↦
            elim (has_handle key k) [
              | inl own ↦ gone (under zones' s k) (ap (λ (n : ℕ). under zones' n k) same ∙ frees.freed k own) e
              | inr other ↦ set.each s k (sym (frees.others s k (λ _ own. other own)) ∙ e)
            ]
        | inr differ ↦ set.each s k (sym (frees.others s k (λ same _. differ same)) ∙ e)
      ];
    }
  where
    gone : (o : Option LabelValue) → o ≡ None → o ≡ Some Unset → ⊥
    gone o none some = cc

pub set_gives_up : (zones zones' : Contents) (label : Handles) → NoneUnset zones → GivesUp zones zones' label → NoneUnset zones'
set_gives_up zones zones' label set gives =
    record {
      each = λ slot h e. elim (has_handle (handle label slot) h) [
        | inl own ↦
            elim (cases_lt slot 4) [
              | inl l ↦ gone (under zones' slot h) (gives.freed slot h l own) e
              | inr later ↦ set.each slot h (sym (gives.others slot h (λ l _. absurd (omega (arith, later, l)))) ∙ e)
            ]
        | inr other ↦ set.each slot h (sym (gives.others slot h (λ _ own. other own)) ∙ e)
      ];
    }
  where
    gone : (o : Option LabelValue) → o ≡ None → o ≡ Some Unset → ⊥
    gone o none some = cc

-- what lies under a handle isn't Unset
pub held_set : (zones : Contents) (slot h : ℕ) → NoneUnset zones → IsHeldAt zones slot (Some h) → value_under zones slot (Some h) ≢ Unset
held_set zones slot h set held e = set.each slot h (lies (under zones slot h) held e)
  where
    lies : (o : Option LabelValue) → IsSome o → value_or_unset o ≡ Unset → o ≡ Some Unset
    lies None some e = absurd (cc some)
    lies (Some v) some e = ap (λ (x : LabelValue). Some x) e

-- a slot is Unset exactly where it isn't made
pub unset_exactly : (zones : Contents) (label : Handles) (slot : ℕ) → NoneUnset zones → IsHeldAt zones slot (handle label slot)
    → (slot_value zones label slot ≡ Unset) ↔ (handle label slot ≡ None)
unset_exactly zones label slot set held = (made (handle label slot) held, ap (value_under zones slot))
  where
    made : (key : Option ℕ) → IsHeldAt zones slot key → value_under zones slot key ≡ Unset → key ≡ None
    made None held e = refl
    made (Some h) held e = absurd (held_set zones slot h set held e)
