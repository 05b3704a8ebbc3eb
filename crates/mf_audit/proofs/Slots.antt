-- The label slots of the listed policies, through registrations and changes.
use Rattle.std.proofs.Common.{◌≡◌, ℕ, ◌<◌, Bool, true, false, cond, not, ◌&&◌, List, [], ◌∷◌, length, get_or, Option, Some, None, refl, subst, arith, zero, suc}
use Rattle.std.specs.Prelude.{find, option_and_then}
use Rattle.std.specs.Option.{option_map_or}
use Rattle.mf_elem.specs.declared.label.TheConstants.{SLOTS}
use Rattle.mf_errno.specs.declared.module.Module.{Module}
use Rattle.mf_list.specs.Asked.{slot_of}
use Rattle.mf_policy.specs.declared.settings.Change.{Change}
use Rattle.mf_policy.specs.declared.settings.Changed.{Changed}
use Rattle.mf_policy.specs.declared.spec.Spec.{Spec}
use Rattle.mf_policy.specs.Settings.{change_in, change_of, no_setting, with_spec}
use Rattle.mf_policy.specs.Registration.{Entry, entries_without, is_of, slot_in, with_newest}
use Rattle.mf_audit.specs.Slotted.{AreSlotted, IsSlotted}

-- each at its place
pub slotted_at : (es : List Entry) (place : ℕ) (d : Entry) → AreSlotted es → place < length es → slot_of (get_or es place d).0 < SLOTS
slotted_at [] place d all within = absurd (omega (arith, within))
slotted_at (e ∷ es) zero d all within = all.0
slotted_at (e ∷ es) (suc place) d all within = slotted_at es place d all.1 (omega (arith, within))

-- the slot of a listed module
pub slotted_found : (m : Module) (es : List Entry) (slot : ℕ) → AreSlotted es → slot_in m es ≡ Some slot → slot < SLOTS
slotted_found m [] slot all found = cc
slotted_found m (e ∷ es) slot all found = one (is_of m e) (slotted_found m es slot all.1) found
  where
    own : (at : Option ℕ) → e.0.slot ≡ at → at ≡ Some slot → slot < SLOTS
    own None is here = cc
    own (Some n) is here =
        let same : slot_of e.0 ≡ slot = cc in
        subst (λ (k : ℕ). k < SLOTS) same all.0

    one : (b : Bool) → (slot_in m es ≡ Some slot → slot < SLOTS) → option_and_then (λ (entry : Entry). entry.0.slot) (cond b (Some e) (find (is_of m) es)) ≡ Some slot → slot < SLOTS
    one true rest here = own e.0.slot refl here
    one false rest later = rest later

-- after a registration
pub slotted_newest : (e : Entry) (es : List Entry) → IsSlotted e → AreSlotted es → AreSlotted (with_newest e es)
slotted_newest e [] own all = (own, tt)
slotted_newest e (x ∷ xs) own all = one (not e.0.fixed && x.0.fixed) (slotted_newest e xs own all.1)
  where
    one : (b : Bool) → AreSlotted (with_newest e xs) → AreSlotted (cond b (x ∷ with_newest e xs) (e ∷ x ∷ xs))
    one true rest = (all.0, rest)
    one false rest = (own, all)

-- after its end
pub slotted_without : (m : Module) (es : List Entry) → AreSlotted es → AreSlotted (entries_without m es)
slotted_without m [] all = tt
slotted_without m (x ∷ xs) all = one (is_of m x) (slotted_without m xs all.1)
  where
    one : (b : Bool) → AreSlotted (entries_without m xs) → AreSlotted (cond b xs (x ∷ entries_without m xs))
    one true rest = all.1
    one false rest = (all.0, rest)

-- after a change of a setting
slotted_spec : (m : Module) (spec : Spec) (es : List Entry) → AreSlotted es → AreSlotted (with_spec m spec es)
slotted_spec m spec [] all = tt
slotted_spec m spec (x ∷ xs) all = one (is_of m x) (slotted_spec m spec xs all.1)
  where
    one : (b : Bool) → AreSlotted (with_spec m spec xs) → AreSlotted (cond b ((x.0, spec) ∷ xs) (x ∷ with_spec m spec xs))
    one true rest = (all.0, all.1)
    one false rest = (all.0, rest)

pub slotted_change : (m : Module) (change : Change) (es : List Entry) → AreSlotted es → AreSlotted (change_in m change es).1
slotted_change m change es all = one (find (is_of m) es)
  where
    one : (found : Option Entry)
        → AreSlotted (option_map_or {U = Changed × List Entry} (λ entry. ((change_of entry.1 change).0, with_spec m (change_of entry.1 change).1 es)) found (no_setting, es)).1
    one None = all
    one (Some entry) = slotted_spec m (change_of entry.1 change).1 es all
