-- The policies that are listed at the end of boot have label slots that labels have.
use Rattle.std.proofs.Common.{◌≡◌, ℕ, zero, suc, ◌<◌, ◌≤◌, Bool, true, false, if◌then◌else◌, ◌&&◌, nat_le, List, [], ◌∷◌, take, Option, Some, None, slice_get, refl, ap, sym, ◌∙◌, arith}
use Rattle.std.proofs.lemmas.Bool.{leb-false}
use Rattle.std.specs.List.{AllByRecursion, fold}
use Rattle.mf_elem.specs.declared.label.TheConstants.{SLOTS}
use Rattle.mf_errno.specs.declared.module.Module.{Module}
use Rattle.mf_errno.specs.declared.module.Module.TheVariants.{Biba}
use Rattle.mf_list.specs.Asked.{slot_of}
use Rattle.mf_policy.specs.declared.registration.Registration.{Registration}
use Rattle.mf_policy.specs.declared.settings.Change.TheVariants.{Revocation}
use Rattle.mf_policy.specs.declared.loading.LoadFault.{LoadFault}
use Rattle.mf_policy.specs.declared.loading.LoadFault.TheVariants.{NotLate, Exists, NoSlot}
use Rattle.mf_policy.specs.Loading.{load_fault}
use Rattle.mf_policy.specs.Modules.{facts_of, fresh_of, wants_slot}
use Rattle.mf_policy.specs.Registration.{Entry, given_after, is_listed, registration_of, slot_for, with_registered}
use Rattle.mf_calls.specs.declared.script.Script.{Script}
use Rattle.mf_calls.specs.WellFormed.{IsWellFormed}
use Rattle.mf_calls.proofs.FewBoots.{slot_left}
use Rattle.mf_core.specs.Opening.{booted_specs, boots_of, registrations_from}
use Rattle.mf_audit.specs.Slotted.{AreSlotted}
use Rattle.mf_audit.proofs.Slots.{slotted_change, slotted_newest}

abbrev HasLabelSlot : Registration → Type 0
HasLabelSlot r = slot_of r < SLOTS

pub slot_within : (m : Module) (booted : Bool) (given : ℕ) → (wants_slot m ≡ true → given < SLOTS) → HasLabelSlot (registration_of m booted given)
slot_within m booted given few = one (wants_slot m) few
  where
    one : (b : Bool) → (b ≡ true → given < SLOTS) → slot_of (record { «module» = m; slot = slot_for b given; fixed = (registration_of m booted given).fixed }) < SLOTS
    one true few = few refl
    one false few = omega arith

each_within : (ms : List Module) (given : ℕ)
    → ((n : ℕ) (m : Module) → slice_get ms n ≡ Some m → wants_slot m ≡ true → fold given_after given (take n ms) ≤ 3)
    → AllByRecursion HasLabelSlot (registrations_from given ms)
each_within [] given few = tt
each_within (m ∷ ms) given few =
    (slot_within m false given (λ wants. omega (arith, few zero m refl wants)), each_within ms (given_after given m) (λ n k at wants. few (suc n) k at wants))

registered_slotted : (rs : List Registration) (es : List Entry) → AllByRecursion HasLabelSlot rs → AreSlotted es → AreSlotted (fold with_registered es rs)
registered_slotted [] es each all = all
registered_slotted (r ∷ rs) es each all =
    registered_slotted rs (with_registered es r) each.1 (slotted_newest (r, fresh_of r.module) es each.0 all)

pub booted_slotted : (s : Script) → IsWellFormed s → AreSlotted (booted_specs s)
booted_slotted s formed =
    slotted_change Biba (Revocation s.revocation) (fold with_registered [] (boots_of s))
    (registered_slotted (boots_of s) [] (each_within s.boots 0 (λ n m at wants. slot_left s.boots n m formed.boots at wants)) tt)

abbrev first_fault : Bool → Bool → Bool → Option LoadFault
first_fault late exists full = if late then Some NotLate else if exists then Some Exists else if full then Some NoSlot else None

-- a module that can be loaded and wants a slot finds one
pub loadable : (booted : Bool) (listed : List Entry) (given : ℕ) (m : Module) → load_fault booted listed given m ≡ None → wants_slot m ≡ true → given < SLOTS
loadable booted listed given m none wants =
    leb-false SLOTS given
    (by_tests (booted && (facts_of m).not_late) (is_listed m listed) (nat_le SLOTS given)
    (sym (ap (λ (b : Bool). first_fault (booted && (facts_of m).not_late) (is_listed m listed) (b && nat_le SLOTS given)) wants) ∙ none))
  where
    by_tests : (late exists full : Bool) → first_fault late exists full ≡ None → full ≡ false
    by_tests true exists full e = cc
    by_tests false true full e = cc
    by_tests false false true e = cc
    by_tests false false false e = refl
