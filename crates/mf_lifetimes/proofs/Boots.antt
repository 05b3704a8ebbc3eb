-- Which policy holds a label slot at the end of boot.
use Rattle.std.specs.Option.{option_eq}
use Rattle.std.proofs.Common.{◌≡◌, ℕ, ◌<◌, ◌≤◌, zero, suc, Bool, true, false, cond, List, [], ◌∷◌, Some, length, get_or, refl, ap, sym, ◌∙◌, subst, arith, ◌⊎◌, inl, inr, nat_eq}
use Rattle.std.specs.Prelude.{Contains, find, fold}
use Rattle.mf_errno.specs.Same.{same_module}
use Rattle.mf_errno.specs.declared.module.Module.{Module}
use Rattle.mf_errno.specs.declared.module.Module.TheVariants.{Biba}
use Rattle.mf_policy.specs.declared.registration.Registration.{Registration}
use Rattle.mf_policy.specs.declared.settings.Change.TheVariants.{Revocation}
use Rattle.mf_policy.specs.declared.spec.Spec.{Spec}
use Rattle.mf_policy.specs.declared.spec.Spec.TheVariants as means
use Rattle.mf_policy.specs.Modules.{fresh_of, module_of, wants_slot}
use Rattle.mf_policy.specs.Registration.{Entry, given_after, holds_slot, is_of, slot_for, registration_of, with_newest, with_registered}
use Rattle.mf_policy.specs.Settings.{change_in, change_of}
use Rattle.mf_list.specs.Held.{how_many}
use Rattle.mf_calls.specs.declared.script.Script.{Script}
use Rattle.mf_calls.specs.WellFormed.{IsWellFormed}
use Rattle.mf_core.specs.Opening.{registrations_from, boots_of, booted_specs, spec_at_boot}
use Rattle.mf_core.proofs.Booted.{registered_once}
use Rattle.mf_lifetimes.proofs.Lasting.{IsLasting, lasting_or_not, fixed_lasting, lasting_wants}
use Rattle.mf_lifetimes.proofs.Listing.{IsPinned, IsPassing, NoneLasting, IsBelow, AllBelow, newest, all_newest, pinned_newest, pinned_own, own_slot, below_newest, AtMostOne, single_newest}
use Rattle.mf_lifetimes.proofs.Settings.{all_changed, changed_entry, find_after, one_changed}

-- A policy that stays holds the slot, or none that holds it stays.
abbrev pub Standing : ℕ → List Entry → ℕ → Type 0
Standing slot specs given = ((x : Entry) × IsPinned slot x specs given) ⊎ NoneLasting slot specs

-- as it is registered
abbrev fresh : Registration → Entry
fresh r = (r, fresh_of r.module)

pinned_after : (slot : ℕ) (x : Entry) (ms : List Module) (specs : List Entry) (given : ℕ) → IsPinned slot x specs given
    → IsPinned slot x (fold with_registered specs (registrations_from given ms)) (fold given_after given ms)
pinned_after slot x [] specs given pinned = pinned
pinned_after slot x (m ∷ ms) specs given pinned =
    pinned_after slot x ms (with_newest (newest m false given) specs) (given_after given m) (pinned_newest slot x specs given m false pinned)

standing_newest : (slot : ℕ) (specs : List Entry) (given : ℕ) (m : Module) → AllBelow given specs → Standing slot specs given
    → Standing slot (with_newest (newest m false given) specs) (given_after given m)
standing_newest slot specs given m below (inl pinned) = inl (pinned.0, pinned_newest slot pinned.0 specs given m false pinned.1)
standing_newest slot specs given m below (inr passing) = one (lasting_or_not m) (option_eq nat_eq (slot_for (wants_slot m) given) (Some slot)) refl
  where
    specs' : List Entry
    specs' = with_newest (newest m false given) specs

    one : IsLasting m ⊎ (IsLasting m → ⊥) → (own : Bool) → option_eq nat_eq (slot_for (wants_slot m) given) (Some slot) ≡ own → Standing slot specs' (given_after given m)
    one (inl lasting) true own =
        inl (newest m false given, subst (λ (n : ℕ). IsPinned n (newest m false given) specs' (given_after given m)) (own_slot slot given m lasting own) (pinned_own given specs m false lasting below))
    one (inl lasting) false other = inr (all_newest (IsPassing slot) (newest m false given) specs (λ holds. cc) passing)
    one (inr not_lasting) own is = inr (all_newest (IsPassing slot) (newest m false given) specs (λ _ lasting. not_lasting lasting) passing)

standing_after : (slot : ℕ) (ms : List Module) (specs : List Entry) (given : ℕ) → AllBelow given specs → Standing slot specs given
    → Standing slot (fold with_registered specs (registrations_from given ms)) (fold given_after given ms)
standing_after slot [] specs given below standing = standing
standing_after slot (m ∷ ms) specs given below standing =
    standing_after slot ms (with_newest (newest m false given) specs) (given_after given m) (below_newest given specs m false below)
    (standing_newest slot specs given m below standing)

-- the registration that is made first
pinned_first : (slot : ℕ) (r : Registration) (specs : List Entry) (given : ℕ) (m : Module) → AllBelow given specs → registration_of m false given ≡ r
    → r.fixed ≡ true → r.slot ≡ Some slot → IsPinned slot (fresh r) (with_newest (newest m false given) specs) (given_after given m)
pinned_first slot r specs given m below is fixed at =
    let lasting : IsLasting m = fixed_lasting m (ap (λ (q : Registration). q.fixed) is ∙ fixed) in
    let given_slot : Some given ≡ Some slot = sym (ap (λ (b : Bool). slot_for b given) (lasting_wants m lasting)) ∙ ap (λ (q : Registration). q.slot) is ∙ at in
    let own : given ≡ slot = cc in
    subst (λ (n : ℕ). IsPinned n (fresh r) (with_newest (newest m false given) specs) (given_after given m)) own
    (subst (λ (q : Registration). IsPinned given (fresh q) (with_newest (newest m false given) specs) (given_after given m)) is (pinned_own given specs m false lasting below))

pinned_among : (slot : ℕ) (r : Registration) (ms : List Module) (specs : List Entry) (given place : ℕ) → AllBelow given specs
    → place < length (registrations_from given ms) → get_or (registrations_from given ms) place r ≡ r → r.fixed ≡ true → r.slot ≡ Some slot
    → IsPinned slot (fresh r) (fold with_registered specs (registrations_from given ms)) (fold given_after given ms)
pinned_among slot r [] specs given place below within is fixed at = absurd (omega arith)
pinned_among slot r (m ∷ ms) specs given zero below within is fixed at =
    pinned_after slot (fresh r) ms (with_newest (newest m false given) specs) (given_after given m) (pinned_first slot r specs given m below is fixed at)
pinned_among slot r (m ∷ ms) specs given (suc place) below within is fixed at =
    pinned_among slot r ms (with_newest (newest m false given) specs) (given_after given m) place (below_newest given specs m false below) (omega arith) is fixed at

below_after : (ms : List Module) (specs : List Entry) (given : ℕ) → AllBelow given specs → AllBelow (fold given_after given ms) (fold with_registered specs (registrations_from given ms))
below_after [] specs given below = below
below_after (m ∷ ms) specs given below = below_after ms (with_newest (newest m false given) specs) (given_after given m) (below_newest given specs m false below)

single_after : (slot : ℕ) (ms : List Module) (specs : List Entry) (given : ℕ) → AllBelow given specs → AtMostOne slot specs
    → AtMostOne slot (fold with_registered specs (registrations_from given ms))
single_after slot [] specs given below single = single
single_after slot (m ∷ ms) specs given below single =
    single_after slot ms (with_newest (newest m false given) specs) (given_after given m) (below_newest given specs m false below)
    (single_newest slot specs given m false below single)

-- What the tunable changes

tuned_module : (revocation : Bool) (spec : Spec) → module_of (change_of spec (Revocation revocation)).1 ≡ module_of spec
tuned_module revocation (means.Biba old) = refl
tuned_module revocation other = refl

-- the entry that holds the slot is changed as any
tuned_pinned : (revocation : Bool) (slot : ℕ) (x : Entry) (specs : List Entry) (given : ℕ) → how_many (is_of Biba) specs ≤ 1 → IsPinned slot x specs given
    → IsPinned slot (changed_entry Biba (Revocation revocation) x) (change_in Biba (Revocation revocation) specs).1 given
tuned_pinned revocation slot x specs given once pinned = one (is_of Biba x) (find_after slot Biba (Revocation revocation) specs x once pinned.found)
  where
    one : (b : Bool) → find (holds_slot slot) (change_in Biba (Revocation revocation) specs).1 ≡ Some (cond b (x.0, (change_of x.1 (Revocation revocation)).1) x)
        → IsPinned slot (cond b (x.0, (change_of x.1 (Revocation revocation)).1) x) (change_in Biba (Revocation revocation) specs).1 given
    one true found = record { found = found; module_is = tuned_module revocation x.1 ∙ pinned.module_is; lasting = pinned.lasting; below = pinned.below }
    one false found = record { found = found; module_is = pinned.module_is; lasting = pinned.lasting; below = pinned.below }

-- and is then as it is at the end of boot
tuned_fresh : (s : Script) (r : Registration) → changed_entry Biba (Revocation s.revocation) (fresh r) ≡ (r, spec_at_boot s r.module)
tuned_fresh s r = one r.module
  where
    one : (m : Module) → ◌≡◌ {A = Entry} (cond (same_module Biba m) (r, (change_of (fresh_of m) (Revocation s.revocation)).1) (r, fresh_of m))
        (r, (change_of (fresh_of m) (Revocation s.revocation)).1)
    one Biba = refl
    one other = refl

-- The end of boot

-- the policies as they are registered, before the tunable
abbrev registered : Script → List Entry
registered s = fold with_registered [] (boots_of s)

-- the slot numbers of the booted policies are given, and no two of the policies hold one slot

pub boots_below : (s : Script) → AllBelow (fold given_after 0 s.boots) (booted_specs s)
boots_below s =
    all_changed (λ r. IsBelow (fold given_after 0 s.boots) r.slot) Biba (Revocation s.revocation) (registered s) (below_after s.boots [] 0 tt)

pub boots_single : (s : Script) (slot : ℕ) → AtMostOne slot (booted_specs s)
boots_single s slot = one_changed slot Biba (Revocation s.revocation) (registered s) (single_after slot s.boots [] 0 tt tt)

pub boots_standing : (s : Script) (slot : ℕ) → IsWellFormed s → Standing slot (booted_specs s) (fold given_after 0 s.boots)
boots_standing s slot formed = one (standing_after slot s.boots [] 0 tt (inr tt))
  where
    one : Standing slot (registered s) (fold given_after 0 s.boots) → Standing slot (booted_specs s) (fold given_after 0 s.boots)
    one (inl (x, pinned)) =
        inl (
          changed_entry Biba (Revocation s.revocation) x,
          tuned_pinned s.revocation slot x (registered s) (fold given_after 0 s.boots) (registered_once s formed Biba) pinned,
        )
    one (inr none) =
        inr (all_changed (λ r. option_eq nat_eq r.slot (Some slot) ≡ true → IsLasting r.module → ⊥) Biba (Revocation s.revocation) (registered s) none)

-- a policy of the static list that was booted with a slot holds it
pub boots_pinned : (s : Script) (slot : ℕ) (r : Registration) → IsWellFormed s → Contains (boots_of s) r → r.fixed ≡ true → r.slot ≡ Some slot
    → IsPinned slot (r, spec_at_boot s r.module) (booted_specs s) (fold given_after 0 s.boots)
boots_pinned s slot r formed there fixed at =
    subst (λ (x : Entry). IsPinned slot x (booted_specs s) (fold given_after 0 s.boots)) (tuned_fresh s r)
    (tuned_pinned s.revocation slot (fresh r) (registered s) (fold given_after 0 s.boots) (registered_once s formed Biba)
    (pinned_among slot r s.boots [] 0 there.0 tt there.1 there.2 fixed at))
