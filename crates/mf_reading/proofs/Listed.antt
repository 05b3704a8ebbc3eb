-- The listed policies keep slots of their own, by how a step changes the state.
use Rattle.std.proofs.Common.{◌≡◌, ℕ, ◌+◌, ◌≤◌, Bool, true, false, cond, ◌&&◌, List, Option, Some, None, refl, ap, sym, ◌∙◌, subst, arith}
use Rattle.std.specs.Prelude.{if◌then◌else◌, nat_le}
use Rattle.std.specs.List.{AllByRecursion}
use Rattle.std.proofs.lemmas.Bool.{leb-false}
use Rattle.mf_errno.specs.declared.module.Module.{Module}
use Rattle.mf_elem.specs.declared.label.TheConstants.{SLOTS}
use Rattle.mf_item.specs.Item.{Item}
use Rattle.mf_policy.specs.declared.loading.LoadFault.TheVariants.{NotLate, Exists, NoSlot}
use Rattle.mf_policy.specs.Modules.{facts_of, wants_slot}
use Rattle.mf_policy.specs.Registration.{Entry, is_listed, registration_of, slot_for}
use Rattle.mf_objects.specs.declared.id.Id.{Id}
use Rattle.mf_plan.specs.declared.state.State.{State}
use Rattle.mf_perform.proofs.Observing.{Observing}
use Rattle.mf_perform.proofs.Observing.Observing.{kept, lowers}
use Rattle.mf_perform.proofs.StateChange.{Deed, StateChange}
use Rattle.mf_perform.proofs.StateChange.StateChange.{same, created, changed, relabels, removed, unlinked, loaded, unloaded, set_to}
use Rattle.mf_lifetimes.proofs.Listing.{AtMostOne, IsBelow, all_newest, all_without, below_newest, newest, one_without, single_newest}
use Rattle.mf_lifetimes.proofs.Settings.{all_changed, one_changed}
use Rattle.mf_reading.proofs.Bounded.{AreListed, IsSlotted}

-- a slot number is left for what is loaded
slot_left : (late listed wants : Bool) (given : ℕ) → given ≤ SLOTS
    → (if late then Some NotLate else if listed then Some Exists else if wants && nat_le SLOTS given then Some NoSlot else None) ≡ None
    → cond wants (given + 1) given ≤ SLOTS
slot_left late listed false given few none = few
slot_left true listed true given few none = cc
slot_left false true true given few none = cc
slot_left false false true given few none = one (nat_le SLOTS given) refl none
  where
    one : (full : Bool) → nat_le SLOTS given ≡ full → (if true && full then Some NoSlot else None) ≡ None → given + 1 ≤ SLOTS
    one true is none = cc
    one false is none = omega (arith, leb-false SLOTS given is)

-- a registration has a slot where its module wants one
pub new_slotted : (m : Module) (booted : Bool) (given : ℕ) → IsSlotted (registration_of m booted given)
new_slotted m booted given wants = (given, ap (λ (b : Bool). slot_for b given) wants)

same_listed : (s s' : State) → s'.specs ≡ s.specs → s'.numbers ≡ s.numbers → s'.booted ≡ s.booted → AreListed s → AreListed s'
same_listed s s' specs numbers booted listed = record {
  booted = booted ∙ listed.booted;
  given = omega (arith, numbers, listed.given);
  below = subst (λ (x : List Entry). AllByRecursion (λ entry. IsBelow s'.numbers entry.0.slot) x) (sym specs)
      (subst (λ (n : ℕ). AllByRecursion (λ entry. IsBelow n entry.0.slot) s.specs) (sym numbers) listed.below);
  single = λ slot. subst (λ (x : List Entry). AtMostOne slot x) (sym specs) (listed.single slot);
  slotted = subst (λ (x : List Entry). AllByRecursion (λ entry. IsSlotted entry.0) x) (sym specs) listed.slotted;
}

-- the state after checks that passed
pub observed_listed : {caller : Option Id} {checks : List Item} (s now : State) → Observing caller checks s now → AreListed s → AreListed now
observed_listed s now (kept is) listed = subst AreListed (sym is) listed
observed_listed s now (lowers slot me e lomac caller live process sees is) listed =
    same_listed s now (ap (λ (x : State). x.specs) is) (ap (λ (x : State). x.numbers) is) (ap (λ (x : State). x.booted) is) listed

pub keeps_listed : {by : Deed} (s s' : State) → StateChange by s s' → AreListed s → AreListed s'
keeps_listed s s' (same is) listed = subst AreListed (sym is) listed
keeps_listed s s' (created from maker name what own live process is) listed =
    same_listed s s' (ap (λ (x : State). x.specs) is) (ap (λ (x : State). x.numbers) is) (ap (λ (x : State). x.booted) is) listed
keeps_listed s s' (changed change id kind is) listed =
    same_listed s s' (ap (λ (x : State). x.specs) is) (ap (λ (x : State). x.numbers) is) (ap (λ (x : State). x.booted) is) listed
keeps_listed s s' (relabels id e request asked live allowed is) listed =
    same_listed s s' (ap (λ (x : State). x.specs) is) (ap (λ (x : State). x.numbers) is) (ap (λ (x : State). x.booted) is) listed
keeps_listed s s' (removed gone is) listed =
    same_listed s s' (ap (λ (x : State). x.specs) is) (ap (λ (x : State). x.numbers) is) (ap (λ (x : State). x.booted) is) listed
keeps_listed s s' (unlinked id is) listed =
    same_listed s s' (ap (λ (x : State). x.specs) is) (ap (λ (x : State). x.numbers) is) (ap (λ (x : State). x.booted) is) listed
keeps_listed s s' (loaded m none is) listed =
    subst AreListed (sym is)
    (record {
      booted = listed.booted;
      given = slot_left (s.booted && (facts_of m).not_late) (is_listed m s.specs) (wants_slot m) s.numbers listed.given none;
      below = below_newest s.numbers s.specs m s.booted listed.below;
      single = λ slot. single_newest slot s.specs s.numbers m s.booted listed.below (listed.single slot);
      slotted = all_newest (λ entry. IsSlotted entry.0) (newest m s.booted s.numbers) s.specs (new_slotted m s.booted s.numbers) listed.slotted;
    })
keeps_listed s s' (unloaded m ok is) listed =
    subst AreListed (sym is)
    (record {
      booted = listed.booted;
      given = listed.given;
      below = all_without (λ entry. IsBelow s.numbers entry.0.slot) m s.specs listed.below;
      single = λ slot. one_without slot m s.specs (listed.single slot);
      slotted = all_without (λ entry. IsSlotted entry.0) m s.specs listed.slotted;
    })
keeps_listed s s' (set_to m change leaves is) listed =
    subst AreListed (sym is)
    (record {
      booted = listed.booted;
      given = listed.given;
      below = all_changed (λ r. IsBelow s.numbers r.slot) m change s.specs listed.below;
      single = λ slot. one_changed slot m change s.specs (listed.single slot);
      slotted = all_changed IsSlotted m change s.specs listed.slotted;
    })
