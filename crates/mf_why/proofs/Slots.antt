-- The policies that are listed at any moment of a run have label slots that there are.
use Rattle.std.proofs.Common.{◌≡◌, ℕ, zero, suc, ◌<◌, ◌≤◌, Bool, true, false, if◌then◌else◌, ◌&&◌, nat_le, List, [], ◌∷◌, take, Option, Some, None, slice_get, refl, ap, sym, ◌∙◌, subst, arith}
use Rattle.std.proofs.lemmas.Bool.{leb-false}
use Rattle.std.specs.List.{AllByRecursion, fold}
use Rattle.mf_errno.specs.declared.module.Module.{Module}
use Rattle.mf_errno.specs.declared.module.Module.TheVariants.{Biba}
use Rattle.mf_elem.specs.declared.label.TheConstants.{SLOTS}
use Rattle.mf_policy.specs.declared.loading.LoadFault.{LoadFault}
use Rattle.mf_policy.specs.declared.loading.LoadFault.TheVariants.{NotLate, Exists, NoSlot}
use Rattle.mf_policy.specs.declared.registration.Registration.{Registration}
use Rattle.mf_policy.specs.declared.settings.Change.TheVariants.{Revocation}
use Rattle.mf_policy.specs.Loading.{load_fault}
use Rattle.mf_policy.specs.Modules.{facts_of, fresh_of, wants_slot}
use Rattle.mf_policy.specs.Registration.{Entry, given_after, is_listed, registration_of, slot_for, with_registered}
use Rattle.mf_list.specs.Asked.{slot_of}
use Rattle.mf_calls.specs.declared.script.Script.{Script}
use Rattle.mf_calls.specs.WellFormed.{IsWellFormed}
use Rattle.mf_calls.proofs.FewBoots.{slot_left}
use Rattle.mf_plan.specs.declared.state.State.{State}
use Rattle.mf_perform.proofs.EntityChange.{ChangesEntities, changes_entities, stays_rooted}
use Rattle.mf_perform.proofs.Observing.{ObservingKeeps, observing_keeps}
use Rattle.mf_perform.proofs.Rooted.{IsRooted}
use Rattle.mf_perform.proofs.StateChange.{Deed, StateChange}
use Rattle.mf_perform.proofs.StateChange.StateChange.{same, created, changed, relabels, removed, unlinked, loaded, unloaded, set_to}
use Rattle.mf_core.specs.declared.history.Event.{Event}
use Rattle.mf_core.specs.LegalHistory.{RunState, opening_run, run_after, run_state_of}
use Rattle.mf_core.specs.Opening.{booted_specs, boots_of, registrations_from}
use Rattle.mf_lifetimes.proofs.Listing.{all_newest, all_without}
use Rattle.mf_lifetimes.proofs.Marked.{by_event, checks_by, event_change, event_observing, seen_by}
use Rattle.mf_lifetimes.proofs.Openings.{opening_booted}
use Rattle.mf_lifetimes.proofs.Settings.{all_changed}
use Rattle.mf_why.specs.Slots.{HaveLabelSlots}

-- the slot of a registration is one that labels have
abbrev HasLabelSlot : Registration → Type 0
HasLabelSlot r = slot_of r < SLOTS

own_slot : (m : Module) (booted : Bool) (given : ℕ) → (wants_slot m ≡ true → given < SLOTS) → HasLabelSlot (registration_of m booted given)
own_slot m booted given few = one (wants_slot m) few
  where
    one : (b : Bool) → (b ≡ true → given < SLOTS) → slot_of (record { «module» = m; slot = slot_for b given; fixed = (registration_of m booted given).fixed }) < SLOTS
    one true few = few refl
    one false few = omega arith

-- The end of boot

each_boot : (ms : List Module) (given : ℕ)
    → ((n : ℕ) (m : Module) → slice_get ms n ≡ Some m → wants_slot m ≡ true → fold given_after given (take n ms) ≤ 3)
    → AllByRecursion HasLabelSlot (registrations_from given ms)
each_boot [] given few = tt
each_boot (m ∷ ms) given few =
    (own_slot m false given (λ wants. omega (arith, few zero m refl wants)), each_boot ms (given_after given m) (λ n k at wants. few (suc n) k at wants))

registered : (rs : List Registration) (es : List Entry) → AllByRecursion HasLabelSlot rs → HaveLabelSlots es → HaveLabelSlots (fold with_registered es rs)
registered [] es each all = all
registered (r ∷ rs) es each all =
    registered rs (with_registered es r) each.1 (all_newest (λ entry. HasLabelSlot entry.0) (r, fresh_of r.module) es each.0 all)

booted : (s : Script) → IsWellFormed s → HaveLabelSlots (booted_specs s)
booted s formed =
    all_changed HasLabelSlot Biba (Revocation s.revocation) (fold with_registered [] (boots_of s))
    (registered (boots_of s) [] (each_boot s.boots 0 (λ n m at wants. slot_left s.boots n m formed.boots at wants)) tt)

-- What each event keeps

abbrev first_fault : Bool → Bool → Bool → Option LoadFault
first_fault late exists full = if late then Some NotLate else if exists then Some Exists else if full then Some NoSlot else None

-- a module that can be loaded and wants a slot finds one
loadable : (booted : Bool) (listed : List Entry) (given : ℕ) (m : Module) → load_fault booted listed given m ≡ None → wants_slot m ≡ true → given < SLOTS
loadable booted listed given m none wants =
    leb-false SLOTS given
    (by_tests (booted && (facts_of m).not_late) (is_listed m listed) (nat_le SLOTS given)
    (sym (ap (λ (b : Bool). first_fault (booted && (facts_of m).not_late) (is_listed m listed) (b && nat_le SLOTS given)) wants) ∙ none))
  where
    by_tests : (late exists full : Bool) → first_fault late exists full ≡ None → full ≡ false
    by_tests true exists full e = cc
    by_tests false true full e = cc
    by_tests false false true e = cc
    by_tests false false false e = refl

keeps : {by : Deed} (s s' : State) → StateChange by s s' → HaveLabelSlots s.specs → HaveLabelSlots s'.specs
keeps s s' (same is) all = subst (λ (x : State). HaveLabelSlots x.specs) (sym is) all
keeps s s' (created maker e name what own live process is) all = subst (λ (x : State). HaveLabelSlots x.specs) (sym is) all
keeps s s' (changed change id kind is) all = subst (λ (x : State). HaveLabelSlots x.specs) (sym is) all
keeps s s' (relabels id e request asked live allowed is) all = subst (λ (x : State). HaveLabelSlots x.specs) (sym is) all
keeps s s' (removed gone is) all = subst (λ (x : State). HaveLabelSlots x.specs) (sym is) all
keeps s s' (unlinked id is) all = subst (λ (x : State). HaveLabelSlots x.specs) (sym is) all
keeps s s' (loaded m none is) all =
    subst (λ (x : State). HaveLabelSlots x.specs) (sym is)
    (all_newest (λ entry. HasLabelSlot entry.0) (registration_of m s.booted s.numbers, fresh_of m) s.specs
    (own_slot m s.booted s.numbers (loadable s.booted s.specs s.numbers m none)) all)
keeps s s' (unloaded m ok is) all = subst (λ (x : State). HaveLabelSlots x.specs) (sym is) (all_without (λ entry. HasLabelSlot entry.0) m s.specs all)
keeps s s' (set_to m change ok is) all = subst (λ (x : State). HaveLabelSlots x.specs) (sym is) (all_changed HasLabelSlot m change s.specs all)

on : (s : Script) (r : RunState) (es : List Event) → IsRooted r.state.objects → HaveLabelSlots r.state.specs → HaveLabelSlots (fold (run_after s) r es).state.specs
on s r [] rooted all = all
on s r (e ∷ es) rooted all =
    let seen : State = seen_by s r e in
    let next : State = (run_after s r e).state in
    let sees : ObservingKeeps (by_event s r e).caller (checks_by s r e) r.state seen = observing_keeps r.state seen (event_observing s r e rooted) rooted in
    let step : ChangesEntities (by_event s r e) seen next = changes_entities (by_event s r e) seen next (event_change s r e rooted) sees.rooted.rising in
    on s (run_after s r e) es (stays_rooted (by_event s r e) seen next step sees.rooted)
    (keeps seen next (event_change s r e rooted) (subst HaveLabelSlots (sym sees.specs) all))

-- The law, for any events of a run

pub slots_after : (s : Script) (es : List Event) → IsWellFormed s → HaveLabelSlots (run_state_of s es).state.specs
slots_after s es formed = on s (opening_run s) es (opening_booted s formed).rooted (booted s formed)
