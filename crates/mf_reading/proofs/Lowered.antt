-- The labels of live entities after the checks of a call: mac_lomac's slot of the caller has a value that fits as well.
use Rattle.std.specs.Option.{option_map_or}
use Rattle.std.proofs.Common.{◌≡◌, ◌≢◌, ℕ, ◌<◌, zero, suc, Bool, true, false, nat_eq, List, [], ◌∷◌, map, Option, Some, None, slice_index_or, slice_set, refl, ap, sym, ◌∙◌, subst, arith, get_or-set_other}
use Rattle.std.specs.Prelude.{IfSome, find, is_none, is_some, option_and_then}
use Rattle.std.specs.List.{AllByRecursion}
use Rattle.std.proofs.lemmas.Bool.{and_from, and_parts}
use Rattle.std.proofs.lemmas.Bool.Decides.{nat_tests}
use Rattle.mf_errno.specs.declared.module.Module.{Module}
use Rattle.mf_errno.specs.declared.module.Module.TheVariants.{Lomac}
use Rattle.mf_errno.proofs.Modules.{same_module-is}
use Rattle.mf_elem.specs.Bounds.{IsElement}
use Rattle.mf_elem.specs.Elem.{dominates, is_plain}
use Rattle.mf_elem.specs.declared.elem.Elem.{Elem}
use Rattle.mf_elem.specs.declared.label.LabelValue.{LabelValue}
use Rattle.mf_elem.specs.declared.label.LabelValue.TheVariants.{Unset, Range, Number}
use Rattle.mf_item.specs.Item.{Item}
use Rattle.mf_policy.specs.Answer.{range_label}
use Rattle.mf_policy.specs.Lowering.{after_checks, lomac_slot, lowered_element, lowered_value}
use Rattle.mf_policy.specs.Modules.{facts_of}
use Rattle.mf_policy.specs.Registration.{Entry, holds_slot, is_of}
use Rattle.mf_objects.proofs.Entities.{changed_at, label_of}
use Rattle.mf_objects.specs.declared.id.Id.{Id}
use Rattle.mf_objects.specs.Changes.{with_change}
use Rattle.mf_objects.specs.Labels.{with_value}
use Rattle.mf_objects.specs.Live.{LiveEntity, has_id, live_at, value_in}
use Rattle.mf_objects.specs.Lives.{value_at}
use Rattle.mf_plan.specs.declared.state.State.{State}
use Rattle.mf_perform.specs.Effect.{with_objects}
use Rattle.mf_perform.proofs.Observing.{Observing, Sees, after_checks_keep}
use Rattle.mf_perform.proofs.Observing.Observing.{kept, lowers}
use Rattle.mf_lifetimes.proofs.Files.{all_both, all_from}
use Rattle.mf_lifetimes.proofs.Listing.{AllBelow, AtMostOne, IsBelow}
use Rattle.mf_reading.proofs.Bounded.{AllFit, AreLabelled, AreListed, Fits, FitsLabelling, FitsSlot, IsUnsetFrom}
use Rattle.mf_reading.proofs.Labelled.{IsHolder, at_slot, holders}
use Rattle.mf_reading.proofs.Lists.{all_found, all_mapped, either_way}

-- Values

-- what may lie in the slot of mac_lomac
abbrev FitsElements : LabelValue → Type 0
FitsElements value = FitsLabelling (facts_of Lomac).labels value

-- what one may be lowered to, where the value is that of what it observes
record MayLower (value : LabelValue) : Type 0 where
  element : IfSome (range_label value).effective IsElement
  plain : IfSome (range_label value).effective (λ e. is_plain e ≡ true)

fitting_lowers : (value : LabelValue) → FitsElements value → MayLower value
fitting_lowers Unset fits = absurd fits
fitting_lowers (Range label) fits =
    record { element = fits.0.effective; plain = one label.effective (and_parts (option_map_or is_plain label.effective false) (is_none label.range) fits.1).0 }
  where
    one : (element : Option Elem) → option_map_or is_plain element false ≡ true → IfSome element (λ e. is_plain e ≡ true)
    one None plain = tt
    one (Some element) plain = plain
fitting_lowers (Number n) fits = absurd fits

-- one of two elements remains, each of which is so
lowered_is : (P : Elem → Type 0) (own other : Option Elem) → IfSome own P → IfSome other P → IfSome (lowered_element own other) P
lowered_is P None other first second = tt
lowered_is P (Some own) None first second = first
lowered_is P (Some own) (Some other) first second = either_way P (dominates other own) own other first second

lowered_plain : (own other : Option Elem) → option_map_or is_plain own false ≡ true → IfSome other (λ e. is_plain e ≡ true)
    → option_map_or is_plain (lowered_element own other) false ≡ true
lowered_plain None other first second = first
lowered_plain (Some own) None first second = first
lowered_plain (Some own) (Some other) first second = either_way (λ (e : Elem). is_plain e ≡ true) (dominates other own) own other first second

lowered_there : (own other : Option Elem) → is_some own ≡ true → is_some (lowered_element own other) ≡ true
lowered_there None other there = there
lowered_there (Some own) None there = refl
lowered_there (Some own) (Some other) there = refl

lowered_fits : (own other : LabelValue) → FitsElements own → MayLower other → FitsElements (lowered_value own other)
lowered_fits Unset other fits may = fits
lowered_fits (Range own) other fits may =
    let object = (range_label other).effective in
    let plain = and_parts (option_map_or is_plain own.effective false) (is_none own.range) fits.1 in (
      record {
        effective = lowered_is IsElement own.effective object fits.0.effective may.element;
        range = fits.0.range;
        there = lowered_there own.effective object fits.0.there;
      },
      and_from (option_map_or is_plain (lowered_element own.effective object) false) (is_none own.range)
          (lowered_plain own.effective object plain.0 may.plain) plain.1,
    )
lowered_fits (Number n) other fits may = fits

-- Labels

-- the value of a slot that was set is the new one, or the old one where the label has no such slot
set_here : (P : LabelValue → Type 0) (label : List LabelValue) (slot : ℕ) (value : LabelValue) → P (slice_index_or label slot Unset) → P value
    → P (slice_index_or (slice_set label slot value) slot Unset)
set_here P [] slot value old new = old
set_here P (x ∷ label) zero value old new = new
set_here P (x ∷ label) (suc slot) value old new = set_here P label slot value old new

-- mac_lomac is listed, with this slot
record HoldsLomac (specs : List Entry) (slot : ℕ) : Type 0 where
  entry : Entry
  here : find (is_of Lomac) specs ≡ Some entry
  own : entry.0.slot ≡ Some slot

lomac_holds : (specs : List Entry) (slot : ℕ) → lomac_slot specs ≡ Some slot → HoldsLomac specs slot
lomac_holds specs slot is = one (find (is_of Lomac) specs) refl is
  where
    one : (found : Option Entry) → find (is_of Lomac) specs ≡ found → option_and_then (λ (entry : Entry). entry.0.slot) found ≡ Some slot
        → HoldsLomac specs slot
    one None here is = cc
    one (Some entry) here is = record { entry = entry; here = here; own = is }

module _ (specs : List Entry) (given : ℕ) (below : AllBelow given specs) (single : (slot : ℕ) → AtMostOne slot specs) (slot : ℕ)
    (lomac : lomac_slot specs ≡ Some slot) where
  holds : HoldsLomac specs slot
  holds = lomac_holds specs slot lomac

  of_lomac : Lomac ≡ holds.entry.0.module
  of_lomac = same_module-is Lomac holds.entry.0.module (all_found (λ (x : Entry). IsBelow given x.0.slot) (is_of Lomac) specs holds.entry below holds.here).1

  slot_given : slot < given
  slot_given =
      subst (IsBelow given) holds.own (all_found (λ (x : Entry). IsBelow given x.0.slot) (is_of Lomac) specs holds.entry below holds.here).0

  held : find (holds_slot slot) specs ≡ Some holds.entry
  held = (all_found (IsHolder specs) (is_of Lomac) specs holds.entry (holders specs single) holds.here).0 slot holds.own

  own_value : (label : List LabelValue) → AllFit specs label → FitsElements (slice_index_or label slot Unset)
  own_value label fits =
      subst (λ (m : Module). FitsLabelling (facts_of m).labels (slice_index_or label slot Unset)) (sym of_lomac)
      (at_slot holds.entry label slot holds.own (all_found (λ (x : Entry). Fits label x.0) (is_of Lomac) specs holds.entry fits holds.here).0)

  -- with another value in the slot
  set_fit : (label : List LabelValue) (value : LabelValue) → FitsElements value → AllFit specs label → AllFit specs (slice_set label slot value)
  set_fit label value new fits =
      all_from (λ (x : Entry). IsHolder specs x × Fits label x.0) (λ (x : Entry). Fits (slice_set label slot value) x.0) specs
      (λ x both. by_slot x both.0 both.1 x.0.slot refl)
      (all_both (IsHolder specs) (λ (x : Entry). Fits label x.0) specs (holders specs single) fits)
    where
      here : (x : Entry) → IsHolder specs x → Fits label x.0 → x.0.slot ≡ Some slot
          → FitsLabelling (facts_of x.0.module).labels (slice_index_or (slice_set label slot value) slot Unset)
      here x holder fits at =
          let same : Some holds.entry ≡ Some x = sym held ∙ holder slot at in
          let is : holds.entry ≡ x = cc in
          let fits_new = subst (λ (m : Module). FitsLabelling (facts_of m).labels value) (of_lomac ∙ ap (λ (e : Entry). e.0.module) is) new in
          set_here (FitsLabelling (facts_of x.0.module).labels) label slot value (at_slot x label slot at fits) fits_new

      by_slot : (x : Entry) → IsHolder specs x → Fits label x.0 → (own : Option ℕ) → x.0.slot ≡ own → FitsSlot x.0.module own (slice_set label slot value)
      by_slot x holder fits None at = tt
      by_slot x holder fits (Some n) at = one (nat_eq n slot) refl
        where
          one : (b : Bool) → nat_eq n slot ≡ b → FitsLabelling (facts_of x.0.module).labels (slice_index_or (slice_set label slot value) n Unset)
          one true is =
              let same : n ≡ slot = grind (arith, nat_tests) in
              subst (λ k. FitsLabelling (facts_of x.0.module).labels (slice_index_or (slice_set label slot value) k Unset)) (sym same)
              (here x holder fits (at ∙ ap (λ k. Some k) same))
          one false differs =
              let other : n ≢ slot = grind (arith, nat_tests) in
              subst (FitsLabelling (facts_of x.0.module).labels) (sym (get_or-set_other label slot n value Unset other)) (at_slot x label n at fits)

  set_unset : (label : List LabelValue) (value : LabelValue) → IsUnsetFrom given label → IsUnsetFrom given (slice_set label slot value)
  set_unset label value unset n more = get_or-set_other label slot n value Unset (λ same. omega (arith, slot_given)) ∙ unset n more

-- what labels keep as the slot is set, they keep where one's is
labels_set : (P : List LabelValue → Type 0) (slot : ℕ) (value : LabelValue) (id : Id) (live : List LiveEntity)
    → ((label : List LabelValue) → P label → P (slice_set label slot value)) → AllByRecursion (λ e. P e.label) live
    → AllByRecursion (λ e. P e.label) (map (changed_at (with_value slot value) id) live)
labels_set P slot value id live keeps all =
    all_mapped (λ e. P e.label) (λ e. P e.label) (changed_at (with_value slot value) id) live
    (λ e here. either_way (λ (x : LiveEntity). P x.label) (has_id id e) (with_value slot value e) e (keeps e.label here) here) all

-- one entity's label with another value in mac_lomac's slot
abbrev with_lowered : State → Id → ℕ → LabelValue → State
with_lowered s me slot value = with_objects s (with_change (with_value slot value) s.objects me)

module _ (s : State) (listed : AreListed s) (labelled : AreLabelled s) (slot : ℕ) (lomac : lomac_slot s.specs ≡ Some slot) where
  lowered_labelled : (me : Id) (value : LabelValue) → FitsElements value → AreLabelled (with_lowered s me slot value)
  lowered_labelled me value new = record {
    fit = labels_set (AllFit s.specs) slot value me s.objects.live
        (λ label fits. set_fit s.specs s.numbers listed.below listed.single slot lomac label value new fits) labelled.fit;
    unset = labels_set (IsUnsetFrom s.numbers) slot value me s.objects.live
        (λ label unset. set_unset s.specs s.numbers listed.below listed.single slot lomac label value unset) labelled.unset;
  }

  -- what is labelled may lower, and what isn't there lowers nobody
  sees_fitting : (id : Id) → MayLower (value_at s.objects id slot)
  sees_fitting id = one (live_at s.objects id) refl
    where
      one : (found : Option LiveEntity) → live_at s.objects id ≡ found → MayLower (slice_index_or (label_of found) slot Unset)
      one None is = record { element = tt; plain = tt }
      one (Some e) is =
          fitting_lowers (slice_index_or e.label slot Unset)
          (own_value s.specs s.numbers listed.below listed.single slot lomac e.label
          (all_found (λ (x : LiveEntity). AllFit s.specs x.label) (has_id id) s.objects.live e labelled.fit is).0)

  after_fits : (me : Id) (e : LiveEntity) (checks : List Item) → live_at s.objects me ≡ Some e → AllByRecursion (Sees s.objects) checks
      → FitsElements (after_checks slot (value_in slot e) checks)
  after_fits me e checks live sees =
      after_checks_keep FitsElements s.objects slot checks (value_in slot e) sees
      (λ own id fits. lowered_fits own (value_at s.objects id slot) fits (sees_fitting id))
      (λ own fits. lowered_fits own Unset fits (record { element = tt; plain = tt }))
      (own_value s.specs s.numbers listed.below listed.single slot lomac e.label
      (all_found (λ (x : LiveEntity). AllFit s.specs x.label) (has_id me) s.objects.live e labelled.fit live).0)

-- the labels after checks that passed
pub observed_labelled : {caller : Option Id} {checks : List Item} (s s1 : State) → Observing caller checks s s1 → AreListed s → AreLabelled s → AreLabelled s1
observed_labelled s s1 (kept is) listed labelled = subst AreLabelled (sym is) labelled
observed_labelled {checks = checks} s s1 (lowers slot me e lomac caller live process sees is) listed labelled =
    subst AreLabelled (sym is)
    (lowered_labelled s listed labelled slot lomac me (after_checks slot (value_in slot e) checks) (after_fits s listed labelled slot lomac me e checks live sees))
