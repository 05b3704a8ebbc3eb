-- The labels of live entities keep values of the listed policies in their slots, by how a step changes the state.
use Rattle.std.specs.Option.{option_eq}
use Rattle.std.proofs.Common.{◌≡◌, ℕ, ◌+◌, ◌≤◌, zero, suc, Bool, true, false, cond, not, nat_eq, eq-eqb, List, [], ◌∷◌, map, Option, Some, None, slice_index_or, refl, ap, sym, ◌∙◌, subst, arith}
use Rattle.std.specs.Prelude.{filter, find}
use Rattle.std.specs.List.{AllByRecursion}
use Rattle.std.proofs.lemmas.Bool.Decides.{nat_tests}
use Rattle.mf_errno.specs.declared.module.Module.{Module}
use Rattle.mf_elem.specs.Bounds.{IsRequest}
use Rattle.mf_elem.specs.declared.label.LabelValue.{LabelValue}
use Rattle.mf_elem.specs.declared.label.LabelValue.TheVariants.{Unset}
use Rattle.mf_elem.specs.declared.label.Request.{Request}
use Rattle.mf_elem.specs.declared.label.TheConstants.{SLOTS}
use Rattle.mf_item.specs.declared.view.Kind.{Kind}
use Rattle.mf_policy.specs.declared.modules.Labelling.{Labelling}
use Rattle.mf_policy.specs.declared.modules.Labelling.TheVariants.{Ranges, Elements}
use Rattle.mf_policy.proofs.EachModule.{has_elements}
use Rattle.mf_policy.specs.declared.labels.Origin.{Origin}
use Rattle.mf_policy.specs.declared.labels.Origin.TheVariants.{Boot, Maker}
use Rattle.mf_policy.specs.Modules.{facts_of, wants_slot}
use Rattle.mf_policy.specs.NewLabels.{new_label, new_value}
use Rattle.mf_policy.specs.Registration.{Entry, entries_without, given_after, holds_slot, registration_of, slot_for, with_newest, with_registered}
use Rattle.mf_policy.specs.Settings.{change_in}
use Rattle.mf_policy.specs.Relabelled.{relabelled, relabelled_value}
use Rattle.mf_policy.proofs.ByEntry.{given_by, relabelled_by}
use Rattle.mf_objects.proofs.Entities.{label_of, changed_at}
use Rattle.mf_objects.specs.declared.id.Id.{Id}
use Rattle.mf_objects.specs.declared.entity.EntityData.{EntityData}
use Rattle.mf_objects.specs.Live.{LiveEntity, has_id, kind_of, label_at, live_at}
use Rattle.mf_objects.specs.Changes.{made, with_change, with_what}
use Rattle.mf_plan.specs.declared.state.State.{State}
use Rattle.mf_perform.specs.Effect.{with_created, with_objects}
use Rattle.mf_perform.proofs.StateChange.{Deed, StateChange}
use Rattle.mf_perform.proofs.Unlinking.{without_open}
use Rattle.mf_perform.proofs.StateChange.StateChange.{same, created, changed, relabels, removed, unlinked, loaded, unloaded, set_to}
use Rattle.mf_lifetimes.proofs.Kept.{four_values}
use Rattle.mf_lifetimes.proofs.Lasting.{IsLasting, no_late}
use Rattle.mf_lifetimes.proofs.Listing.{AllBelow, AtMostOne, IsBelow, all_newest, all_without, newest}
use Rattle.mf_lifetimes.proofs.Settings.{all_changed}
use Rattle.mf_reading.proofs.Bounded.{AllFit, AreLabelled, AreListed, Fits, FitsLabelling, FitsSlot, IsUnsetFrom}
use Rattle.mf_lifetimes.proofs.Files.{all_both, all_from, all_push}
use Rattle.mf_reading.proofs.Lists.{all_found, all_kept, all_mapped}
use Rattle.mf_reading.proofs.Values.{boot_fits, inherited_fits, relabelled_fits}

-- Who holds a slot

-- the policy that holds the slot is this one
abbrev pub IsHolder : List Entry → Entry → Type 0
IsHolder specs x = (slot : ℕ) → x.0.slot ≡ Some slot → find (holds_slot slot) specs ≡ Some x

holds_own : (slot : ℕ) (x : Entry) → x.0.slot ≡ Some slot → holds_slot slot x ≡ true
holds_own slot x at = ap (λ (s : Option ℕ). option_eq nat_eq s (Some slot)) at ∙ eq-eqb slot slot refl

-- where each slot has at most one holder
pub holders : (specs : List Entry) → ((slot : ℕ) → AtMostOne slot specs) → AllByRecursion (IsHolder specs) specs
holders [] single = tt
holders (x ∷ specs) single =
    (λ slot at. rw (holds_own slot x at) refl, all_from (IsHolder specs) (IsHolder (x ∷ specs)) specs further (holders specs (λ slot. (single slot).1)))
  where
    further : (y : Entry) → IsHolder specs y → IsHolder (x ∷ specs) y
    further y holder slot at = one (holds_slot slot x) refl
      where
        one : (b : Bool) → holds_slot slot x ≡ b → cond b (Some x) (find (holds_slot slot) specs) ≡ Some y
        one true here =
            let none : find (holds_slot slot) specs ≡ None = (single slot).0 here in
            let some : find (holds_slot slot) specs ≡ Some y = holder slot at in
            cc
        one false other = holder slot at

-- no policy holds a slot of a number that wasn't given
no_holder : (given slot : ℕ) (specs : List Entry) → given ≤ slot → AllBelow given specs → find (holds_slot slot) specs ≡ None
no_holder given slot [] more below = refl
no_holder given slot (x ∷ specs) more below = rw (one x.0.slot below.0) (no_holder given slot specs more below.1)
  where
    one : (own : Option ℕ) → IsBelow given own → option_eq nat_eq own (Some slot) ≡ false
    one None less = refl
    one (Some k) less = grind (arith, nat_tests)

-- Labels of four values

four_unset : (given : ℕ) (value : ℕ → LabelValue) → ((slot : ℕ) → given ≤ slot → value slot ≡ Unset) → IsUnsetFrom given (map value (0 ∷ 1 ∷ 2 ∷ 3 ∷ []))
four_unset given value unset zero more = unset 0 more
four_unset given value unset (suc zero) more = unset 1 more
four_unset given value unset (suc (suc zero)) more = unset 2 more
four_unset given value unset (suc (suc (suc zero))) more = unset 3 more
four_unset given value unset (suc (suc (suc (suc slot)))) more = refl

pub at_slot : (x : Entry) (label : List LabelValue) (slot : ℕ) → x.0.slot ≡ Some slot → Fits label x.0
    → FitsLabelling (facts_of x.0.module).labels (slice_index_or label slot Unset)
at_slot x label slot at fits = subst (λ (own : Option ℕ). FitsSlot x.0.module own label) at fits

module _ (specs : List Entry) (given : ℕ) (few : given ≤ SLOTS) (below : AllBelow given specs) (single : (slot : ℕ) → AtMostOne slot specs) where
  -- what holds a slot, and has one of a number that was given
  record IsKnown (x : Entry) : Type 0 where
    holder : IsHolder specs x
    given_slot : IsBelow given x.0.slot

  known : AllByRecursion IsKnown specs
  known =
      all_from (λ x. IsHolder specs x × IsBelow given x.0.slot) IsKnown specs (λ x both. record { holder = both.0; given_slot = both.1 })
      (all_both (IsHolder specs) (λ x. IsBelow given x.0.slot) specs (holders specs single) below)

  -- the value that a policy puts into its slot is the one there
  four_fit : (value : ℕ → LabelValue) (x : Entry) → IsKnown x
      → ((slot : ℕ) → x.0.slot ≡ Some slot → FitsLabelling (facts_of x.0.module).labels (value slot)) → Fits (map value (0 ∷ 1 ∷ 2 ∷ 3 ∷ [])) x.0
  four_fit value x is fits = one x.0.slot refl is.given_slot
    where
      one : (own : Option ℕ) → x.0.slot ≡ own → IsBelow given own → FitsSlot x.0.module own (map value (0 ∷ 1 ∷ 2 ∷ 3 ∷ []))
      one None at less = tt
      one (Some slot) at less =
          subst (FitsLabelling (facts_of x.0.module).labels) (sym (four_values value slot (omega (arith, few, less)))) (fits slot at)

  -- a label at boot
  pub booted_fit : (kind : Kind) (request : Request) → IsRequest request → AllFit specs (new_label specs kind (Boot request))
  booted_fit kind request is =
      all_from IsKnown (λ x. Fits (new_label specs kind (Boot request)) x.0) specs
      (λ x here. four_fit (new_value specs kind (Boot request)) x here
      (λ slot at. subst (λ (found : Option Entry). FitsLabelling (facts_of x.0.module).labels (given_by found kind (Boot request) slot)) (sym (here.holder slot at))
      (boot_fits x.0.module kind request is)))
      known

  -- a label that comes from its maker's
  created_fit : (kind : Kind) (label : List LabelValue) → AllFit specs label → AllFit specs (new_label specs kind (Maker label))
  created_fit kind label fits =
      all_from (λ x. IsKnown x × Fits label x.0) (λ x. Fits (new_label specs kind (Maker label)) x.0) specs
      (λ x both. four_fit (new_value specs kind (Maker label)) x both.0
      (λ slot at. subst (λ (found : Option Entry). FitsLabelling (facts_of x.0.module).labels (given_by found kind (Maker label) slot)) (sym (both.0.holder slot at))
      (inherited_fits x.0.module kind (slice_index_or label slot Unset) (at_slot x label slot at both.1))))
      (all_both IsKnown (λ x. Fits label x.0) specs known fits)

  -- a label after a relabel
  pub relabelled_fit : (request : Request) (label : List LabelValue) → IsRequest request → AllFit specs label → AllFit specs (relabelled specs request label)
  relabelled_fit request label is fits =
      all_from (λ x. IsKnown x × Fits label x.0) (λ x. Fits (relabelled specs request label) x.0) specs
      (λ x both. four_fit (relabelled_value specs request label) x both.0
      (λ slot at. subst (λ (found : Option Entry). FitsLabelling (facts_of x.0.module).labels (relabelled_by found request (slice_index_or label slot Unset))) (sym (both.0.holder slot at))
      (relabelled_fits x.0.module request (slice_index_or label slot Unset) is (at_slot x label slot at both.1))))
      (all_both IsKnown (λ x. Fits label x.0) specs known fits)

  pub new_unset : (kind : Kind) (origin : Origin) → IsUnsetFrom given (new_label specs kind origin)
  new_unset kind origin =
      four_unset given (new_value specs kind origin)
      (λ slot more. ap (λ (found : Option Entry). given_by found kind origin slot) (no_holder given slot specs more below))

  pub relabelled_unset : (request : Request) (label : List LabelValue) → IsUnsetFrom given label → IsUnsetFrom given (relabelled specs request label)
  relabelled_unset request label unset =
      four_unset given (relabelled_value specs request label)
      (λ slot more. ap (λ (found : Option Entry). relabelled_by found request (slice_index_or label slot Unset)) (no_holder given slot specs more below) ∙ unset slot more)

-- Policies that come

late_unset : (labels : Labelling) → (has_elements labels ≡ true → ⊥) → FitsLabelling labels Unset
late_unset (Ranges process other) late = absurd (late refl)
late_unset (Elements element) late = absurd (late refl)
late_unset other late = tt

new_fits : (m : Module) (booted : Bool) (given : ℕ) (label : List LabelValue) → (IsLasting m → ⊥) → IsUnsetFrom given label → Fits label (newest m booted given).0
new_fits m booted given label late unset = one (wants_slot m)
  where
    one : (wants : Bool) → FitsSlot m (slot_for wants given) label
    one true = subst (FitsLabelling (facts_of m).labels) (sym (unset given (omega arith))) (late_unset (facts_of m).labels late)
    one false = tt

fewer_unset : (given : ℕ) (m : Module) (label : List LabelValue) → IsUnsetFrom given label → IsUnsetFrom (given_after given m) label
fewer_unset given m label unset = one (wants_slot m)
  where
    one : (wants : Bool) → IsUnsetFrom (cond wants (given + 1) given) label
    one true = λ slot more. unset slot (omega (arith, more))
    one false = unset

-- One step

same_label : (change : EntityData → EntityData) (id : Id) (e : LiveEntity) → (changed_at (with_what change) id e).label ≡ e.label
same_label change id e = one (has_id id e)
  where
    one : (b : Bool) → (cond b (with_what change e) e).label ≡ e.label
    one true = refl
    one false = refl

-- the labels of other entities stay
pub labels_changed : (P : List LabelValue → Type 0) (change : EntityData → EntityData) (id : Id) (live : List LiveEntity) → AllByRecursion (λ e. P e.label) live
    → AllByRecursion (λ e. P e.label) (map (changed_at (with_what change) id) live)
labels_changed P change id live all =
    all_mapped (λ e. P e.label) (λ e. P e.label) (changed_at (with_what change) id) live (λ e here. subst P (sym (same_label change id e)) here) all

-- the labels of what stays where one goes, and all descriptors on it
labels_unlinked : (P : List LabelValue → Type 0) (id : Id) (live : List LiveEntity) → AllByRecursion (λ e. P e.label) live
    → AllByRecursion (λ e. P e.label) (filter (λ e. not (has_id id e)) (map (without_open id) live))
labels_unlinked P id live all =
    all_kept (λ (e : LiveEntity). P e.label) (λ e. not (has_id id e)) (map (without_open id) live)
    (all_mapped (λ e. P e.label) (λ e. P e.label) (without_open id) live (λ e here. here) all)

-- a new label of one entity meets what the others meet
labels_given : (P : List LabelValue → Type 0) (new : List LabelValue) (id : Id) (live : List LiveEntity) → P new → AllByRecursion (λ e. P e.label) live
    → AllByRecursion (λ e. P e.label) (map (changed_at (λ e. record e { label = new }) id) live)
labels_given P new id live meets all =
    all_mapped (λ e. P e.label) (λ e. P e.label) (changed_at (λ e. record e { label = new }) id) live (λ e here. one e (has_id id e) here) all
  where
    one : (e : LiveEntity) (b : Bool) → P e.label → P (cond b (record e { label = new }) e).label
    one e true here = meets
    one e false here = here

-- an entity is relabelled, by a request that a label text can spell
request_labelled : (s : State) (id : Id) (e : LiveEntity) (request : Request) → IsRequest request → live_at s.objects id ≡ Some e → AreListed s → AreLabelled s
    → AreLabelled (with_objects s (with_change (λ e. record e { label = relabelled s.specs request (label_at s.objects id) }) s.objects id))
request_labelled s id e request is live listed labelled =
    let old : label_at s.objects id ≡ e.label = ap label_of live in
    let fit : AllFit s.specs e.label = (all_found (λ (x : LiveEntity). AllFit s.specs x.label) (has_id id) s.objects.live e labelled.fit live).0 in
    let unset : IsUnsetFrom s.numbers e.label = (all_found (λ (x : LiveEntity). IsUnsetFrom s.numbers x.label) (has_id id) s.objects.live e labelled.unset live).0 in
    let new : List LabelValue = relabelled s.specs request (label_at s.objects id) in
    record {
      fit = labels_given (AllFit s.specs) new id s.objects.live
          (relabelled_fit s.specs s.numbers listed.given listed.below listed.single request (label_at s.objects id) is (subst (AllFit s.specs) (sym old) fit))
          labelled.fit;
      unset = labels_given (IsUnsetFrom s.numbers) new id s.objects.live
          (relabelled_unset s.specs s.numbers listed.given listed.below listed.single request (label_at s.objects id) (subst (IsUnsetFrom s.numbers) (sym old) unset))
          labelled.unset;
    }

created_labelled : (s : State) (from : Id) (maker : LiveEntity) (name : List ℕ) (what : EntityData) → live_at s.objects from ≡ Some maker → AreListed s → AreLabelled s
    → AreLabelled (with_created s from (kind_of what) name what)
created_labelled s from maker name what live listed labelled =
    let label : List LabelValue = new_label s.specs (kind_of what) (Maker (label_at s.objects from)) in
    let new : LiveEntity = made s.objects name label what in
    let own : AllFit s.specs maker.label = (all_found (λ (e : LiveEntity). AllFit s.specs e.label) (has_id from) s.objects.live maker labelled.fit live).0 in
    let is : label_at s.objects from ≡ maker.label = ap label_of live in
    record {
      fit = all_push (λ (e : LiveEntity). AllFit s.specs e.label) s.objects.live new labelled.fit
          (created_fit s.specs s.numbers listed.given listed.below listed.single (kind_of what) (label_at s.objects from) (subst (AllFit s.specs) (sym is) own));
      unset = all_push (λ (e : LiveEntity). IsUnsetFrom s.numbers e.label) s.objects.live new labelled.unset
          (new_unset s.specs s.numbers listed.given listed.below listed.single (kind_of what) (Maker (label_at s.objects from)));
    }

abbrev with_loaded : State → Module → State
with_loaded s m = record s { specs = with_registered s.specs (registration_of m s.booted s.numbers); numbers = given_after s.numbers m }

loaded_labelled : (s : State) (m : Module) → (IsLasting m → ⊥) → AreLabelled s → AreLabelled (with_loaded s m)
loaded_labelled s m late labelled = record {
  fit = all_from (λ (e : LiveEntity). AllFit s.specs e.label × IsUnsetFrom s.numbers e.label) (λ (e : LiveEntity). AllFit (with_newest (newest m s.booted s.numbers) s.specs) e.label) s.objects.live
      (λ e both. all_newest (λ x. Fits e.label x.0) (newest m s.booted s.numbers) s.specs (new_fits m s.booted s.numbers e.label late both.1) both.0)
      (all_both (λ (e : LiveEntity). AllFit s.specs e.label) (λ (e : LiveEntity). IsUnsetFrom s.numbers e.label) s.objects.live labelled.fit labelled.unset);
  unset = all_from (λ (e : LiveEntity). IsUnsetFrom s.numbers e.label) (λ (e : LiveEntity). IsUnsetFrom (given_after s.numbers m) e.label) s.objects.live
      (λ e unset. fewer_unset s.numbers m e.label unset) labelled.unset;
}

pub keeps_labelled : {by : Deed} (s s' : State) → StateChange by s s' → AreListed s → AreLabelled s → AreLabelled s'
keeps_labelled s s' (same is) listed labelled = subst AreLabelled (sym is) labelled
keeps_labelled s s' (created from maker name what own live process is) listed labelled =
    subst AreLabelled (sym is) (created_labelled s from maker name what live listed labelled)
keeps_labelled s s' (changed change id kind is) listed labelled =
    subst AreLabelled (sym is)
    (record {
      fit = labels_changed (AllFit s.specs) change id s.objects.live labelled.fit;
      unset = labels_changed (IsUnsetFrom s.numbers) change id s.objects.live labelled.unset;
    })
keeps_labelled s s' (relabels id e request asked live allowed is) listed labelled =
    subst AreLabelled (sym is) (request_labelled s id e request allowed.spelled live listed labelled)
keeps_labelled s s' (removed gone is) listed labelled =
    subst AreLabelled (sym is)
    (record {
      fit = all_kept (λ (e : LiveEntity). AllFit s.specs e.label) (λ e. not (gone e)) s.objects.live labelled.fit;
      unset = all_kept (λ (e : LiveEntity). IsUnsetFrom s.numbers e.label) (λ e. not (gone e)) s.objects.live labelled.unset;
    })
keeps_labelled s s' (unlinked id is) listed labelled =
    subst AreLabelled (sym is)
    (record {
      fit = labels_unlinked (AllFit s.specs) id s.objects.live labelled.fit;
      unset = labels_unlinked (IsUnsetFrom s.numbers) id s.objects.live labelled.unset;
    })
keeps_labelled s s' (loaded m none is) listed labelled =
    subst AreLabelled (sym is) (loaded_labelled s m (no_late s m listed.booted none) labelled)
keeps_labelled s s' (unloaded m ok is) listed labelled =
    subst AreLabelled (sym is)
    (record {
      fit = all_from (λ (e : LiveEntity). AllFit s.specs e.label) (λ (e : LiveEntity). AllFit (entries_without m s.specs) e.label) s.objects.live
          (λ e fits. all_without (λ x. Fits e.label x.0) m s.specs fits) labelled.fit;
      unset = labelled.unset;
    })
keeps_labelled s s' (set_to m change leaves is) listed labelled =
    subst AreLabelled (sym is)
    (record {
      fit = all_from (λ (e : LiveEntity). AllFit s.specs e.label) (λ (e : LiveEntity). AllFit (change_in m change s.specs).1 e.label) s.objects.live
          (λ e fits. all_changed (Fits e.label) m change s.specs fits) labelled.fit;
      unset = labelled.unset;
    })
