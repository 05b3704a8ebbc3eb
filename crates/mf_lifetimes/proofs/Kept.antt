-- What every step keeps: who holds a label slot, and that the slot of each live entity holds a valid label where its policy stays.
use Rattle.std.specs.Option.{option_eq}
use Rattle.std.proofs.Common.{◌≡◌, ℕ, ◌<◌, zero, suc, true, if◌then◌else◌, List, [], ◌∷◌, map, Option, Some, None, refl, ap, sym, ◌∙◌, subst, arith, ◌⊎◌, inl, inr, slice_index_or, nat_eq}
use Rattle.std.specs.Prelude.{find, unwrap_or}
use Rattle.std.proofs.lemmas.Bool.Decides.{nat_tests}
use Rattle.mf_errno.specs.declared.errno.Errno.TheVariants.{Success}
use Rattle.mf_errno.specs.declared.module.Module.{Module}
use Rattle.mf_elem.specs.declared.label.RangeLabel.{RangeLabel}
use Rattle.mf_elem.specs.declared.label.LabelValue.{LabelValue}
use Rattle.mf_elem.specs.declared.label.LabelValue.TheVariants.{Unset, Range, Number}
use Rattle.mf_elem.specs.declared.label.Request.{Request}
use Rattle.mf_elem.specs.declared.label.TheConstants.{SLOTS}
use Rattle.mf_item.specs.declared.view.Kind.{Kind}
use Rattle.mf_item.specs.declared.view.Kind.TheVariants as kinds
use Rattle.mf_policy.specs.declared.modules.Labelling.{Labelling}
use Rattle.mf_policy.specs.declared.modules.Labelling.TheVariants.{Nothing, Ranges, Elements, Partitions}
use Rattle.mf_policy.specs.declared.registration.Registration.{Registration}
use Rattle.mf_policy.specs.declared.labels.Origin.TheVariants.{Boot, Maker}
use Rattle.mf_policy.specs.NewLabels.{new_label, new_value}
use Rattle.mf_policy.specs.Modules.{facts_of, boot_by, has_partition, inherited_by, inherited_range, labels_by, may_ask, number_asked, partition_of, range_asked}
use Rattle.mf_policy.specs.Registration.{Entry, holds_slot}
use Rattle.mf_policy.specs.Relabelled.{value_after, relabelled_value, relabelled}
use Rattle.mf_policy.proofs.ByEntry.{given_by, relabelled_by}
use Rattle.mf_policy.specs.Answer.{answer}
use Rattle.mf_list.specs.Asked.{slot_of}
use Rattle.mf_objects.specs.declared.id.Id.{Id}
use Rattle.mf_objects.specs.Live.{LiveEntity, Entities, kind_of, live_at, value_in, is_set}
use Rattle.mf_objects.specs.declared.entity.EntityData.{EntityData}
use Rattle.mf_plan.specs.declared.state.State.{State}
use Rattle.mf_policy.proofs.EachModule.{has_elements}
use Rattle.mf_lifetimes.specs.Marks.Mark.{Made}
use Rattle.mf_lifetimes.specs.Laws.{AreMarksOf, holds_valid}
use Rattle.mf_perform.proofs.StateChange.{Deed, StateChange}
use Rattle.mf_perform.proofs.StateChange.StateChange.{same, created, changed, relabels, removed, unlinked, loaded, unloaded, set_to}
use Rattle.mf_perform.proofs.EntityChange.{EntityChange, ChangesEntities, changes_entities, stays_rooted}
use Rattle.mf_perform.proofs.EntityChange.EntityChange.{absent, stays, gets_label, comes, goes}
use Rattle.mf_perform.proofs.Allowed.{AsksFor, IsAllowed}
use Rattle.mf_perform.proofs.Allowed.AsksFor.{of_itself, of_object}
use Rattle.mf_perform.proofs.Granted.{granted_by}
use Rattle.mf_perform.proofs.Rooted.{IsRooted}
use Rattle.mf_lifetimes.proofs.Valid.{IsValidOf, valid_set, boot_valid, created as created_valid, inherited_valid}
use Rattle.mf_lifetimes.proofs.Relabelled.{process_relabelled, object_relabelled}
use Rattle.mf_lifetimes.proofs.Asked.{AllLetAsk}
use Rattle.mf_lifetimes.proofs.Lasting.{IsLasting, no_late}
use Rattle.mf_lifetimes.proofs.Listing.{all_found, found_passes, IsPinned, IsPassing, NoneLasting, newest, all_newest, all_without, pinned_newest, pinned_without, passing_found, IsBelow, AllBelow, below_newest, AtMostOne, single_newest, one_without, by_holder}
use Rattle.mf_lifetimes.proofs.Settings.{all_changed, one_changed, pinned_changed}

-- Labels as they are made

-- a slot of a label that is made of four values
pub four_values : (value : ℕ → LabelValue) (slot : ℕ) → slot < SLOTS → slice_index_or (map value (0 ∷ 1 ∷ 2 ∷ 3 ∷ [])) slot Unset ≡ value slot
four_values value zero within = refl
four_values value (suc zero) within = refl
four_values value (suc (suc zero)) within = refl
four_values value (suc (suc (suc zero))) within = refl
four_values value (suc (suc (suc (suc slot)))) within = absurd (omega arith)

-- what is set has its mark
set_marks : (r : Registration) (value : LabelValue) → is_set value ≡ true → AreMarksOf value (Made r ∷ [])
set_marks r Unset set = cc
set_marks r (Range label) set = (r, refl)
set_marks r (Number n) set = (r, refl)

partition_marks : (r : Registration) (kind : Kind) (value : LabelValue)
    → AreMarksOf (if has_partition kind then Number (partition_of value) else Unset) (map Made (if has_partition kind then r ∷ [] else []))
partition_marks r kinds.Vnode value = refl
partition_marks r kinds.Pipe value = refl
partition_marks r kinds.Process Unset = (r, refl)
partition_marks r kinds.Process (Range label) = (r, refl)
partition_marks r kinds.Process (Number n) = (r, refl)
partition_marks r kinds.Socket Unset = (r, refl)
partition_marks r kinds.Socket (Range label) = (r, refl)
partition_marks r kinds.Socket (Number n) = (r, refl)

marks_by : (labels : Labelling) (r : Registration) (kind : Kind) (value : LabelValue)
    → (has_elements labels ≡ true → holds_valid labels kinds.Process value ≡ true)
    → AreMarksOf (if labels_by labels kind then inherited_by labels kind value else Unset) (map Made (if labels_by labels kind then r ∷ [] else []))
marks_by Nothing r kind value valid = refl
marks_by (Ranges process other) r kind value valid =
    set_marks r (inherited_range kind value)
    (valid_set (Ranges process other) kind (inherited_range kind value) (created_valid (Ranges process other) kind value refl (valid refl)))
marks_by (Elements element) r kind value valid =
    set_marks r (inherited_range kind value)
    (valid_set (Elements element) kind (inherited_range kind value) (created_valid (Elements element) kind value refl (valid refl)))
marks_by Partitions r kind value valid = partition_marks r kind value

-- the slot of an entity that a process makes is set exactly where it is marked
pub created_marks : (found : Option Entry) (kind : Kind) (maker : List LabelValue) (slot : ℕ)
    → ((x : Entry) → found ≡ Some x → IsLasting x.0.module → IsValidOf x.0.module kinds.Process (slice_index_or maker slot Unset))
    → AreMarksOf (given_by found kind (Maker maker) slot) (map Made (by_holder kind found))
created_marks None kind maker slot valid = refl
created_marks (Some x) kind maker slot valid = marks_by (facts_of x.0.module).labels x.0 kind (slice_index_or maker slot Unset) (valid x refl)

boot_by_labels : (labels : Labelling) (r : Registration) (kind : Kind) (range : Option RangeLabel) (number : Option ℕ)
    → AreMarksOf (if labels_by labels kind then boot_by labels kind range number else Unset) (map Made (if labels_by labels kind then r ∷ [] else []))
boot_by_labels Nothing r kind range number = refl
boot_by_labels (Ranges process other) r kind range number = (r, refl)
boot_by_labels (Elements element) r kind range number = (r, refl)
boot_by_labels Partitions r kinds.Process range number = (r, refl)
boot_by_labels Partitions r kinds.Vnode range number = refl
boot_by_labels Partitions r kinds.Pipe range number = refl
boot_by_labels Partitions r kinds.Socket range number = (r, refl)

found_boot : (found : Option Entry) (kind : Kind) (request : Request) (slot : ℕ) → AreMarksOf (given_by found kind (Boot request) slot) (map Made (by_holder kind found))
found_boot None kind request slot = refl
found_boot (Some x) kind request slot =
    boot_by_labels (facts_of x.0.module).labels x.0 kind (range_asked x.0.module request) (number_asked x.0.module request)

-- so is the slot of an entity of the opening state
pub boot_marks : (slot : ℕ) (specs : List Entry) (kind : Kind) (request : Request)
    → AreMarksOf (new_value specs kind (Boot request) slot) (map Made (by_holder kind (find (holds_slot slot) specs)))
boot_marks slot specs kind request = found_boot (find (holds_slot slot) specs) kind request slot

-- a policy that stays has put a valid label into the slot of an entity of the opening state
pub boot_holds : (slot : ℕ) (x : Entry) (specs : List Entry) (given : ℕ) (kind : Kind) (request : Request) → slot < SLOTS
    → IsPinned slot x specs given → AllLetAsk kind request specs → IsValidOf x.0.module kind (slice_index_or (new_label specs kind (Boot request)) slot Unset)
boot_holds slot x specs given kind request within pinned let_ask =
    let may : may_ask x.0.module kind request ≡ true =
    (all_found (λ entry. may_ask entry.0.module kind request ≡ true) (holds_slot slot) specs x let_ask.1 pinned.found).0 in
    ap (holds_valid (facts_of x.0.module).labels kind) (four_values (new_value specs kind (Boot request)) slot within)
    ∙ ap (λ (found : Option Entry). holds_valid (facts_of x.0.module).labels kind (given_by found kind (Boot request) slot)) pinned.found
    ∙ boot_valid x.0.module kind request pinned.lasting let_ask.0 may

-- What a step keeps

-- the slot of each live entity holds a valid label of the module, for its kind
abbrev pub AllValid : ℕ → Module → Entities → Type 0
AllValid slot m objects = (id : Id) (e : LiveEntity) → live_at objects id ≡ Some e → IsValidOf m (kind_of e.what) (value_in slot e)

created_holds : (slot : ℕ) (x : Entry) (specs : List Entry) (given : ℕ) (kind : Kind) (maker : List LabelValue) → slot < SLOTS → IsPinned slot x specs given
    → IsValidOf x.0.module kinds.Process (slice_index_or maker slot Unset) → IsValidOf x.0.module kind (slice_index_or (new_label specs kind (Maker maker)) slot Unset)
created_holds slot x specs given kind maker within pinned valid =
    ap (holds_valid (facts_of x.0.module).labels kind) (four_values (new_value specs kind (Maker maker)) slot within)
    ∙ ap (λ (found : Option Entry). holds_valid (facts_of x.0.module).labels kind (given_by found kind (Maker maker) slot)) pinned.found
    ∙ inherited_valid x.0.module kind (slice_index_or maker slot Unset) pinned.lasting valid

-- the value that is read in the slot of a live process
process_valid : (slot : ℕ) (m : Module) (objects : Entities) (id : Id) (e : LiveEntity) → AllValid slot m objects → live_at objects id ≡ Some e
    → kind_of e.what ≡ kinds.Process → IsValidOf m kinds.Process (value_in slot e)
process_valid slot m objects id e all live process = subst (λ (kind : Kind). IsValidOf m kind (value_in slot e)) process (all id e live)

-- the number of the slot that the entry holds
held_slot : (r : Registration) (slot : ℕ) → option_eq nat_eq r.slot (Some slot) ≡ true → slot_of r ≡ slot
held_slot r slot holds = one r.slot holds
  where
    one : (own : Option ℕ) → option_eq nat_eq own (Some slot) ≡ true → unwrap_or own 0 ≡ slot
    one None holds = cc
    one (Some own) holds = grind (arith, nat_tests)

-- what a policy that stays makes of a valid label, where it allows that
pub relabel_valid : (slot : ℕ) (x : Entry) (s : State) (e : LiveEntity) (request : Request) → IsPinned slot x s.specs s.numbers → AllValid slot x.0.module s.objects
    → IsValidOf x.0.module (kind_of e.what) (value_in slot e) → IsAllowed s e request → IsValidOf x.0.module (kind_of e.what) (value_after x.0.module request (value_in slot e))
relabel_valid slot x s e request pinned all valid allowed = by_check allowed.asks
  where
    holds : holds_slot slot x ≡ true
    holds = found_passes (holds_slot slot) s.specs x pinned.found

    answered : answer x.1 slot allowed.item ≡ Success
    answered =
        ap (λ (n : ℕ). answer x.1 n allowed.item) (sym (held_slot x.0 slot holds))
        ∙ granted_by (holds_slot slot) s.specs x allowed.item pinned.found allowed.granted

    by_check : AsksFor s (kind_of e.what) e.label request allowed.item → IsValidOf x.0.module (kind_of e.what) (value_after x.0.module request (value_in slot e))
    by_check (of_itself process test own) =
        subst (λ (kind : Kind). IsValidOf x.0.module kind (value_after x.0.module request (value_in slot e))) (sym process)
        (process_relabelled x.0.module x.1 pinned.module_is pinned.lasting slot allowed.item request allowed.spelled allowed.asked answered e.label test own
        (subst (λ (kind : Kind). IsValidOf x.0.module kind (value_in slot e)) process valid))
    by_check (of_object other test from maker live process own object there labelled) =
        object_relabelled x.0.module x.1 pinned.module_is pinned.lasting slot allowed.item request allowed.spelled allowed.asked answered (kind_of e.what) maker.label e.label object other
        test own there labelled
        (process_valid slot x.0.module s.objects from maker all live process) valid

-- the value in a slot that a policy holds, after a relabel
relabelled_slot : (slot : ℕ) (specs : List Entry) (x : Entry) (request : Request) (label : List LabelValue) → slot < SLOTS → find (holds_slot slot) specs ≡ Some x
    → slice_index_or (relabelled specs request label) slot Unset ≡ value_after x.0.module request (slice_index_or label slot Unset)
relabelled_slot slot specs x request label within found =
    four_values (relabelled_value specs request label) slot within
    ∙ ap (λ (entry : Option Entry). relabelled_by entry request (slice_index_or label slot Unset)) found

-- what holds of the entity that is made holds of the one that is there
as_found : (slot : ℕ) (m : Module) (new e : LiveEntity) → Some new ≡ Some e → IsValidOf m (kind_of new.what) (value_in slot new) → IsValidOf m (kind_of e.what) (value_in slot e)
as_found slot m new e now valid =
    let same_entity : new ≡ e = cc in
    subst (λ (x : LiveEntity). IsValidOf m (kind_of x.what) (value_in slot x)) same_entity valid

change_valid : {by : Deed} (slot : ℕ) (x : Entry) (s : State) (id : Id) (found found' : Option LiveEntity) (e : LiveEntity) → slot < SLOTS
    → IsPinned slot x s.specs s.numbers → AllValid slot x.0.module s.objects → live_at s.objects id ≡ found → EntityChange by s id found found' → found' ≡ Some e
    → IsValidOf x.0.module (kind_of e.what) (value_in slot e)
change_valid slot x s id _ _ e within pinned all is absent now = cc
change_valid slot x s id _ _ e within pinned all is (stays old new kind label) now =
    let same_value : value_in slot new ≡ value_in slot old = ap (λ (values : List LabelValue). slice_index_or values slot Unset) label in
    let valid : IsValidOf x.0.module (kind_of new.what) (value_in slot new) =
    ap (λ (k : Kind). holds_valid (facts_of x.0.module).labels k (value_in slot new)) kind
    ∙ ap (holds_valid (facts_of x.0.module).labels (kind_of old.what)) same_value ∙ all id old is in
    as_found slot x.0.module new e now valid
change_valid slot x s id _ _ e within pinned all is (gets_label old new request asked allowed what label) now =
    let value : value_in slot new ≡ value_after x.0.module request (value_in slot old) =
    ap (λ (values : List LabelValue). slice_index_or values slot Unset) label
    ∙ relabelled_slot slot s.specs x request old.label within pinned.found in
    let valid : IsValidOf x.0.module (kind_of new.what) (value_in slot new) =
    ap (λ (w : EntityData). holds_valid (facts_of x.0.module).labels (kind_of w) (value_in slot new)) what
    ∙ ap (holds_valid (facts_of x.0.module).labels (kind_of old.what)) value
    ∙ relabel_valid slot x s old request pinned all (all id old is) allowed in
    as_found slot x.0.module new e now valid
change_valid slot x s id _ _ e within pinned all is (comes new maker from own next live process label) now =
    let valid : IsValidOf x.0.module (kind_of new.what) (value_in slot new) =
    ap (λ (values : List LabelValue). holds_valid (facts_of x.0.module).labels (kind_of new.what) (slice_index_or values slot Unset)) label
    ∙ created_holds slot x s.specs s.numbers (kind_of new.what) maker.label within pinned (process_valid slot x.0.module s.objects from maker all live process) in
    as_found slot x.0.module new e now valid
change_valid slot x s id _ _ e within pinned all is (goes old given) now = cc

pub keeps_valid : {by : Deed} (slot : ℕ) (x : Entry) (s s' : State) → slot < SLOTS → ChangesEntities by s s' → IsPinned slot x s.specs s.numbers → AllValid slot x.0.module s.objects
    → AllValid slot x.0.module s'.objects
keeps_valid slot x s s' within step pinned all id e found =
    change_valid slot x s id (live_at s.objects id) (live_at s'.objects id) e within pinned all refl (step.each id) found

pub same_policies : (slot : ℕ) (x : Entry) (s s' : State) → s'.specs ≡ s.specs → s'.numbers ≡ s.numbers → IsPinned slot x s.specs s.numbers
    → IsPinned slot x s'.specs s'.numbers
same_policies slot x s s' specs numbers pinned =
    subst (λ (es : List Entry). IsPinned slot x es s'.numbers) (sym specs) (subst (λ (n : ℕ). IsPinned slot x s.specs n) (sym numbers) pinned)

pub keeps_pinned : {by : Deed} (slot : ℕ) (x : Entry) (s s' : State) → StateChange by s s' → IsPinned slot x s.specs s.numbers → IsPinned slot x s'.specs s'.numbers
keeps_pinned slot x s s' (same is) pinned = same_policies slot x s s' (ap (λ (state : State). state.specs) is) (ap (λ (state : State). state.numbers) is) pinned
keeps_pinned slot x s s' (created from maker name what own live process is) pinned =
    same_policies slot x s s' (ap (λ (state : State). state.specs) is) (ap (λ (state : State). state.numbers) is) pinned
keeps_pinned slot x s s' (changed change id kind is) pinned = same_policies slot x s s' (ap (λ (state : State). state.specs) is) (ap (λ (state : State). state.numbers) is) pinned
keeps_pinned slot x s s' (relabels id e request asked live allowed is) pinned = same_policies slot x s s' (ap (λ (state : State). state.specs) is) (ap (λ (state : State). state.numbers) is) pinned
keeps_pinned slot x s s' (removed gone is) pinned = same_policies slot x s s' (ap (λ (state : State). state.specs) is) (ap (λ (state : State). state.numbers) is) pinned
keeps_pinned slot x s s' (unlinked id is) pinned = same_policies slot x s s' (ap (λ (state : State). state.specs) is) (ap (λ (state : State). state.numbers) is) pinned
keeps_pinned slot x s s' (loaded m none is) pinned =
    subst (λ (state : State). IsPinned slot x state.specs state.numbers) (sym is) (pinned_newest slot x s.specs s.numbers m s.booted pinned)
keeps_pinned slot x s s' (unloaded m ok is) pinned =
    subst (λ (state : State). IsPinned slot x state.specs state.numbers) (sym is) (pinned_without slot x s.specs s.numbers m ok pinned)
keeps_pinned slot x s s' (set_to m change ok is) pinned =
    subst (λ (state : State). IsPinned slot x state.specs state.numbers) (sym is) (pinned_changed slot x s.specs s.numbers m change ok pinned)

keeps_passing : {by : Deed} (slot : ℕ) (s s' : State) → StateChange by s s' → s.booted ≡ true → NoneLasting slot s.specs → NoneLasting slot s'.specs
keeps_passing slot s s' (same is) booted none = subst (λ (x : State). NoneLasting slot x.specs) (sym is) none
keeps_passing slot s s' (created from maker name what own live process is) booted none = subst (λ (x : State). NoneLasting slot x.specs) (sym is) none
keeps_passing slot s s' (changed change id kind is) booted none = subst (λ (x : State). NoneLasting slot x.specs) (sym is) none
keeps_passing slot s s' (relabels id e request asked live allowed is) booted none = subst (λ (x : State). NoneLasting slot x.specs) (sym is) none
keeps_passing slot s s' (removed gone is) booted none = subst (λ (x : State). NoneLasting slot x.specs) (sym is) none
keeps_passing slot s s' (unlinked id is) booted none = subst (λ (x : State). NoneLasting slot x.specs) (sym is) none
keeps_passing slot s s' (loaded m fault is) booted none =
    subst (λ (x : State). NoneLasting slot x.specs) (sym is)
    (all_newest (IsPassing slot) (newest m s.booted s.numbers) s.specs (λ _ lasting. no_late s m booted fault lasting) none)
keeps_passing slot s s' (unloaded m ok is) booted none =
    subst (λ (x : State). NoneLasting slot x.specs) (sym is) (all_without (IsPassing slot) m s.specs none)
keeps_passing slot s s' (set_to m change ok is) booted none =
    subst (λ (x : State). NoneLasting slot x.specs) (sym is)
    (all_changed (λ r. option_eq nat_eq r.slot (Some slot) ≡ true → IsLasting r.module → ⊥) m change s.specs none)

keeps_booted : {by : Deed} (s s' : State) → StateChange by s s' → s.booted ≡ true → s'.booted ≡ true
keeps_booted s s' (same is) booted = ap (λ (x : State). x.booted) is ∙ booted
keeps_booted s s' (created from maker name what own live process is) booted = ap (λ (x : State). x.booted) is ∙ booted
keeps_booted s s' (changed change id kind is) booted = ap (λ (x : State). x.booted) is ∙ booted
keeps_booted s s' (relabels id e request asked live allowed is) booted = ap (λ (x : State). x.booted) is ∙ booted
keeps_booted s s' (removed gone is) booted = ap (λ (x : State). x.booted) is ∙ booted
keeps_booted s s' (unlinked id is) booted = ap (λ (x : State). x.booted) is ∙ booted
keeps_booted s s' (loaded m none is) booted = ap (λ (x : State). x.booted) is ∙ booted
keeps_booted s s' (unloaded m ok is) booted = ap (λ (x : State). x.booted) is ∙ booted
keeps_booted s s' (set_to m change ok is) booted = ap (λ (x : State). x.booted) is ∙ booted

-- a policy that stays holds the slot, and that of each live entity holds a valid label; or none that holds it stays
abbrev pub Holding : ℕ → State → Type 0
Holding slot s = ((x : Entry) × IsPinned slot x s.specs s.numbers × AllValid slot x.0.module s.objects) ⊎ NoneLasting slot s.specs

-- each slot number of a listed policy was given, and at most one policy holds this slot
pub record AreSlots (slot : ℕ) (s : State) : Type 0 where
  pub below : AllBelow s.numbers s.specs
  pub single : AtMostOne slot s.specs

keeps_slots : {by : Deed} (slot : ℕ) (s s' : State) → StateChange by s s' → AreSlots slot s → AreSlots slot s'
keeps_slots slot s s' (same is) slots = subst (AreSlots slot) (sym is) slots
keeps_slots slot s s' (created from maker name what own live process is) slots = subst (AreSlots slot) (sym is) (record { below = slots.below; single = slots.single })
keeps_slots slot s s' (changed change id kind is) slots = subst (AreSlots slot) (sym is) (record { below = slots.below; single = slots.single })
keeps_slots slot s s' (relabels id e request asked live allowed is) slots = subst (AreSlots slot) (sym is) (record { below = slots.below; single = slots.single })
keeps_slots slot s s' (removed gone is) slots = subst (AreSlots slot) (sym is) (record { below = slots.below; single = slots.single })
keeps_slots slot s s' (unlinked id is) slots = subst (AreSlots slot) (sym is) (record { below = slots.below; single = slots.single })
keeps_slots slot s s' (loaded m none is) slots =
    subst (AreSlots slot) (sym is)
    (record {
      below = below_newest s.numbers s.specs m s.booted slots.below;
      single = single_newest slot s.specs s.numbers m s.booted slots.below slots.single;
    })
keeps_slots slot s s' (unloaded m ok is) slots =
    subst (AreSlots slot) (sym is)
    (record {
      below = all_without (λ entry. IsBelow s.numbers entry.0.slot) m s.specs slots.below;
      single = one_without slot m s.specs slots.single;
    })
keeps_slots slot s s' (set_to m change ok is) slots =
    subst (AreSlots slot) (sym is)
    (record {
      below = all_changed (λ r. IsBelow s.numbers r.slot) m change s.specs slots.below;
      single = one_changed slot m change s.specs slots.single;
    })

pub record IsKept (slot : ℕ) (s : State) : Type 0 where
  pub rooted : IsRooted s.objects
  pub booted : s.booted ≡ true
  pub slots : AreSlots slot s
  pub holding : Holding slot s

keeps_holding : {by : Deed} (slot : ℕ) (s s' : State) → slot < SLOTS → StateChange by s s' → ChangesEntities by s s' → s.booted ≡ true → Holding slot s → Holding slot s'
keeps_holding slot s s' within shape step booted (inl held) =
    inl (held.0, keeps_pinned slot held.0 s s' shape held.1, keeps_valid slot held.0 s s' within step held.1 held.2)
keeps_holding slot s s' within shape step booted (inr none) = inr (keeps_passing slot s s' shape booted none)

pub keeps : {by : Deed} (slot : ℕ) (s s' : State) → slot < SLOTS → StateChange by s s' → IsKept slot s → IsKept slot s'
keeps {by = by} slot s s' within shape kept =
    let step : ChangesEntities by s s' = changes_entities by s s' shape kept.rooted.rising in
    record {
      rooted = stays_rooted by s s' step kept.rooted;
      booted = keeps_booted s s' shape kept.booted;
      slots = keeps_slots slot s s' shape kept.slots;
      holding = keeps_holding slot s s' within shape step kept.booted kept.holding;
    }

-- who holds the slot and stays gives each live entity a valid label
pub holder_valid : (slot : ℕ) (s : State) (x : Entry) → IsKept slot s → find (holds_slot slot) s.specs ≡ Some x → IsLasting x.0.module
    → IsPinned slot x s.specs s.numbers × AllValid slot x.0.module s.objects
holder_valid slot s x kept found lasting = one kept.holding
  where
    one : Holding slot s → IsPinned slot x s.specs s.numbers × AllValid slot x.0.module s.objects
    one (inl held) =
        let holder : Some held.0 ≡ Some x = sym held.1.found ∙ found in
        let same : held.0 ≡ x = cc in
        subst (λ (entry : Entry). IsPinned slot entry s.specs s.numbers × AllValid slot entry.0.module s.objects) same (held.1, held.2)
    one (inr none) = absurd (passing_found slot s.specs x none found lasting)

-- the maker's slot holds a process's valid label then
pub maker_valid : (slot : ℕ) (s : State) (from : Id) (maker : LiveEntity) (x : Entry) → IsKept slot s → live_at s.objects from ≡ Some maker
    → kind_of maker.what ≡ kinds.Process → find (holds_slot slot) s.specs ≡ Some x → IsLasting x.0.module → IsValidOf x.0.module kinds.Process (value_in slot maker)
maker_valid slot s from maker x kept live process found lasting =
    process_valid slot x.0.module s.objects from maker (holder_valid slot s x kept found lasting).1 live process
