-- The effective elements of entities: each has one, a new one has its maker's, and a relabel that asks for none leaves it.
use Rattle.std.proofs.Common.{◌≡◌, ℕ, ◌<◌, true, false, ◌&&◌, if◌then◌else◌, List, Option, Some, None, slice_index_or, refl, ap, ◌∙◌}
use Rattle.std.specs.Option.{option_map_or, option_or}
use Rattle.std.specs.Prelude.{is_some, is_none}
use Rattle.std.proofs.lemmas.Bool.{and_parts}
use Rattle.mf_errno.specs.declared.module.Module.{Module}
use Rattle.mf_elem.specs.declared.elem.Elem.{Elem}
use Rattle.mf_elem.specs.declared.label.TheConstants.{SLOTS}
use Rattle.mf_elem.specs.declared.label.LabelValue.{LabelValue}
use Rattle.mf_elem.specs.declared.label.LabelValue.TheVariants.{Unset, Range, Number}
use Rattle.mf_elem.specs.declared.label.RangeLabel.{RangeLabel}
use Rattle.mf_elem.specs.declared.label.Request.{Request}
use Rattle.mf_elem.specs.Elem.{is_plain}
use Rattle.mf_elem.specs.Label.{is_valid}
use Rattle.mf_elem.proofs.Valid.{is_valid_for}
use Rattle.mf_item.specs.declared.view.Kind.{Kind}
use Rattle.mf_item.specs.declared.view.Kind.TheVariants as kinds
use Rattle.mf_policy.specs.declared.modules.Labelling.{Labelling}
use Rattle.mf_policy.specs.declared.modules.Labelling.TheVariants.{Ranges, Elements}
use Rattle.mf_policy.proofs.EachModule.{has_elements}
use Rattle.mf_policy.specs.declared.registration.Registration.{Registration}
use Rattle.mf_policy.specs.declared.spec.Spec.{Spec}
use Rattle.mf_policy.specs.Answer.{range_label}
use Rattle.mf_policy.specs.Modules.{facts_of, inherited, inherited_by, inherited_range, labels_by, number_asked, range_asked}
use Rattle.mf_policy.specs.declared.labels.Origin.TheVariants.{Maker}
use Rattle.mf_policy.specs.NewLabels.{new_label, new_value}
use Rattle.mf_policy.specs.Registration.{Entry}
use Rattle.mf_policy.specs.Relabelled.{after_by, range_after, relabelled, relabelled_value, value_after}
use Rattle.mf_policy.proofs.ByEntry.{given_by, relabelled_by}
use Rattle.mf_list.specs.Asked.{slot_of}
use Rattle.mf_objects.specs.declared.id.Id.{Id}
use Rattle.mf_objects.specs.Live.{LiveEntity, kind_of, live_at, value_in}
use Rattle.mf_plan.specs.declared.state.State.{State}
use Rattle.mf_lifetimes.proofs.Lasting.{IsLasting}
use Rattle.mf_lifetimes.proofs.Listing.{IsPinned}
use Rattle.mf_lifetimes.specs.Laws.{holds_valid, suits_kind}
use Rattle.mf_lifetimes.proofs.Kept.{four_values}
use Rattle.mf_lifetimes.proofs.Marked.{IsHeld}
use Rattle.mf_flow.specs.Sources.{element_by, has_element}

-- Elements as they are made

range_inherits : (kind : Kind) (value : LabelValue) → (range_label (inherited_range kind value)).effective ≡ (range_label value).effective
range_inherits kinds.Process value = refl
range_inherits kinds.Vnode Unset = refl
range_inherits kinds.Vnode (Range label) = refl
range_inherits kinds.Vnode (Number n) = refl
range_inherits kinds.Pipe Unset = refl
range_inherits kinds.Pipe (Range label) = refl
range_inherits kinds.Pipe (Number n) = refl
range_inherits kinds.Socket Unset = refl
range_inherits kinds.Socket (Range label) = refl
range_inherits kinds.Socket (Number n) = refl

inherits : (m : Module) (kind : Kind) (value : LabelValue) → IsLasting m → (range_label (inherited m kind value)).effective ≡ (range_label value).effective
inherits m kind value lasting = by_labels (facts_of m).labels lasting
  where
    by_labels : (labels : Labelling) → has_elements labels ≡ true
        → (range_label (if labels_by labels kind then inherited_by labels kind value else Unset)).effective ≡ (range_label value).effective
    by_labels (Ranges process other) elements = range_inherits kind value
    by_labels (Elements element) elements = range_inherits kind value
    by_labels other elements = cc

-- a new entity has its maker's element
pub created_element : (r : Registration) (spec : Spec) (specs : List Entry) (given : ℕ) (kind : Kind) (maker : List LabelValue) → slot_of r < SLOTS → IsPinned (slot_of r) (r, spec) specs given
    → element_by r (new_label specs kind (Maker maker)) ≡ element_by r maker
created_element r spec specs given kind maker within pinned =
    let slot : ℕ = slot_of r in
    let there : slice_index_or (new_label specs kind (Maker maker)) slot Unset ≡ new_value specs kind (Maker maker) slot = four_values (new_value specs kind (Maker maker)) slot within in
    let by : new_value specs kind (Maker maker) slot ≡ inherited r.module kind (slice_index_or maker slot Unset) =
    ap (λ (found : Option Entry). given_by found kind (Maker maker) slot) pinned.found in
    ap (λ (value : LabelValue). (range_label value).effective) (there ∙ by) ∙ inherits r.module kind (slice_index_or maker slot Unset) pinned.lasting

-- some element
abbrev pub HasElement : Option Elem → Type 0
HasElement element = (own : Elem) × (element ≡ Some own)

effective_some : (effective : Option Elem) (range : Option (Elem × Elem)) → is_valid_for effective range ≡ true → HasElement effective
effective_some None range valid = cc
effective_some (Some own) range valid = (own, refl)

there_some : (effective : Option Elem) → is_some effective ≡ true → HasElement effective
there_some None there = cc
there_some (Some own) there = (own, refl)

suits_some : (kind : Kind) (label : RangeLabel) → suits_kind kind label ≡ true → HasElement label.effective
suits_some kinds.Process label suits = effective_some label.effective label.range (and_parts (is_valid label) (is_some label.range) suits).0
suits_some kinds.Vnode label suits = there_some label.effective (and_parts (is_some label.effective) (is_none label.range) suits).0
suits_some kinds.Pipe label suits = there_some label.effective (and_parts (is_some label.effective) (is_none label.range) suits).0
suits_some kinds.Socket label suits = there_some label.effective (and_parts (is_some label.effective) (is_none label.range) suits).0

plain_some : (effective : Option Elem) (range : Option (Elem × Elem)) → option_map_or is_plain effective false && is_none range ≡ true → HasElement effective
plain_some None range plain = cc
plain_some (Some element) range plain = (element, refl)

valid_some : (labels : Labelling) (kind : Kind) (value : LabelValue) → has_elements labels ≡ true → holds_valid labels kind value ≡ true
    → HasElement (range_label value).effective
valid_some (Ranges process other) kind Unset elements valid = cc
valid_some (Ranges process other) kind (Range label) elements valid = suits_some kind label valid
valid_some (Ranges process other) kind (Number n) elements valid = cc
valid_some (Elements element) kind Unset elements valid = cc
valid_some (Elements element) kind (Range label) elements valid = plain_some label.effective label.range valid
valid_some (Elements element) kind (Number n) elements valid = cc
valid_some labels kind value elements valid = cc

-- each live entity has an element
pub all_labelled : (r : Registration) (spec : Spec) (s : State) → IsHeld (slot_of r) (r, spec) s → (id : Id) (e : LiveEntity) → live_at s.objects id ≡ Some e → HasElement (element_by r e.label)
all_labelled r spec s held id e live = valid_some (facts_of r.module).labels (kind_of e.what) (value_in (slot_of r) e) held.pinned.lasting (held.valid id e live)

-- Elements as they are asked

-- a part without an effective element leaves the element
range_keeps : (asked : Option RangeLabel) (value : LabelValue) → option_map_or (λ label. is_some label.effective) asked false ≡ false
    → (range_label (range_after asked value)).effective ≡ (range_label value).effective
range_keeps None value none = refl
range_keeps (Some asked) value none = one asked.effective none
  where
    one : (effective : Option Elem) → is_some effective ≡ false → option_or effective (range_label value).effective ≡ (range_label value).effective
    one None none = refl
    one (Some element) none = cc

keeps_element : (m : Module) (request : Request) (value : LabelValue) → IsLasting m → has_element m request ≡ false
    → (range_label (value_after m request value)).effective ≡ (range_label value).effective
keeps_element m request value lasting none = by_labels (facts_of m).labels lasting
  where
    by_labels : (labels : Labelling) → has_elements labels ≡ true
        → (range_label (after_by labels (range_asked m request) (number_asked m request) value)).effective ≡ (range_label value).effective
    by_labels (Ranges process other) elements = range_keeps (range_asked m request) value none
    by_labels (Elements element) elements = range_keeps (range_asked m request) value none
    by_labels other elements = cc

-- a relabel that asks for no element leaves it
pub relabelled_element : (r : Registration) (spec : Spec) (specs : List Entry) (given : ℕ) (request : Request) (label : List LabelValue) → slot_of r < SLOTS
    → IsPinned (slot_of r) (r, spec) specs given
    → has_element r.module request ≡ false → element_by r (relabelled specs request label) ≡ element_by r label
relabelled_element r spec specs given request label within pinned none =
    let slot : ℕ = slot_of r in
    let there : slice_index_or (relabelled specs request label) slot Unset ≡ relabelled_value specs request label slot =
    four_values (relabelled_value specs request label) slot within in
    let by : relabelled_value specs request label slot ≡ value_after r.module request (slice_index_or label slot Unset) =
    ap (λ (found : Option Entry). relabelled_by found request (slice_index_or label slot Unset)) pinned.found in
    ap (λ (value : LabelValue). (range_label value).effective) (there ∙ by) ∙ keeps_element r.module request (slice_index_or label slot Unset) pinned.lasting none
