-- That a policy that stays puts a valid label into its slot of each new entity.
use Rattle.std.proofs.Common.{◌≡◌, ℕ, true, false, not, ◌&&◌, ◌||◌, if◌then◌else◌, Option, Some, None, refl}
use Rattle.std.specs.Option.{option_or, option_map_or}
use Rattle.std.specs.Prelude.{is_some, is_none, option_map, IfSome}
use Rattle.std.proofs.lemmas.Bool.{and_parts}
use Rattle.mf_errno.specs.declared.module.Module.{Module}
use Rattle.mf_errno.specs.declared.module.Module.TheVariants.{Lomac}
use Rattle.mf_elem.specs.declared.elem.Elem.{Elem}
use Rattle.mf_elem.specs.declared.label.RangeLabel.{RangeLabel}
use Rattle.mf_elem.specs.declared.label.LabelValue.{LabelValue}
use Rattle.mf_elem.specs.declared.label.LabelValue.TheVariants.{Unset, Range, Number}
use Rattle.mf_elem.specs.declared.label.Request.{Request}
use Rattle.mf_elem.specs.Bounds.{IsElement, IsRequest}
use Rattle.mf_elem.specs.Elem.{is_plain}
use Rattle.mf_elem.specs.Label.{element_alone, is_plain_label, is_valid, replaced}
use Rattle.mf_elem.proofs.Valid.{is_valid_for}
use Rattle.mf_item.specs.declared.view.Kind.{Kind}
use Rattle.mf_item.specs.declared.view.Kind.TheVariants as kinds
use Rattle.mf_policy.specs.declared.modules.Labelling.{Labelling}
use Rattle.mf_policy.specs.declared.modules.Labelling.TheVariants.{Nothing, Ranges, Elements, Partitions}
use Rattle.mf_policy.specs.Modules.{facts_of, range_asked, number_asked, labels_by, labels_kind, is_named, takes, boot_by, boot_value, inherited_by, inherited, is_valid_value, may_ask, is_process_kind}
use Rattle.mf_policy.proofs.ByEntry.{has_no_range}
use Rattle.mf_policy.proofs.EachModule.{has_elements}
use Rattle.mf_lifetimes.specs.Laws.{holds_valid, suits_kind}
use Rattle.mf_lifetimes.proofs.Lasting.{IsLasting, SuitKinds, lasting_facts}
use Rattle.mf_objects.specs.Live.{is_set}

-- a valid label of the module, for that kind
abbrev pub IsValidOf : Module → Kind → LabelValue → Type 0
IsValidOf m kind value = holds_valid (facts_of m).labels kind value ≡ true

-- a valid label is set
pub valid_set : (labels : Labelling) (kind : Kind) (value : LabelValue) → holds_valid labels kind value ≡ true → is_set value ≡ true
valid_set Nothing kind value valid = cc
valid_set (Ranges process other) kind Unset valid = cc
valid_set (Ranges process other) kind (Range label) valid = refl
valid_set (Ranges process other) kind (Number n) valid = refl
valid_set (Elements element) kind Unset valid = cc
valid_set (Elements element) kind (Range label) valid = refl
valid_set (Elements element) kind (Number n) valid = refl
valid_set Partitions kind Unset valid = cc
valid_set Partitions kind (Range label) valid = refl
valid_set Partitions kind (Number n) valid = refl

-- Labels of elements alone

-- what is asked of a module whose labels are elements alone is an element without compartments and no range
pub plain_asked : (m : Module) (request : Request) (element : Elem) → IsRequest request → (facts_of m).labels ≡ Elements element
    → IfSome (range_asked m request) (λ label. is_plain_label label ≡ true)
plain_asked Lomac request element is same = one request.lomac is.lomac
  where
    one : (asked : Option Elem) → IfSome asked (λ e. IsElement e × (is_plain e ≡ true)) → IfSome (option_map element_alone asked) (λ label. is_plain_label label ≡ true)
    one None plain = tt
    one (Some e) plain = rw (plain.1) refl
plain_asked other request element is same = cc

-- and leaves a label as it was: an element without compartments and no range
pub plain_replaced : (label : RangeLabel) (asked : Option RangeLabel) → is_plain_label label ≡ true → IfSome asked (λ part. is_plain_label part ≡ true)
    → is_plain_label (replaced label asked) ≡ true
plain_replaced label None own plain = own
plain_replaced label (Some part) own plain = one label.effective part.effective label.range part.range own plain
  where
    one : (effective asked : Option Elem) (range asked_range : Option (Elem × Elem)) → (option_map_or is_plain effective false && is_none range) ≡ true
        → (option_map_or is_plain asked false && is_none asked_range) ≡ true
        → (option_map_or is_plain (option_or asked effective) false && is_none (option_or asked_range range)) ≡ true
    one effective None range asked_range own plain = cc
    one effective (Some e) None None own plain = plain
    one effective (Some e) (Some ends) None own plain = let none = (and_parts (option_map_or is_plain effective false) false own).1 in cc
    one effective (Some e) range (Some ends) own plain = let none = (and_parts (is_plain e) false plain).1 in cc

-- At boot

-- what is asked of a label without a range leaves it as such entities have it, where no range is asked
other_booted : (label : RangeLabel) (asked : Option RangeLabel) → suits_kind kinds.Vnode label ≡ true → has_no_range asked ≡ true
    → suits_kind kinds.Vnode (replaced label asked) ≡ true
other_booted label None suits none = suits
other_booted label (Some asked) suits none = one asked.effective label.effective asked.range label.range suits none
  where
    one : (effective own : Option Elem) (range own_range : Option (Elem × Elem)) → (is_some own && is_none own_range) ≡ true → is_none range ≡ true
        → (is_some (option_or effective own) && is_none (option_or range own_range)) ≡ true
    one None own None own_range suits none = suits
    one (Some e) own None own_range suits none = (and_parts (is_some own) (is_none own_range) suits).1
    one effective own (Some ends) own_range suits none = cc

-- a process keeps a range
process_booted : (label : RangeLabel) (asked : Option RangeLabel) → suits_kind kinds.Process label ≡ true → is_some (replaced label asked).range ≡ true
process_booted label None suits = (and_parts (is_valid label) (is_some label.range) suits).1
process_booted label (Some asked) suits = one asked.range label.range (and_parts (is_valid label) (is_some label.range) suits).1
  where
    one : (range own : Option (Elem × Elem)) → is_some own ≡ true → is_some (option_or range own) ≡ true
    one None own there = there
    one (Some given) own there = refl

-- labels that have elements are valid at boot, where a script may ask this of them
booted : (labels : Labelling) (kind : Kind) (asked : Option RangeLabel) (number : Option ℕ) → SuitKinds labels
    → ((element : Elem) → labels ≡ Elements element → IfSome asked (λ label. is_plain_label label ≡ true)) → (is_process_kind kind || has_no_range asked) ≡ true
    → is_valid_value (if labels_by labels kind then boot_by labels kind asked number else Unset) ≡ true
    → holds_valid labels kind (if labels_by labels kind then boot_by labels kind asked number else Unset) ≡ true
booted (Ranges process other) kinds.Process asked number suit plain may valid = rw valid (process_booted process asked suit.0)
booted (Ranges process other) kinds.Vnode asked number suit plain may valid = other_booted other asked suit.1 may
booted (Ranges process other) kinds.Pipe asked number suit plain may valid = other_booted other asked suit.1 may
booted (Ranges process other) kinds.Socket asked number suit plain may valid = other_booted other asked suit.1 may
booted (Elements element) kind asked number suit plain may valid =
    plain_replaced (element_alone element) asked (rw suit refl) (plain element refl)
booted labels kind asked number suit plain may valid = absurd suit

-- a policy that stays gives a valid label where a script may ask this of it
pub boot_valid : (m : Module) (kind : Kind) (request : Request) → IsLasting m → IsRequest request → may_ask m kind request ≡ true → IsValidOf m kind (boot_value m kind request)
boot_valid m kind request lasting spelled may =
    let both = and_parts (takes m kind request) (is_valid_value (boot_value m kind request)) may in
    let ranges = and_parts (labels_kind m kind || not (is_named m request)) (is_process_kind kind || has_no_range (range_asked m request)) both.0 in
    booted (facts_of m).labels kind (range_asked m request) (number_asked m request) (lasting_facts m lasting).suit
    (λ element same. plain_asked m request element spelled same) ranges.1 both.1

-- At creation

-- a process's label has an effective element
effective_there : (label : RangeLabel) → (is_valid label && is_some label.range) ≡ true → (is_some label.effective && true) ≡ true
effective_there label suits = one label.effective label.range suits
  where
    one : (effective : Option Elem) (range : Option (Elem × Elem)) → (is_valid_for effective range && is_some range) ≡ true → (is_some effective && true) ≡ true
    one None range valid = cc
    one (Some element) range valid = refl

-- what remains of a plain label without its range
plain_alone : (label : RangeLabel) → is_plain_label label ≡ true → (option_map_or is_plain label.effective false && true) ≡ true
plain_alone label plain = rw ((and_parts (option_map_or is_plain label.effective false) (is_none label.range) plain).0) refl

-- what is inherited of a process's valid label with an element is valid for the kind
pub created : (labels : Labelling) (kind : Kind) (value : LabelValue) → has_elements labels ≡ true → holds_valid labels kinds.Process value ≡ true
    → holds_valid labels kind (if labels_by labels kind then inherited_by labels kind value else Unset) ≡ true
created (Ranges process other) kind Unset elements valid = cc
created (Ranges process other) kind (Number n) elements valid = cc
created (Ranges process other) kinds.Process (Range label) elements valid = valid
created (Ranges process other) kinds.Vnode (Range label) elements valid = effective_there label valid
created (Ranges process other) kinds.Pipe (Range label) elements valid = effective_there label valid
created (Ranges process other) kinds.Socket (Range label) elements valid = effective_there label valid
created (Elements element) kind Unset elements valid = cc
created (Elements element) kind (Number n) elements valid = cc
created (Elements element) kinds.Process (Range label) elements valid = valid
created (Elements element) kinds.Vnode (Range label) elements valid = plain_alone label valid
created (Elements element) kinds.Pipe (Range label) elements valid = plain_alone label valid
created (Elements element) kinds.Socket (Range label) elements valid = plain_alone label valid
created labels kind value elements valid = cc

-- a policy that stays gives a valid label where the maker's is a process's
pub inherited_valid : (m : Module) (kind : Kind) (value : LabelValue) → IsLasting m → IsValidOf m kinds.Process value → IsValidOf m kind (inherited m kind value)
inherited_valid m kind value lasting valid = created (facts_of m).labels kind value lasting valid
