-- What a policy puts into its slot fits its labelling: at boot, of a new entity's maker, and by a relabel.
use Rattle.std.specs.Option.{option_map_or, option_or}
use Rattle.std.proofs.Common.{◌≡◌, ℕ, ◌≤◌, Bool, true, false, cond, ◌&&◌, if◌then◌else◌, nat_eq, Option, Some, None, refl, arith}
use Rattle.std.proofs.lemmas.Bool.{and_from, and_parts}
use Rattle.std.specs.Prelude.{IfSome, is_none, is_some, option_map, unwrap_or}
use Rattle.mf_errno.specs.declared.module.Module.{Module}
use Rattle.mf_errno.specs.declared.module.Module.TheVariants.{Lomac}
use Rattle.mf_errno.proofs.Modules.{each_passes}
use Rattle.mf_elem.specs.Bounds.{IsAskedLabel, IsElement, IsRequest}
use Rattle.mf_elem.specs.declared.elem.Elem.{Elem}
use Rattle.mf_elem.specs.declared.elem.Elem.TheVariants.{Low, High, Equal, Grade}
use Rattle.mf_elem.specs.declared.label.LabelValue.{LabelValue}
use Rattle.mf_elem.specs.declared.label.LabelValue.TheVariants.{Unset, Range, Number}
use Rattle.mf_elem.specs.declared.label.RangeLabel.{RangeLabel}
use Rattle.mf_elem.specs.declared.label.Request.{Request}
use Rattle.mf_elem.specs.declared.label.TheConstants.{LAST_PARTITION}
use Rattle.mf_elem.specs.Elem.{is_plain}
use Rattle.mf_elem.specs.Label.{element_alone, is_plain_label, replaced}
use Rattle.mf_item.specs.declared.view.Kind.{Kind}
use Rattle.mf_item.specs.declared.view.Kind.TheVariants as kinds
use Rattle.mf_policy.specs.declared.modules.Labelling.{Labelling}
use Rattle.mf_policy.specs.declared.modules.Labelling.TheVariants.{Nothing, Ranges, Elements, Partitions}
use Rattle.mf_policy.specs.Modules.{boot_by, boot_value, default_range, facts_of, has_partition, inherited, inherited_by, labels_by, number_asked, partition_of, range_asked}
use Rattle.mf_policy.specs.Relabelled.{after_by, value_after}
use Rattle.mf_policy.proofs.EachModule.{number_spelled, range_spelled}
use Rattle.mf_reading.proofs.Bounded.{FitsLabelling, IsWhole}

-- Labels with ranges

some_or : (a b : Option Elem) → is_some b ≡ true → is_some (option_or a b) ≡ true
some_or None b there = there
some_or (Some a) b there = refl

either : {A : Type 0} (P : A → Type 0) (a b : Option A) → IfSome a P → IfSome b P → IfSome (option_or a b) P
either P None b first second = second
either P (Some a) b first second = first

-- with what is asked in the place of its parts
replaced_whole : (label : RangeLabel) (asked : Option RangeLabel) → IsWhole label → IfSome asked IsAskedLabel → IsWhole (replaced label asked)
replaced_whole label None whole fits = whole
replaced_whole label (Some asked) whole fits = record {
  effective = either IsElement asked.effective label.effective fits.effective whole.effective;
  range = either (λ (ends : Elem × Elem). IsElement ends.0 × IsElement ends.1) asked.range label.range fits.range whole.range;
  there = some_or asked.effective label.effective whole.there;
}

-- Labels of elements

-- what is asked of such a policy is an element without compartments, and no range
abbrev PlainAsked : Labelling → Option RangeLabel → Type 0
PlainAsked (Elements element) asked = IfSome asked (λ label. is_plain_label label ≡ true)
PlainAsked other asked = Unit {0}

plain_spelled : (m : Module) (request : Request) → IsRequest request → PlainAsked (facts_of m).labels (range_asked m request)
plain_spelled Lomac request is = one request.lomac is.lomac
  where
    one : (asked : Option Elem) → IfSome asked (λ element. IsElement element × (is_plain element ≡ true))
        → IfSome (option_map element_alone asked) (λ label. is_plain_label label ≡ true)
    one None plain = tt
    one (Some element) plain = and_from (is_plain element) true plain.1 refl
plain_spelled other request is = tt

-- with what is asked in the place of its parts
replaced_plain : (label : RangeLabel) (asked : Option RangeLabel) → is_plain_label label ≡ true → IfSome asked (λ label. is_plain_label label ≡ true)
    → is_plain_label (replaced label asked) ≡ true
replaced_plain label None own plain = own
replaced_plain label (Some asked) own plain = by_parts asked.effective asked.range plain
  where
    by_parts : (effective : Option Elem) (range : Option (Elem × Elem)) → option_map_or is_plain effective false && is_none range ≡ true
        → option_map_or is_plain (option_or effective label.effective) false && is_none (option_or range label.range) ≡ true
    by_parts None range plain = cc
    by_parts (Some element) (Some ends) plain = let never : false ≡ true = (and_parts (is_plain element) false plain).1 in cc
    by_parts (Some element) None plain =
        and_from (is_plain element) (is_none label.range) (and_parts (is_plain element) true plain).0
        (and_parts (option_map_or is_plain label.effective false) (is_none label.range) own).1

-- At boot

-- whether the element has a name, and so no grade
is_named_element : Elem → Bool
is_named_element (Grade grade comps) = false
is_named_element other = true

is_named_label : RangeLabel → Bool
is_named_label label =
    is_some label.effective && option_map_or is_named_element label.effective true
    && option_map_or (λ (ends : Elem × Elem). is_named_element ends.0 && is_named_element ends.1) label.range true

element_named : (element : Elem) → is_named_element element ≡ true → IsElement element
unfolding is_named_element
element_named (Grade grade comps) named = cc
element_named Low named = tt
element_named High named = tt
element_named Equal named = tt

named_plain : (element : Elem) → is_named_element element ≡ true → is_plain element ≡ true
unfolding is_named_element
named_plain (Grade grade comps) named = cc
named_plain other named = refl

label_named : (label : RangeLabel) → is_named_label label ≡ true → IsWhole label
unfolding is_named_label
label_named label named =
    let all = and_parts (is_some label.effective && option_map_or is_named_element label.effective true) _ named in
    let effective = and_parts (is_some label.effective) (option_map_or is_named_element label.effective true) all.0 in
    record { effective = one label.effective effective.1; range = ends label.range all.1; there = effective.0 }
  where
    one : (element : Option Elem) → option_map_or is_named_element element true ≡ true → IfSome element IsElement
    one None named = tt
    one (Some element) named = element_named element named

    ends : (range : Option (Elem × Elem)) → option_map_or (λ (ends : Elem × Elem). is_named_element ends.0 && is_named_element ends.1) range true ≡ true
        → IfSome range (λ ends. IsElement ends.0 × IsElement ends.1)
    ends None named = tt
    ends (Some range) named =
        let both = and_parts (is_named_element range.0) (is_named_element range.1) named in
        (element_named range.0 both.0, element_named range.1 both.1)

-- the labels at boot have no grades
are_named : Labelling → Bool
are_named (Ranges process other) = is_named_label process && is_named_label other
are_named (Elements element) = is_named_element element
are_named other = true

all_named : (m : Module) → are_named (facts_of m).labels ≡ true
unfolding are_named is_named_label is_named_element
all_named = each_passes (λ m. are_named (facts_of m).labels) refl

booted_fits : (labels : Labelling) (kind : Kind) (range : Option RangeLabel) (number : Option ℕ) → are_named labels ≡ true → IfSome range IsAskedLabel → PlainAsked labels range
    → IfSome number (λ n. n ≤ LAST_PARTITION) → FitsLabelling labels (if labels_by labels kind then boot_by labels kind range number else Unset)
unfolding are_named
booted_fits Nothing kind range number named fits plain few = tt
booted_fits (Ranges process other) kind range number named fits plain few =
    let both = and_parts (is_named_label process) (is_named_label other) named in
    replaced_whole (default_range kind process other) range (by_kind kind (label_named process both.0) (label_named other both.1)) fits
  where
    by_kind : (kind : Kind) → IsWhole process → IsWhole other → IsWhole (default_range kind process other)
    by_kind kinds.Process one rest = one
    by_kind kinds.Vnode one rest = rest
    by_kind kinds.Pipe one rest = rest
    by_kind kinds.Socket one rest = rest
booted_fits (Elements element) kind range number named fits plain few = (
  replaced_whole (element_alone element) range (record { effective = element_named element named; range = tt; there = refl }) fits,
  replaced_plain (element_alone element) range (and_from (is_plain element) true (named_plain element named) refl) plain,
)
booted_fits Partitions kind range number named fits plain few = by_test (has_partition kind)
  where
    by_number : (number : Option ℕ) → IfSome number (λ n. n ≤ LAST_PARTITION) → unwrap_or number 0 ≤ LAST_PARTITION
    by_number None few = omega arith
    by_number (Some n) few = few

    by_test : (b : Bool) → FitsLabelling Partitions (if b then Number (unwrap_or number 0) else Unset)
    by_test true = by_number number few
    by_test false = tt

pub boot_fits : (m : Module) (kind : Kind) (request : Request) → IsRequest request → FitsLabelling (facts_of m).labels (boot_value m kind request)
boot_fits m kind request is =
    booted_fits (facts_of m).labels kind (range_asked m request) (number_asked m request) (all_named m) (range_spelled m request is) (plain_spelled m request is) (number_spelled m request is)

-- At creation

-- without the range
alone_whole : (label : RangeLabel) → IsWhole label → IsWhole (record label { range = None })
alone_whole label whole = record { effective = whole.effective; range = tt; there = whole.there }

alone_plain : (label : RangeLabel) → is_plain_label label ≡ true → is_plain_label (record label { range = None }) ≡ true
alone_plain label plain =
    and_from (option_map_or is_plain label.effective false) true (and_parts (option_map_or is_plain label.effective false) (is_none label.range) plain).0 refl

created_fits : (labels : Labelling) (kind : Kind) (value : LabelValue) → FitsLabelling labels value
    → FitsLabelling labels (if labels_by labels kind then inherited_by labels kind value else Unset)
created_fits Nothing kind value fits = tt
created_fits (Ranges process other) kind Unset fits = absurd fits
created_fits (Ranges process other) kind (Number n) fits = absurd fits
created_fits (Ranges process other) kinds.Process (Range label) fits = fits
created_fits (Ranges process other) kinds.Vnode (Range label) fits = alone_whole label fits
created_fits (Ranges process other) kinds.Pipe (Range label) fits = alone_whole label fits
created_fits (Ranges process other) kinds.Socket (Range label) fits = alone_whole label fits
created_fits (Elements element) kind Unset fits = absurd fits
created_fits (Elements element) kind (Number n) fits = absurd fits
created_fits (Elements element) kinds.Process (Range label) fits = fits
created_fits (Elements element) kinds.Vnode (Range label) fits = (alone_whole label fits.0, alone_plain label fits.1)
created_fits (Elements element) kinds.Pipe (Range label) fits = (alone_whole label fits.0, alone_plain label fits.1)
created_fits (Elements element) kinds.Socket (Range label) fits = (alone_whole label fits.0, alone_plain label fits.1)
created_fits Partitions kind value fits = by_test (has_partition kind)
  where
    by_value : (value : LabelValue) → FitsLabelling Partitions value → FitsLabelling Partitions (Number (partition_of value))
    by_value Unset fits = omega arith
    by_value (Range label) fits = absurd fits
    by_value (Number n) fits = fits

    by_test : (b : Bool) → FitsLabelling Partitions (if b then Number (partition_of value) else Unset)
    by_test true = by_value value fits
    by_test false = tt

pub inherited_fits : (m : Module) (kind : Kind) (value : LabelValue) → FitsLabelling (facts_of m).labels value → FitsLabelling (facts_of m).labels (inherited m kind value)
inherited_fits m kind value fits = created_fits (facts_of m).labels kind value fits

-- By a relabel

after_fits : (labels : Labelling) (range : Option RangeLabel) (number : Option ℕ) (value : LabelValue) → IfSome range IsAskedLabel → PlainAsked labels range
    → IfSome number (λ n. n ≤ LAST_PARTITION) → FitsLabelling labels value → FitsLabelling labels (after_by labels range number value)
after_fits Nothing range number value is plain few fits = fits
after_fits (Ranges process other) None number value is plain few fits = fits
after_fits (Ranges process other) (Some asked) number Unset is plain few fits = absurd fits
after_fits (Ranges process other) (Some asked) number (Range label) is plain few fits = replaced_whole label (Some asked) fits is
after_fits (Ranges process other) (Some asked) number (Number n) is plain few fits = absurd fits
after_fits (Elements element) None number value is plain few fits = fits
after_fits (Elements element) (Some asked) number Unset is plain few fits = absurd fits
after_fits (Elements element) (Some asked) number (Range label) is plain few fits =
    (replaced_whole label (Some asked) fits.0 is, replaced_plain label (Some asked) fits.1 plain)
after_fits (Elements element) (Some asked) number (Number n) is plain few fits = absurd fits
after_fits Partitions range None value is plain few fits = fits
after_fits Partitions range (Some n) value is plain few fits = one (nat_eq n 0)
  where
    one : (b : Bool) → FitsLabelling Partitions (cond b value (Number n))
    one true = fits
    one false = few

pub relabelled_fits : (m : Module) (request : Request) (value : LabelValue) → IsRequest request → FitsLabelling (facts_of m).labels value
    → FitsLabelling (facts_of m).labels (value_after m request value)
relabelled_fits m request value is fits =
    after_fits (facts_of m).labels (range_asked m request) (number_asked m request) value (range_spelled m request is) (plain_spelled m request is) (number_spelled m request is) fits
