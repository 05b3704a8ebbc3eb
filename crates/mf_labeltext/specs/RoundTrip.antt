-- The canonical text of the parts of a label asks for just these parts.
use Rattle.std.specs.Prelude.{◌≡◌, ◌≢◌, ℕ, ◌≤◌, List, [], ◌∷◌, length, Option, Some, None, true, false, if◌then◌else◌, option_and_then}
use Rattle.std.specs.List.{AllByRecursion}
use Rattle.mf_errno.specs.Same.{same_module}
use Rattle.mf_errno.specs.declared.module.Module.{Module}
use Rattle.mf_errno.specs.declared.module.Module.TheVariants.{Biba, Mls, Lomac, Partition}
use Rattle.mf_elem.specs.Bounds.{IsAskedLabel}
use Rattle.mf_elem.specs.Label.{is_plain_label}
use Rattle.mf_elem.specs.declared.elem.Elem.{Elem}
use Rattle.mf_elem.specs.declared.label.TheConstants.{LAST_PARTITION}
use Rattle.mf_elem.specs.declared.label.RangeLabel.{RangeLabel}
use Rattle.mf_elem.specs.declared.label.LabelValue.{LabelValue}
use Rattle.mf_elem.specs.declared.label.LabelValue.TheVariants.{Unset, Range, Number}
use Rattle.mf_elem.specs.declared.label.Request.{Request}
use Rattle.mf_labeltext.specs.LabelGrammar.{SpellsRequest}
use Rattle.mf_labeltext.specs.Canonical.{parts_of, canonical_label}

-- ---- what parts ask for
abbrev pub value_among : Module → List (Module × LabelValue) → Option LabelValue
value_among policy [] = None
value_among policy (part ∷ parts) = if same_module policy part.0 then Some part.1 else value_among policy parts

abbrev pub range_from : Option LabelValue → Option RangeLabel
range_from (Some (Range label)) = Some label
range_from other = None

abbrev pub element_from : Option LabelValue → Option Elem
element_from value = option_and_then (λ label. label.effective) (range_from value)

-- an Unset partition is 0
abbrev pub number_from : Option LabelValue → Option ℕ
number_from (Some Unset) = Some 0
number_from (Some (Number n)) = Some n
number_from other = None

abbrev pub request_from : List (Module × LabelValue) → Request
request_from parts =
    record {
      biba = range_from (value_among Biba parts);
      mls = range_from (value_among Mls parts);
      lomac = element_from (value_among Lomac parts);
      partition = number_from (value_among Partition parts);
      other = false;
    }

-- ---- which parts a label may have
-- a label, an element or a partition that a label text can ask for; an Unset partition is 0
abbrev pub IsValueOf : Module → LabelValue → Type 0
IsValueOf Biba (Range label) = IsAskedLabel label
IsValueOf Mls (Range label) = IsAskedLabel label
IsValueOf Lomac (Range label) = IsAskedLabel label × (is_plain_label label ≡ true)
IsValueOf Partition Unset = Unit {0}
IsValueOf Partition (Number n) = n ≤ LAST_PARTITION
IsValueOf policy value = ⊥

abbrev pub IsPart : Module × LabelValue → Type 0
IsPart part = IsValueOf part.0 part.1

-- parts of different policies
pub record AreParts (parts : List (Module × LabelValue)) : Type 0 where
  pub each : AllByRecursion IsPart parts
  pub once : (policy : Module) → length (parts_of policy parts) ≤ 1

-- The canonical text of one or more parts asks for just these parts.
abbrev pub CanonicalTextSpellsItsParts : Type 0
CanonicalTextSpellsItsParts = (parts : List (Module × LabelValue)) → AreParts parts → parts ≢ [] → SpellsRequest (canonical_label parts) (request_from parts)
