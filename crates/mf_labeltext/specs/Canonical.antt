-- The canonical text of labels: one of the texts of maclabel(7) for each label. Which one is this model's own.
use Rattle.std.specs.Prelude.{ℕ, List, [], ◌∷◌, ◌++◌, Option, map, filter, codes, ◌==◌, if◌then◌else◌}
use Rattle.std.specs.List.{join_with_byte}
use Rattle.std.specs.Option.{option_map_or}
use Rattle.std.specs.Fmt.{decimal}
use Rattle.std.specs.Str.{byte}
use Rattle.mf_errno.specs.Names.{policy_text}
use Rattle.mf_errno.specs.Same.{same_module}
use Rattle.mf_errno.specs.declared.module.Module.{Module}
use Rattle.mf_errno.specs.declared.module.Module.TheVariants.{Biba, Mls, Lomac, Partition}
use Rattle.mf_elem.specs.Comps.{rising}
use Rattle.mf_elem.specs.declared.elem.Elem.{Elem}
use Rattle.mf_elem.specs.declared.elem.Elem.TheVariants.{Low, High, Equal, Grade}
use Rattle.mf_elem.specs.declared.label.RangeLabel.{RangeLabel}
use Rattle.mf_elem.specs.declared.label.LabelValue.{LabelValue}
use Rattle.mf_elem.specs.declared.label.LabelValue.TheVariants.{Unset, Range, Number}

-- a colon and the compartments with a plus between each two; nothing where there are none
abbrev pub comps_text : List ℕ → List ℕ
comps_text [] = []
comps_text (n ∷ ns) = byte ":" ∷ join_with_byte (byte "+") (map decimal (n ∷ ns))

abbrev pub elem_text : Elem → List ℕ
elem_text Low = codes "low"
elem_text High = codes "high"
elem_text Equal = codes "equal"
elem_text (Grade grade comps) = decimal grade ++ comps_text (rising comps)

abbrev pub range_text : Option (Elem × Elem) → List ℕ
range_text range = option_map_or (λ ends. byte "(" ∷ elem_text ends.0 ++ (byte "-" ∷ elem_text ends.1 ++ byte ")" ∷ [])) range []

abbrev pub label_text : RangeLabel → List ℕ
label_text label = option_map_or elem_text label.effective [] ++ range_text label.range

-- an Unset partition is none
abbrev pub value_text : LabelValue → List ℕ
value_text Unset = codes "none"
value_text (Range label) = label_text label
value_text (Number n) = if n == 0 then codes "none" else decimal n

-- the policy, a slash and the value
abbrev pub element_text : Module × LabelValue → List ℕ
element_text part = policy_text part.0 ++ byte "/" ∷ value_text part.1

-- the parts of one policy
abbrev pub parts_of : Module → List (Module × LabelValue) → List (Module × LabelValue)
parts_of policy parts = filter (λ part. same_module policy part.0) parts

unfoldable pub in_order : List (Module × LabelValue) → List (Module × LabelValue)
in_order parts = parts_of Biba parts ++ parts_of Mls parts ++ parts_of Lomac parts ++ parts_of Partition parts

-- the elements with a comma between each two; where there are none, a dash
abbrev pub elements_text : List (List ℕ) → List ℕ
elements_text [] = codes "-"
elements_text (element ∷ elements) = join_with_byte (byte ",") (element ∷ elements)

unfoldable pub canonical_label : List (Module × LabelValue) → List ℕ
canonical_label parts = elements_text (map element_text (in_order parts))
