-- The label of an entity after a relabel: mac_biba(4), mac_mls(4) and mac_lomac(4) put the effective element and the range that are asked in the
-- place of their own.
-- That partition 0 changes nothing is the manner of FreeBSD's mac_partition; what becomes of an unset value is this model's own choice.
use Rattle.std.specs.Option.{option_map_or}
use Rattle.std.specs.Prelude.{ℕ, if◌then◌else◌, ◌==◌, List, [], ◌∷◌, map, slice_index_or, Option, Some, None, find}
use Rattle.mf_errno.specs.declared.module.Module.{Module}
use Rattle.mf_elem.specs.declared.label.RangeLabel.{RangeLabel}
use Rattle.mf_elem.specs.declared.label.LabelValue.{LabelValue}
use Rattle.mf_elem.specs.declared.label.LabelValue.TheVariants.{Unset, Range, Number}
use Rattle.mf_elem.specs.declared.label.Request.{Request}
use Rattle.mf_elem.specs.Label.{replaced}
use Rattle.mf_policy.specs.declared.modules.Labelling.{Labelling}
use Rattle.mf_policy.specs.declared.modules.Labelling.TheVariants.{Nothing, Ranges, Elements, Partitions}
use Rattle.mf_policy.specs.Answer.{range_label}
use Rattle.mf_policy.specs.Modules.{facts_of, range_asked, number_asked}
use Rattle.mf_policy.specs.Registration.{Entry, holds_slot}

-- with the parts that are asked in place; of a value that is no such label they are all that there is
abbrev pub range_after : Option RangeLabel → LabelValue → LabelValue
range_after None value = value
range_after (Some asked) value = Range (replaced (range_label value) (Some asked))

-- the partition that is asked, where it isn't 0
abbrev pub number_after : Option ℕ → LabelValue → LabelValue
number_after None value = value
number_after (Some n) value = if n == 0 then value else Number n

abbrev pub after_by : Labelling → Option RangeLabel → Option ℕ → LabelValue → LabelValue
after_by Nothing range number value = value
after_by (Ranges process other) range number value = range_after range value
after_by (Elements element) range number value = range_after range value
after_by Partitions range number value = number_after number value

-- what a module makes of the value in its slot
abbrev pub value_after : Module → Request → LabelValue → LabelValue
value_after m request value = after_by (facts_of m).labels (range_asked m request) (number_asked m request) value

-- the value in a slot: from the listed policy that holds the slot, and as before where none does
abbrev pub relabelled_value : List Entry → Request → List LabelValue → ℕ → LabelValue
relabelled_value listed request label slot =
    let value = slice_index_or label slot Unset in
    option_map_or (λ entry. value_after entry.0.module request value) (find (holds_slot slot) listed) value

-- the label after a relabel, while these policies are listed
abbrev pub relabelled : List Entry → Request → List LabelValue → List LabelValue
relabelled listed request label = map (relabelled_value listed request label) (0 ∷ 1 ∷ 2 ∷ 3 ∷ [])
