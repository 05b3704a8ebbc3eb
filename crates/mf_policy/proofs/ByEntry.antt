-- What is said of the entry that is found in a list, and of what is asked, by whether there is one.
use Rattle.std.specs.Option.{option_map_or}
use Rattle.std.specs.Prelude.{ℕ, Bool, true, List, Option, is_none}
use Rattle.mf_errno.specs.declared.module.Module.{Module}
use Rattle.mf_elem.specs.declared.label.LabelValue.{LabelValue}
use Rattle.mf_elem.specs.declared.label.LabelValue.TheVariants.{Unset}
use Rattle.mf_elem.specs.declared.label.RangeLabel.{RangeLabel}
use Rattle.mf_elem.specs.declared.label.Request.{Request}
use Rattle.mf_item.specs.declared.view.Kind.{Kind}
use Rattle.mf_policy.specs.declared.labels.Origin.{Origin}
use Rattle.mf_policy.specs.declared.settings.Change.{Change}
use Rattle.mf_policy.specs.declared.settings.Changed.{Changed}
use Rattle.mf_policy.specs.NewLabels.{value_by}
use Rattle.mf_policy.specs.Registration.{Entry}
use Rattle.mf_policy.specs.Relabelled.{value_after}
use Rattle.mf_policy.specs.Settings.{change_of, no_setting, with_spec}

-- the value in the slot of a new entity, where this entry holds the slot
abbrev pub given_by : Option Entry → Kind → Origin → ℕ → LabelValue
given_by entry kind origin slot = option_map_or (λ entry. value_by entry.0.module kind origin slot) entry Unset

-- the value after a relabel, where this entry holds the slot
abbrev pub relabelled_by : Option Entry → Request → LabelValue → LabelValue
relabelled_by entry request value = option_map_or (λ entry. value_after entry.0.module request value) entry value

-- the answer to a change, and the list after it, where this is the module's entry
abbrev pub change_at : Module → Change → List Entry → Option Entry → Changed × List Entry
change_at m change entries entry =
    option_map_or (λ entry. ((change_of entry.1 change).0, with_spec m (change_of entry.1 change).1 entries)) entry (no_setting, entries)

-- whether what is asked has no range
abbrev pub has_no_range : Option RangeLabel → Bool
has_no_range asked = option_map_or (λ asked. is_none asked.range) asked true
