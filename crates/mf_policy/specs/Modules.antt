-- What is true of each module whatever its settings, and its spec in its initial state. When a module may be loaded is mac(4)'s table, and the
-- labels at boot are those of mac_biba(4), mac_mls(4) and mac_lomac(4). That mac_biba begins without
-- revocation is mac_biba(4)'s, and that mac_bsdextended begins with first match is mac_bsdextended(4)'s; so with mac_seeotheruids(4) and
-- mac_portacl(4).
use Rattle.std.specs.Option.{option_map_or}
use Rattle.std.specs.Prelude.{ℕ, Bool, true, false, not, ◌&&◌, ◌||◌, if◌then◌else◌, [], Option, Some, None, is_none, is_some, option_map, replicate, unwrap_or}
use Rattle.mf_errno.specs.declared.module.Module.{Module}
use Rattle.mf_errno.specs.declared.module.Module.TheVariants as modules
use Rattle.mf_elem.specs.declared.elem.Elem.{Elem}
use Rattle.mf_elem.specs.declared.elem.Elem.TheVariants.{Low, High}
use Rattle.mf_elem.specs.declared.label.RangeLabel.{RangeLabel}
use Rattle.mf_elem.specs.declared.label.LabelValue.{LabelValue}
use Rattle.mf_elem.specs.declared.label.LabelValue.TheVariants.{Unset, Range, Number}
use Rattle.mf_elem.specs.declared.label.Request.{Request}
use Rattle.mf_elem.specs.Label.{element_alone, is_valid, replaced}
use Rattle.mf_item.specs.declared.view.Kind.{Kind}
use Rattle.mf_item.specs.declared.view.Kind.TheVariants as kinds
use Rattle.mf_rule.specs.declared.rule_list.TheConstants.{MAX_RULES}
use Rattle.mf_policy.specs.declared.modules.Facts.{Facts}
use Rattle.mf_policy.specs.declared.modules.Labelling.{Labelling}
use Rattle.mf_policy.specs.declared.modules.Labelling.TheVariants.{Nothing, Ranges, Elements, Partitions}
use Rattle.mf_policy.specs.declared.spec.Spec.{Spec}
use Rattle.mf_policy.specs.declared.spec.Spec.TheVariants as means

-- The table

-- the labels at boot of a policy with ranges, by its default element: of a process, with the range low to high, and of another entity
abbrev pub ranges_at : Elem → Labelling
ranges_at element =
    Ranges (record { effective = Some element; range = Some (Low, High) }) (record { effective = Some element; range = None })

-- Of each module: when it may be loaded and unloaded, and what its labels are, with those at boot: biba/high(low-high) of a process and
-- biba/high of another entity, mls/low(low-high) and mls/low, and lomac/high.
abbrev pub facts_of : Module → Facts
facts_of modules.Biba = record { not_late = true; unload_ok = false; labels = ranges_at High }
facts_of modules.Mls = record { not_late = true; unload_ok = false; labels = ranges_at Low }
facts_of modules.Lomac = record { not_late = true; unload_ok = false; labels = Elements High }
facts_of modules.Partition = record { not_late = false; unload_ok = true; labels = Partitions }
facts_of modules.Bsdextended = record { not_late = false; unload_ok = true; labels = Nothing }
facts_of modules.Priority = record { not_late = false; unload_ok = true; labels = Nothing }
facts_of modules.Seeotheruids = record { not_late = false; unload_ok = true; labels = Nothing }
facts_of modules.Portacl = record { not_late = false; unload_ok = true; labels = Nothing }

-- the label that a request asks of a module whose labels have elements
abbrev pub range_asked : Module → Request → Option RangeLabel
range_asked modules.Biba request = request.biba
range_asked modules.Mls request = request.mls
range_asked modules.Lomac request = option_map element_alone request.lomac
range_asked other request = None

-- the partition that a request asks of a module
abbrev pub number_asked : Module → Request → Option ℕ
number_asked modules.Partition request = request.partition
number_asked other request = None

-- the module of a spec
abbrev pub module_of : Spec → Module
module_of (means.Biba revocation) = modules.Biba
module_of means.Mls = modules.Mls
module_of means.Lomac = modules.Lomac
module_of means.Partition = modules.Partition
module_of (means.Bsdextended rules first) = modules.Bsdextended
module_of means.Priority = modules.Priority
module_of (means.Seeotheruids primarygroup specific gid suser) = modules.Seeotheruids
module_of (means.Portacl rules port_high suser autoport) = modules.Portacl

-- the spec of a module in its initial state
abbrev pub fresh_of : Module → Spec
fresh_of modules.Biba = means.Biba false
fresh_of modules.Mls = means.Mls
fresh_of modules.Lomac = means.Lomac
fresh_of modules.Partition = means.Partition
fresh_of modules.Bsdextended = means.Bsdextended (replicate MAX_RULES None) true
fresh_of modules.Priority = means.Priority
fresh_of modules.Seeotheruids = means.Seeotheruids false false 0 true
fresh_of modules.Portacl = means.Portacl [] 1023 true true

-- What follows from it

abbrev pub is_labelling : Labelling → Bool
is_labelling Nothing = false
is_labelling other = true

-- whether a module labels entities, and so has a label slot
abbrev pub wants_slot : Module → Bool
wants_slot m = is_labelling (facts_of m).labels

abbrev pub has_partition : Kind → Bool
has_partition kinds.Vnode = false
has_partition kinds.Pipe = false
has_partition other = true

abbrev pub labels_by : Labelling → Kind → Bool
labels_by Nothing kind = false
labels_by (Ranges process other) kind = true
labels_by (Elements element) kind = true
labels_by Partitions kind = has_partition kind

abbrev pub labels_kind : Module → Kind → Bool
labels_kind m kind = labels_by (facts_of m).labels kind

abbrev pub is_process_kind : Kind → Bool
is_process_kind kinds.Process = true
is_process_kind other = false

abbrev pub is_named : Module → Request → Bool
is_named m request = is_some (range_asked m request) || is_some (number_asked m request)

-- whether the module's policy takes what a request asks of it for an entity of that kind: it labels the kind, and a range is a
-- process's alone
abbrev pub takes : Module → Kind → Request → Bool
takes m kind request =
    (labels_kind m kind || not (is_named m request)) && (is_process_kind kind || option_map_or (λ asked. is_none asked.range) (range_asked m request) true)

-- A new entity's label

abbrev pub default_range : Kind → RangeLabel → RangeLabel → RangeLabel
default_range kinds.Process process other = process
default_range kind process other = other

-- what such labels are at boot, where these are asked
abbrev pub boot_by : Labelling → Kind → Option RangeLabel → Option ℕ → LabelValue
boot_by Nothing kind range number = Unset
boot_by (Ranges process other) kind range number = Range (replaced (default_range kind process other) range)
boot_by (Elements element) kind range number = Range (replaced (element_alone element) range)
boot_by Partitions kind range number = Number (unwrap_or number 0)

-- what a module gives an entity of that kind at boot: what is asked of it, and its default for the rest
abbrev pub boot_value : Module → Kind → Request → LabelValue
boot_value m kind request =
    if labels_kind m kind then boot_by (facts_of m).labels kind (range_asked m request) (number_asked m request) else Unset

-- A child process has its maker's whole element and range; another entity has the maker's effective element alone.
abbrev pub inherited_range : Kind → LabelValue → LabelValue
inherited_range kinds.Process value = value
inherited_range other (Range label) = Range (record label { range = None })
inherited_range other value = value

-- the number of the partition that a slot is read as; 0, which is no partition, where it holds none
abbrev pub partition_of : LabelValue → ℕ
partition_of (Number partition) = partition
partition_of other = 0

abbrev pub inherited_by : Labelling → Kind → LabelValue → LabelValue
inherited_by Nothing kind value = Unset
inherited_by (Ranges process other) kind value = inherited_range kind value
inherited_by (Elements element) kind value = inherited_range kind value
inherited_by Partitions kind value = Number (partition_of value)

-- what a module gives a created entity of that kind, where this is its maker's
abbrev pub inherited : Module → Kind → LabelValue → LabelValue
inherited m kind value = if labels_kind m kind then inherited_by (facts_of m).labels kind value else Unset

abbrev pub is_valid_value : LabelValue → Bool
is_valid_value (Range label) = is_valid label
is_valid_value other = true

-- whether a script may ask this of the module's policy for an entity of that kind
abbrev pub may_ask : Module → Kind → Request → Bool
may_ask m kind request = takes m kind request && is_valid_value (boot_value m kind request)
