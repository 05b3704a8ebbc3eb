-- The label of a new entity, at boot and at creation, as mac_biba(4), mac_mls(4) and mac_lomac(4) have it; that pipes, sockets and files have the maker's
-- effective element alone is the manner of FreeBSD's modules.
use Rattle.std.specs.Option.{option_map_or}
use Rattle.std.specs.Prelude.{ℕ, List, [], ◌∷◌, map, slice_index_or, find}
use Rattle.mf_errno.specs.declared.module.Module.{Module}
use Rattle.mf_elem.specs.declared.label.LabelValue.{LabelValue}
use Rattle.mf_elem.specs.declared.label.LabelValue.TheVariants.{Unset}
use Rattle.mf_item.specs.declared.view.Kind.{Kind}
use Rattle.mf_policy.specs.declared.labels.Origin.{Origin}
use Rattle.mf_policy.specs.declared.labels.Origin.TheVariants.{Boot, Maker}
use Rattle.mf_policy.specs.Modules.{boot_value, inherited}
use Rattle.mf_policy.specs.Registration.{Entry, holds_slot}

-- what a module whose slot this is gives a new entity
abbrev pub value_by : Module → Kind → Origin → ℕ → LabelValue
value_by m kind (Boot request) slot = boot_value m kind request
value_by m kind (Maker label) slot = inherited m kind (slice_index_or label slot Unset)

-- the value in a slot: from the listed policy that holds the slot, and unset where none does
abbrev pub new_value : List Entry → Kind → Origin → ℕ → LabelValue
new_value listed kind origin slot = option_map_or (λ entry. value_by entry.0.module kind origin slot) (find (holds_slot slot) listed) Unset

-- the label of a new entity of that kind, while these policies are listed
abbrev pub new_label : List Entry → Kind → Origin → List LabelValue
new_label listed kind origin = map (new_value listed kind origin) (0 ∷ 1 ∷ 2 ∷ 3 ∷ [])
