-- What contracts see of the lists of policies and of the catalogue, which is this model's own: the entries of each list, and the modules of the
-- catalogue. In walk order the static list comes before the dynamic one.
use Rattle.std.specs.Prelude.{◌≡◌, ℕ, ◌<◌, Bool, true, false, List, Option, Some, None}
use Rattle.std.specs.List.{list_any}
use Rattle.mf_elem.specs.declared.label.TheConstants.{SLOTS}
use Rattle.mf_errno.specs.Same.{same_module}
use Rattle.mf_errno.specs.declared.module.Module.{Module}
use Rattle.mf_policy.specs.Modules.{facts_of, module_of, wants_slot}
use Rattle.mf_policy.specs.Registration.{Entry}

-- the policy stands in the static list: its module lacks UNLOADOK
abbrev pub IsPinned : Entry → Type 0
IsPinned entry = (entry.0.fixed ≡ true) × ((facts_of entry.0.module).unload_ok ≡ false)

-- the policy stands in the dynamic list: its module has UNLOADOK
abbrev pub MayLeave : Entry → Type 0
MayLeave entry = (entry.0.fixed ≡ false) × ((facts_of entry.0.module).unload_ok ≡ true)

-- there is a number of a label slot exactly where one is wanted
abbrev pub HasSlot : Bool → Option ℕ → Type 0
HasSlot true (Some slot) = slot < SLOTS
HasSlot true None = ⊥
HasSlot false (Some slot) = ⊥
HasSlot false None = Unit {0}

-- the spec is of the module that is registered, and the slot is one that it wants
pub record IsEntry (entry : Entry) : Type 0 where
  pub module_is : module_of entry.1 ≡ entry.0.module
  pub has_slot : HasSlot (wants_slot entry.0.module) entry.0.slot

-- whether the module is in the catalogue
abbrev pub in_catalogue : Module → List Module → Bool
in_catalogue m modules = list_any (same_module m) modules
