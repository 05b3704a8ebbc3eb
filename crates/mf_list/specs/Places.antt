-- Where a module stands in a list and in the catalogue.
use Rattle.std.specs.Prelude.{◌≡◌, ℕ, ◌<◌, true, false, Some, None, List, find, length, slice_index_or, slice_set}
use Rattle.std.specs.List.{remove}
use Rattle.mf_errno.specs.declared.module.Module.{Module}
use Rattle.mf_policy.specs.Registration.{Entry, is_listed, is_of}
use Rattle.mf_list.specs.Lists.{in_catalogue}
use Rattle.mf_list.specs.Registration.{entries_without, modules_without, with_spec}

-- where the module's entry stands in a list
pub record IsEntryPlace (m : Module) (entries : List Entry) (place : ℕ) : Type 0 where
  pub within : place < length entries
  pub listed : is_listed m entries ≡ true
  pub here : (other : Entry) → (slice_index_or entries place other).0.module ≡ m
  pub entry : (other : Entry) → find (is_of m) entries ≡ Some (slice_index_or entries place other)
  pub rest : remove entries place ≡ entries_without m entries
  pub written : (entry : Entry) → entry.0 ≡ (slice_index_or entries place entry).0
      → slice_set entries place entry ≡ with_spec m entry.1 entries

-- the module isn't listed
pub record IsAbsent (m : Module) (entries : List Entry) : Type 0 where
  pub listed : is_listed m entries ≡ false
  pub entry : find (is_of m) entries ≡ None

-- where the module stands in the catalogue
pub record IsModulePlace (m : Module) (modules : List Module) (place : ℕ) : Type 0 where
  pub within : place < length modules
  pub listed : in_catalogue m modules ≡ true
  pub here : (other : Module) → slice_index_or modules place other ≡ m
  pub rest : remove modules place ≡ modules_without m modules
