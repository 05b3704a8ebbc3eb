-- The place of a module among others, and the list without it.
use Rattle.std.proofs.Common.{MatchOption, ◌≡◌, ℕ, ◌<◌, false, Option, Some, None, subst, get_or, set, List, find, length, sym, ◌∙◌}
use Rattle.std.specs.List.{position, position_or_len, remove}
use Rattle.std.proofs.lemmas.List.Quantifiers.{position-Some}
use Rattle.std.proofs.lemmas.Bool.{ltb-true}
use Rattle.mf_errno.specs.Same.{same_module}
use Rattle.mf_errno.specs.declared.module.Module.{Module}
use Rattle.mf_errno.proofs.Modules.{same_module-is}
use Rattle.mf_policy.specs.Registration.{Entry, is_of}
use Rattle.mf_policy.proofs.Entries.{entry_at, no_entry, written_at}
use Rattle.mf_policy.proofs.Places.{any_by_place, found, not_found, remove_at_place}
use Rattle.mf_list.specs.Lists.{in_catalogue}
use Rattle.mf_list.specs.Places.{IsAbsent, IsEntryPlace, IsModulePlace}
use Rattle.mf_list.specs.Registration.{with_spec, without_first}

module_by_position : (m : Module) (modules : List Module) (i : ℕ) → position (same_module m) modules ≡ Some i → IsModulePlace m modules i
module_by_position m modules i h =
    let f = found (same_module m) modules i h in
    record {
      within = (position-Some (same_module m) modules i m h).0;
      listed = f.1;
      here = λ d. sym (same_module-is m (get_or modules i d) (position-Some (same_module m) modules i d h).1);
      rest = subst (λ (k : ℕ). remove modules k ≡ without_first (same_module m) modules) f.0 (remove_at_place (same_module m) modules);
    }

entry_by_position : (m : Module) (entries : List Entry) (i : ℕ) → position (is_of m) entries ≡ Some i → IsEntryPlace m entries i
entry_by_position m entries i h =
    let f = found (is_of m) entries i h in
    let within : position_or_len (is_of m) entries < length entries =
    ltb-true (position_or_len (is_of m) entries) (length entries) (sym (any_by_place (is_of m) entries) ∙ f.1) in
    record {
      within = subst (λ (k : ℕ). k < length entries) f.0 within;
      listed = f.1;
      entry = λ d. subst (λ (k : ℕ). find (is_of m) entries ≡ Some (get_or entries k d)) f.0 (entry_at m entries d within);
      here = λ d. sym (same_module-is m (get_or entries i d).0.module (position-Some (is_of m) entries i d h).1);
      rest = subst (λ (k : ℕ). remove entries k ≡ without_first (is_of m) entries) f.0 (remove_at_place (is_of m) entries);
      written = λ e same.
          subst (λ (k : ℕ). set entries k e ≡ with_spec m e.1 entries) f.0
          (written_at m entries e within (subst (λ (k : ℕ). e.0 ≡ (get_or entries k e).0) (sym f.0) same));
    }

no_entry_by_position : (m : Module) (entries : List Entry) → position (is_of m) entries ≡ None → IsAbsent m entries
no_entry_by_position m entries h =
    let e = not_found (is_of m) entries h in
    record { listed = e; entry = no_entry m entries e }

-- all that `position` says
pub entry_from_position : (m : Module) (entries : List Entry) (o : Option ℕ) → o ≡ position (is_of m) entries → MatchOption o (IsAbsent m entries) (λ place. IsEntryPlace m entries place)
entry_from_position m entries None h = no_entry_by_position m entries (sym h)
entry_from_position m entries (Some i) h = entry_by_position m entries i (sym h)

pub module_from_position : (m : Module) (modules : List Module) (o : Option ℕ) → o ≡ position (same_module m) modules → MatchOption o (in_catalogue m modules ≡ false) (λ place. IsModulePlace m modules place)
module_from_position m modules None h = not_found (same_module m) modules (sym h)
module_from_position m modules (Some i) h = module_by_position m modules i (sym h)
