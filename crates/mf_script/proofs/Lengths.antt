-- A name is found in a table among the rows of its length.
use Rattle.std.proofs.Common.{◌≡◌, ℕ, Bool, true, false, if◌then◌else◌, List, [], ◌∷◌, length, Some, Result, refl, ap, sym, ◌∙◌, subst}
use Rattle.std.specs.Str.{bytes_eq}
use Rattle.std.proofs.lemmas.Slice.Eq.{bytes_eq-Decides}
use Rattle.mf_words.specs.Words.{Words}
use Rattle.mf_calls.specs.declared.script.Call.{Call}
use Rattle.mf_script.specs.declared.error.ScriptFault.TheVariants.{UnknownWord}
use Rattle.mf_script.specs.declared.refusal.Refusal.{Refusal}
use Rattle.mf_script.specs.Readers.{fails, by_option}
use Rattle.mf_script.specs.Gives.{Gives}
use Rattle.mf_script.specs.Parts.{entry_named}
use Rattle.mf_script.specs.Calls.{Table, call_in, with_length}

other_length : (fits : ℕ → Bool) (name named : List ℕ) → fits (length name) ≡ true → false ≡ fits (length named) → bytes_eq name named ≡ false
other_length fits name named fit other = by_test (bytes_eq name named) refl where
  by_test : (t : Bool) → bytes_eq name named ≡ t → t ≡ false
  by_test false e = refl
  by_test true e = let same : name ≡ named = (bytes_eq-Decides name named).0 e in let both : fits (length name) ≡ fits (length named) = ap (λ w. fits (length w)) same in cc

found_by_length : (fits : ℕ → Bool) (name : List ℕ) (table : Table) → fits (length name) ≡ true → entry_named name (with_length fits table) ≡ entry_named name table
found_by_length fits name [] fit = refl
found_by_length fits name (row ∷ table) fit = by_row (fits (length row.0)) refl (found_by_length fits name table fit) where
  by_row : (t : Bool) → t ≡ fits (length row.0) → entry_named name (with_length fits table) ≡ entry_named name table
      → entry_named name (if t then row ∷ with_length fits table else with_length fits table) ≡ entry_named name (row ∷ table)
  by_row true is rest = ap (λ found. if bytes_eq name row.0 then Some row.1 else found) rest
  by_row false is rest = rest ∙ sym (ap (λ t. if t then Some row.1 else entry_named name table) (other_length fits name row.0 fit is))

pub of_its_length : (fits : ℕ → Bool) (table : Table) (name : List ℕ) (before after : Words) (result : Result Call Refusal) → fits (length name) ≡ true
    → Gives (λ c. (c, after)) result (call_in (with_length fits table) name before) → Gives (λ c. (c, after)) result (call_in table name before)
unfolding call_in
of_its_length fits table name before after result fit gives =
    subst (λ found. Gives (λ (c : Call). (c, after)) result (by_option found (fails UnknownWord) (λ arguments. arguments before))) (found_by_length fits name table fit) gives
