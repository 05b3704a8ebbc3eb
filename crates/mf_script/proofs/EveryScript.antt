-- Each script that is read is well formed.
use Rattle.std.proofs.Common.{◌≡◌, ℕ, suc, ◌+◌, ◌≤◌, Bool, true, false, if◌then◌else◌, List, [], ◌∷◌, length, Ok, Err, refl, arith}
use Rattle.std.specs.Prelude.{◌==◌}
use Rattle.std.specs.List.{AllByRecursion, onto_first}
use Rattle.std.specs.Str.{byte}
use Rattle.mf_names.specs.declared.limits.TheConstants.{SCRIPT_LIMIT}
use Rattle.mf_words.specs.Words.{lines_in}
use Rattle.mf_calls.specs.declared.script.Script.{Script}
use Rattle.mf_calls.specs.WellFormed.{IsWellFormed}
use Rattle.mf_script.specs.declared.rows.Place.{Place}
use Rattle.mf_script.specs.declared.rows.Place.TheVariants as place
use Rattle.mf_script.specs.Formed.{ScriptsAreWellFormed}
use Rattle.mf_script.specs.Readers.{Read}
use Rattle.mf_script.specs.Grammar.{Reading, blank, line_read, or_at, script_from, script_of}
use Rattle.mf_script.proofs.SoFar.{IsSoFar, starts, line_kept, ends}

-- Lines are no longer than the text

-- each line has at most so many bytes
unfoldable pub AreWithin : ℕ → List (List ℕ) → Type 0
AreWithin most lines = AllByRecursion (λ line. length line ≤ most) lines

pub longer : (most more : ℕ) (lines : List (List ℕ)) → most ≤ more → AreWithin most lines → AreWithin more lines
unfolding AreWithin
longer most more [] le are = tt
longer most more (line ∷ lines) le are = (omega (arith, are.0, le), longer most more lines le are.1)

onto_line : (most b : ℕ) (lines : List (List ℕ)) → AreWithin most lines → AreWithin (suc most) (onto_first b lines)
unfolding AreWithin
onto_line most b [] are = (omega arith, tt)
onto_line most b (line ∷ lines) are = (omega (arith, are.0), longer most (suc most) lines (omega arith) are.1)

pub lines_within : (bytes : List ℕ) → AreWithin (length bytes) (lines_in bytes)
unfolding AreWithin
lines_within [] = tt
lines_within (b ∷ bytes) = one (b == byte "\n") (lines_within bytes) where
  one : (ends : Bool) → AreWithin (length bytes) (lines_in bytes)
      → AreWithin (suc (length bytes)) (if ends then [] ∷ lines_in bytes else onto_first b (lines_in bytes))
  one true rest = (omega arith, longer (length bytes) (suc (length bytes)) (lines_in bytes) (omega arith) rest)
  one false rest = onto_line (length bytes) b (lines_in bytes) rest

-- Line by line

by_read : (s : Script) (p : Place) (n : ℕ) (line : List ℕ) (lines : List (List ℕ)) (found : Script) (read : Read Reading) → length line ≤ SCRIPT_LIMIT → IsSoFar s p
    → ((s' : Script) (p' : Place) → IsSoFar s' p' → script_from s' p' (n + 1) lines ≡ Ok found → IsWellFormed found)
    → line_read s p line ≡ read → or_at n read (λ next. script_from next.0 next.1 (n + 1) lines) ≡ Ok found → IsWellFormed found
by_read s p n line lines found (Ok next) few so more e is = more next.0 next.1 (line_kept s p line next.0 next.1 few so e) is
by_read s p n line lines found (Err fault) few so more e is = cc

pub from_formed : (lines : List (List ℕ)) (s : Script) (p : Place) (n : ℕ) (found : Script) → AreWithin SCRIPT_LIMIT lines → IsSoFar s p → script_from s p n lines ≡ Ok found → IsWellFormed found
unfolding script_from AreWithin
from_formed [] s p n found few so is = ends s p n (Ok found) so is
from_formed (line ∷ lines) s p n found few so is =
    by_read s p n line lines found (line_read s p line) few.0 so (λ s' p' so' e. from_formed lines s' p' (n + 1) found few.1 so' e) refl is

pub scripts_formed : ScriptsAreWellFormed
unfolding script_of
scripts_formed bytes s few is =
    from_formed (lines_in bytes) blank place.Boots 1 s (longer (length bytes) SCRIPT_LIMIT (lines_in bytes) few (lines_within bytes)) (starts blank refl) is
