-- What the reader of a whole source has read: this model's own.
use Rattle.std.specs.Prelude.{◌≡◌, ℕ, ◌≤◌, List, [], ◌++◌, length, Option, Some, IfSome, IsSomeAnd}
use Rattle.mf_names.specs.declared.limits.TheConstants.{SCRIPT_LIMIT}
use Rattle.mf_calls.specs.declared.script.Script.{Script}
use Rattle.mf_calls.specs.WellFormed.{IsWellFormed}
use Rattle.mf_spelling.specs.Spelling.{IsTextOf}
use Rattle.mf_io.specs.Outside.{Seen}

-- where the source's bytes are known: they are these, and all of them are taken
abbrev pub IsWhole : Option (List ℕ) → Option (List ℕ) → List ℕ → Type 0
IsWhole before now bytes = IfSome before (λ all. (bytes ≡ all) × (now ≡ Some []))

-- There are bytes that are so, and where the source tells its bytes they are these, read to their end.
abbrev pub Held : Seen → (List ℕ → Type 0) → Type 0
Held source AreSo = (bytes : List ℕ) × IsWhole source.before source.after bytes × AreSo bytes

-- the bytes, no more than a script may have, are a text of the script, which is well formed
abbrev pub AreScript : List ℕ → Script → Type 0
AreScript bytes s = (length bytes ≤ SCRIPT_LIMIT) × IsWellFormed s × IsTextOf bytes s

-- where the source's bytes are known: n of them came behind those so far, and none only at the end
abbrev pub GaveOn : Option (List ℕ) → Option (List ℕ) → List ℕ → List ℕ → ℕ → Type 0
GaveOn before now old new n = IfSome before (λ all. (piece : List ℕ) × (new ≡ old ++ piece) × IsSomeAnd now (λ rest. all ≡ piece ++ rest) × ((n ≡ 0) → (all ≡ []) × (piece ≡ [])))
