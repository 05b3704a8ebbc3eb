-- What is true of the scripts that bytes are.
use Rattle.std.specs.Prelude.{◌≡◌, ℕ, ◌≤◌, List, length, Ok}
use Rattle.mf_names.specs.declared.limits.TheConstants.{SCRIPT_LIMIT}
use Rattle.mf_calls.specs.declared.script.Script.{Script}
use Rattle.mf_calls.specs.WellFormed.{IsWellFormed}
use Rattle.mf_script.specs.Grammar.{script_of}

-- Where bytes are a script, and no more than one may have, it is well formed.
abbrev pub ScriptsAreWellFormed : Type 0
ScriptsAreWellFormed = (bytes : List ℕ) (s : Script) → length bytes ≤ SCRIPT_LIMIT → script_of bytes ≡ Ok s → IsWellFormed s
