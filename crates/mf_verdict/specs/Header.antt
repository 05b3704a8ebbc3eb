-- What the auditor is given: a script behind a line with its length, and then a text.
use Rattle.std.specs.Prelude.{◌≡◌, ℕ, ◌≤◌, List, ◌++◌, length, codes}
use Rattle.std.specs.Fmt.{decimal}
use Rattle.mf_names.specs.declared.limits.TheConstants.{SCRIPT_LIMIT}

-- the bytes are a line with the length of the script, the script, and the text
pub record IsCheckInput (bytes script text : List ℕ) : Type 0 where
  pub split : bytes ≡ codes "script " ++ decimal (length script) ++ codes "\n" ++ script ++ text
  pub within : length script ≤ SCRIPT_LIMIT
