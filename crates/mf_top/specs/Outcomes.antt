-- An outcome, with its text as bytes.
use Rattle.std.specs.Prelude.{ℕ, List, Result, Ok, Err, String, string_bytes}
use Rattle.std.specs.Global.{Global}
use Rattle.mf_top.specs.declared.refusal.Refusal.{Refusal}

-- an outcome with its text as bytes
abbrev pub bytes_of_outcome : Result (String Global) Refusal → Result (List ℕ) Refusal
bytes_of_outcome (Ok text) = Ok (string_bytes text)
bytes_of_outcome (Err refusal) = Err refusal
