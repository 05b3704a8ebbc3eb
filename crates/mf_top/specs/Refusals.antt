-- Which refusal an error becomes, and which is told: this model's own.
use Rattle.std.specs.Prelude.{◌≡◌, ◌⊎◌, ℕ, List, Result, Ok, Err}
use Rattle.mf_io.specs.Outside.{Seen, FaultsRose, HadNoFault, Took, TookPart}
use Rattle.mf_script.specs.declared.error.ScriptError.{ScriptError}
use Rattle.mf_script.specs.declared.error.ScriptError.TheVariants as script_error
use Rattle.mf_top.specs.declared.read.ReadError.{ReadError}
use Rattle.mf_top.specs.declared.read.ReadError.TheVariants as read_error
use Rattle.mf_top.specs.declared.refusal.Refusal.{Refusal}
use Rattle.mf_top.specs.declared.refusal.Refusal.TheVariants as refusal
use Rattle.mf_top.specs.Answers.{IsWritten, TakesMemory}

abbrev pub read_refusal : ReadError → Refusal
read_refusal read_error.Failed = refusal.ReadFault
read_refusal read_error.TooLong = refusal.TooLong
read_refusal read_error.Memory = refusal.Memory

abbrev pub script_refusal : ScriptError → Refusal
script_refusal (script_error.Fault line fault errno) = refusal.Script line fault errno
script_refusal script_error.Memory = refusal.Memory

-- memory may run out as its text is made
abbrev pub MayLack : Result (List ℕ) Refusal → Type 0
MayLack (Ok text) = ⊥
MayLack (Err r) = TakesMemory r

-- the outcome itself is told; or memory ran out as its text was made
abbrev pub IsToldAs : Result (List ℕ) Refusal → Result (List ℕ) Refusal → Type 0
IsToldAs outcome told = (told ≡ outcome) ⊎ (MayLack outcome × (told ≡ Err refusal.Memory))

-- what is told of the outcome is written
abbrev pub IsTold : Result (List ℕ) Refusal → Seen → ℕ → Type 0
IsTold outcome sink status = (told : Result (List ℕ) Refusal) × IsToldAs outcome told × IsWritten sink told status

-- The sink took the text, and the status is this one; or a write failed.
abbrev pub IsTextWritten : Seen → ℕ → List ℕ → ℕ → Type 0
IsTextWritten sink own text status =
    ((status ≡ own) × HadNoFault sink × Took sink.before sink.after text) ⊎ ((status ≡ 5) × FaultsRose sink × TookPart sink.before sink.after text)
