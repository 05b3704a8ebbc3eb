-- What the reader answers.
use Rattle.std.specs.Prelude.{◌≡◌, ℕ, Result, Err}
use Rattle.mf_calls.specs.declared.script.Script.{Script}
use Rattle.mf_script.specs.declared.error.ScriptError.{ScriptError}
use Rattle.mf_script.specs.declared.error.ScriptError.TheVariants as error
use Rattle.mf_script.specs.declared.refusal.Refusal.{Refusal}
use Rattle.mf_script.specs.declared.refusal.Refusal.TheVariants as refusal
use Rattle.mf_script.specs.Grammar.{at_line}

-- the error is the fault in the line of that number, or memory ran out
abbrev pub IsRefusedAt : ℕ → Refusal → ScriptError → Type 0
IsRefusedAt n (refusal.Faulty fault) found = found ≡ at_line n fault
IsRefusedAt n refusal.Memory found = found ≡ error.Memory

-- what the reader returned is the script of the bytes, or their first fault, unless memory ran out
abbrev pub IsScriptOf : Result Script ScriptError → Result Script ScriptError → Type 0
IsScriptOf (Err error.Memory) read = Unit {0}
IsScriptOf result read = read ≡ result
