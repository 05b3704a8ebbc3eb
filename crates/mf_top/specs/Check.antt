-- What the word `check` tells, by docs/MANUAL.md (CHECK).
use Rattle.std.specs.Prelude.{◌≡◌, ℕ, ◌≤◌, List, length, Result, Ok, Err, codes}
use Rattle.mf_calls.specs.declared.script.Script.{Script}
use Rattle.mf_script.specs.declared.error.ScriptError.{ScriptError}
use Rattle.mf_script.specs.declared.error.ScriptError.TheVariants as script_error
use Rattle.mf_script.specs.Grammar.{script_of}
use Rattle.mf_verdict.specs.Header.{IsCheckInput}
use Rattle.mf_verdict.specs.Verdict.{FailsAt}
use Rattle.mf_verdict.specs.declared.limits.TheConstants.{CHECK_LIMIT}
use Rattle.mf_io.specs.Outside.{Seen, Took}
use Rattle.mf_top.specs.declared.refusal.Refusal.{Refusal}
use Rattle.mf_top.specs.declared.refusal.Refusal.TheVariants as refusal
use Rattle.mf_top.specs.Reading.{Held, AreScript}
use Rattle.mf_top.specs.Runs.{IsRunText}

-- the input, which is no longer than it may be, is a header, these bytes of a script, and this text
pub record IsInput (bytes script text : List ℕ) : Type 0 where
  pub few : length bytes ≤ CHECK_LIMIT
  pub parts : IsCheckInput bytes script text

-- it is a script, and the text of a run of it
abbrev pub HoldsRun : List ℕ → Type 0
HoldsRun bytes = (script : List ℕ) × (text : List ℕ) × IsInput bytes script text × IsRunText script text

-- it is a script, and a text that fails at that line
abbrev pub FailsAtLine : List ℕ → ℕ → Type 0
FailsAtLine bytes n = (script : List ℕ) × (text : List ℕ) × IsInput bytes script text × (s : Script) × AreScript script s × FailsAt s text n

-- what stands where the script should is none
abbrev pub HasFault : List ℕ → ScriptError → Type 0
HasFault bytes error = (script : List ℕ) × (text : List ℕ) × IsInput bytes script text × (script_of script ≡ Err error)

abbrev pub HasNoHeader : List ℕ → Type 0
HasNoHeader bytes = (length bytes ≤ CHECK_LIMIT) × ((script text : List ℕ) → ¬ IsCheckInput bytes script text)

-- what is told of an input
abbrev pub IsVerdict : List ℕ → Result (List ℕ) Refusal → Type 0
IsVerdict bytes (Ok told) = HoldsRun bytes × (told ≡ codes "yes\n")
IsVerdict bytes (Err (refusal.Fails n)) = FailsAtLine bytes n
IsVerdict bytes (Err (refusal.Script line fault errno)) = HasFault bytes (script_error.Fault line fault errno)
IsVerdict bytes (Err refusal.Header) = HasNoHeader bytes
IsVerdict bytes (Err refusal.Memory) = Unit {0}
IsVerdict bytes (Err other) = ⊥

-- The source held, to its end, a script and the text of a run of it, and the sink took `yes`, and nothing else.
abbrev pub WroteYes : Seen → Seen → Type 0
WroteYes source sink = Held source HoldsRun × Took sink.before sink.after (codes "yes\n")
