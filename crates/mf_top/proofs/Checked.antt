-- What is told of an input that is checked.
use Rattle.std.proofs.Common.{◌≡◌, ℕ, ◌≤◌, List, length, Result, Ok, Err}
use Rattle.mf_calls.specs.declared.script.Script.{Script}
use Rattle.mf_calls.specs.WellFormed.{IsWellFormed}
use Rattle.mf_script.specs.Grammar.{script_of}
use Rattle.mf_spelled.proofs.FirstFault.{scripts_texts}
use Rattle.mf_verdict.specs.Header.{IsCheckInput}
use Rattle.mf_verdict.specs.Verdict.{FailsAt, IsAccepted}
use Rattle.mf_verdict.specs.declared.limits.TheConstants.{CHECK_LIMIT}
use Rattle.mf_top.specs.declared.refusal.Refusal.{Refusal}
use Rattle.mf_top.specs.declared.refusal.Refusal.TheVariants as refusal
use Rattle.mf_top.specs.Check.{FailsAtLine, HoldsRun, IsVerdict}
use Rattle.mf_top.specs.Reading.{AreScript}
use Rattle.mf_top.specs.Runs.{IsRunOf}
use Rattle.mf_top.specs.Scripts.{IsJudgment}
use Rattle.mf_top.proofs.Whole.{run_is}

-- a text that is accepted is that of a run

run_of_accepted : (s : Script) (text : List ℕ) → IsWellFormed s → IsAccepted s text → IsRunOf s text
run_of_accepted s text formed is = (is.0, run_is s is.0 formed is.1 is.2, is.3)

pub accepted_of_run : (s : Script) (text : List ℕ) → IsRunOf s text → IsAccepted s text
accepted_of_run s text run = (run.0, run.1.legal, run.1.complete, run.2)

module _ (bytes script text : List ℕ) (s : Script) (few : length bytes ≤ CHECK_LIMIT) (parts : IsCheckInput bytes script text) (read : script_of script ≡ Ok s) where
  is_script : AreScript script s
  is_script = let both = (scripts_texts script s parts.within).0 read in (parts.within, both.0, both.1)

  holds_run : IsAccepted s text → HoldsRun bytes
  holds_run is = (script, text, record { few = few; parts = parts }, (s, is_script, run_of_accepted s text is_script.1 is))

  fails_at_line : (n : ℕ) → FailsAt s text n → FailsAtLine bytes n
  fails_at_line n fails = (script, text, record { few = few; parts = parts }, s, is_script, fails)

  pub judged : (outcome : Result (List ℕ) Refusal) → IsJudgment s text outcome → IsVerdict bytes outcome
  judged (Ok told) is = (holds_run is.0, is.1)
  judged (Err (refusal.Fails n)) is = fails_at_line n is
  judged (Err refusal.Memory) is = tt
  judged (Err refusal.Usage) is = absurd is
  judged (Err (refusal.Script line fault errno)) is = absurd is
  judged (Err (refusal.Step number)) is = absurd is
  judged (Err refusal.Header) is = absurd is
  judged (Err refusal.ReadFault) is = absurd is
  judged (Err refusal.TooLong) is = absurd is
  judged (Err (refusal.TooManyChains told)) is = absurd is
