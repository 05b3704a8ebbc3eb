-- What a source's script, or its bytes, come to.
use Rattle.std.proofs.Common.{◌≡◌, ℕ, ◌≤◌, List, length, Result, Ok, Err}
use Rattle.mf_calls.specs.declared.script.Script.{Script}
use Rattle.mf_script.specs.declared.error.ScriptError.{ScriptError}
use Rattle.mf_script.specs.declared.error.ScriptError.TheVariants as script_error
use Rattle.mf_script.specs.Grammar.{script_of}
use Rattle.mf_script.specs.Outcome.{IsScriptOf}
use Rattle.mf_spelled.proofs.FirstFault.{scripts_texts}
use Rattle.mf_names.specs.declared.limits.TheConstants.{SCRIPT_LIMIT}
use Rattle.mf_io.specs.Outside.{Seen, HadNoFault}
use Rattle.mf_top.specs.declared.refusal.Refusal.{Refusal}
use Rattle.mf_top.specs.declared.refusal.Refusal.TheVariants as refusal
use Rattle.mf_top.specs.declared.command.Order.{Order}
use Rattle.mf_top.specs.declared.command.Telling.{Telling}
use Rattle.mf_top.specs.Answers.{IsSourceRefusal, IsToldOutcome}
use Rattle.mf_top.specs.Reading.{IsWhole}
use Rattle.mf_top.specs.Refusals.{script_refusal}
use Rattle.mf_top.specs.Scripts.{IsSourceRead, IsToldBy}

module _ (source : Seen) (bytes : List ℕ) (quiet : HadNoFault source) (whole : IsWhole source.before source.after bytes) (few : length bytes ≤ SCRIPT_LIMIT) where
  -- what was read is said by how it is spelled
  pub read_of : (s : Script) → script_of bytes ≡ Ok s → IsSourceRead source (Ok s)
  read_of s is = let both = (scripts_texts bytes s few).0 is in (quiet, (bytes, whole, (few, both.0, both.1)))

  pub refused : (error : ScriptError) → IsScriptOf (Err error) (script_of bytes) → IsSourceRefusal source (script_refusal error)
  refused (script_error.Fault line fault errno) is = (quiet, (bytes, whole, (few, is)))
  refused script_error.Memory is = quiet

-- what is told of it

pub told : (o : Order) (t : Telling) (source : Seen) (s : Script) (outcome : Result (List ℕ) Refusal) → IsSourceRead source (Ok s) → IsToldBy o t s outcome
    → IsToldOutcome o t source outcome
told o t source s (Ok text) read is = (read.0, (read.1.0, read.1.1, (s, read.1.2, is)))
told o t source s (Err (refusal.Step number)) read is = (read.0, (read.1.0, read.1.1, (s, read.1.2, is)))
told o t source s (Err (refusal.TooManyChains text)) read is = (read.0, (read.1.0, read.1.1, (s, read.1.2, is)))
told o t source s (Err refusal.Memory) read is = read.0
told o t source s (Err refusal.Usage) read is = absurd is
told o t source s (Err (refusal.Script line fault errno)) read is = absurd is
told o t source s (Err (refusal.Fails line)) read is = absurd is
told o t source s (Err refusal.Header) read is = absurd is
told o t source s (Err refusal.ReadFault) read is = absurd is
told o t source s (Err refusal.TooLong) read is = absurd is

-- or why there is no script
pub not_told : (o : Order) (t : Telling) (source : Seen) (refused : Refusal) → IsSourceRefusal source refused → IsToldOutcome o t source (Err refused)
not_told o t source refusal.Usage cause = cause
not_told o t source (refusal.Script line fault errno) cause = cause
not_told o t source (refusal.Step number) cause = absurd cause
not_told o t source (refusal.Fails line) cause = cause
not_told o t source refusal.Header cause = cause
not_told o t source refusal.ReadFault cause = cause
not_told o t source refusal.TooLong cause = cause
not_told o t source refusal.Memory cause = cause
not_told o t source (refusal.TooManyChains text) cause = absurd cause
