-- What the program may return and write, and why, by docs/MANUAL.md (EXIT STATUS).
use Rattle.std.specs.Prelude.{◌≡◌, ◌⊎◌, ℕ, ◌≤◌, List, [], ◌++◌, length, Some, Option, None, IfSome, IsSomeAnd, Result, Ok, Err, codes, ◌+◌, ◌<◌, string_bytes}
use Rattle.std.specs.Fmt.{decimal}
use Rattle.mf_errno.specs.declared.errno.Errno.{Errno}
use Rattle.mf_errno.specs.Names.{error_text}
use Rattle.mf_calls.specs.declared.script.Script.{Script}
use Rattle.mf_script.specs.declared.error.ScriptFault.{ScriptFault}
use Rattle.mf_script.specs.declared.error.ScriptError.TheVariants as script_error
use Rattle.mf_script.specs.Faults.{fault_number, fault_name}
use Rattle.mf_script.specs.Grammar.{script_of}
use Rattle.mf_top.specs.declared.refusal.Refusal.{Refusal}
use Rattle.mf_top.specs.declared.refusal.Refusal.TheVariants as refusal
use Rattle.mf_top.specs.declared.command.Command.{Command}
use Rattle.mf_top.specs.declared.command.Command.TheVariants as command
use Rattle.mf_top.specs.declared.command.Order.{Order}
use Rattle.mf_top.specs.declared.command.Order.TheVariants as order
use Rattle.mf_top.specs.declared.command.Telling.{Telling}
use Rattle.mf_top.specs.declared.command.Telling.TheVariants as telling
use Rattle.mf_top.specs.Commands.{command_of}
use Rattle.mf_io.specs.Outside.{Seen, FaultsRose, HadNoFault, Took, TookPart}
use Rattle.mf_names.specs.declared.limits.TheConstants.{SCRIPT_LIMIT}
use Rattle.mf_load.specs.Summary.{load_summary}
use Rattle.mf_steps.specs.StepText.{AreAllTaken}
use Rattle.mf_verdict.specs.declared.limits.TheConstants.{CHECK_LIMIT}
use Rattle.mf_top.specs.Check.{HoldsRun, IsVerdict}
use Rattle.mf_top.specs.Reading.{Held, AreScript}
use Rattle.mf_top.specs.Runs.{IsRunText}
use Rattle.mf_top.specs.Tellings.{IsToldText, IsTooMuchText, RefusesStep}

-- The source held a script to its end, and the sink took the text of one history that is legal and complete for it, and nothing else.
abbrev pub WroteHistory : Seen → Seen → Type 0
WroteHistory source sink = Held source (λ bytes. (text : List ℕ) × IsRunText bytes text × Took sink.before sink.after text)

-- Where the bytes of the sink are known: it took the summary of the load, and nothing else; and nothing was read.
abbrev pub WroteSummary : ℕ → ℕ → Seen → Seen → Type 0
WroteSummary lines tasks source sink = (source.after ≡ source.before) × Took sink.before sink.after (load_summary lines tasks)

-- nothing was read of the source, and none of its calls failed
pub record IsUnread (source : Seen) : Type 0 where
  pub quiet : HadNoFault source
  pub same : source.after ≡ source.before

-- An outcome before anything is written, and its cause: what the words ask for, and what is seen of the source.

-- where the source's bytes are known: they are more than this limit, and one more than that was taken
abbrev pub IsTooLong : ℕ → Option (List ℕ) → Option (List ℕ) → Type 0
IsTooLong limit before now = IfSome before (λ all. (limit < length all) × IsSomeAnd now (λ rest. (taken : List ℕ) × (length taken ≡ limit + 1) × (all ≡ taken ++ rest)))

-- why no script is read of the source, or why memory runs out behind that
abbrev pub IsSourceRefusal : Seen → Refusal → Type 0
IsSourceRefusal source (refusal.Script line fault errno) =
    HadNoFault source × Held source (λ bytes. (length bytes ≤ SCRIPT_LIMIT) × (script_of bytes ≡ Err (script_error.Fault line fault errno)))
IsSourceRefusal source refusal.ReadFault = FaultsRose source
IsSourceRefusal source refusal.TooLong = HadNoFault source × IsTooLong SCRIPT_LIMIT source.before source.after
IsSourceRefusal source refusal.Memory = HadNoFault source
IsSourceRefusal source other = ⊥

-- what is told of the script that the source held, in that order; or that a step of it is refused, that there is too much to tell, or why there is no
-- script
abbrev pub IsToldOutcome : Order → Telling → Seen → Result (List ℕ) Refusal → Type 0
IsToldOutcome o t source (Ok text) = HadNoFault source × Held source (λ bytes. IsToldText o t bytes text)
IsToldOutcome o t source (Err (refusal.Step number)) = HadNoFault source × Held source (λ bytes. RefusesStep o bytes number)
IsToldOutcome o t source (Err (refusal.TooManyChains text)) = HadNoFault source × Held source (λ bytes. IsTooMuchText o t bytes (string_bytes text))
IsToldOutcome o t source (Err refused) = IsSourceRefusal source refused

abbrev pub IsCheckOutcome : Seen → Result (List ℕ) Refusal → Type 0
IsCheckOutcome source (Err refusal.ReadFault) = FaultsRose source
IsCheckOutcome source (Err refusal.TooLong) = HadNoFault source × IsTooLong CHECK_LIMIT source.before source.after
IsCheckOutcome source (Err refusal.Memory) = HadNoFault source
IsCheckOutcome source outcome = HadNoFault source × Held source (λ bytes. IsVerdict bytes outcome)

-- the summary of the load, or want of memory
abbrev pub IsLoaded : ℕ → ℕ → Result (List ℕ) Refusal → Type 0
IsLoaded lines tasks (Ok text) = text ≡ load_summary lines tasks
IsLoaded lines tasks (Err refusal.Memory) = Unit {0}
IsLoaded lines tasks other = ⊥

abbrev pub IsLoadOutcome : ℕ → ℕ → Seen → Result (List ℕ) Refusal → Type 0
IsLoadOutcome lines tasks source outcome = IsLoaded lines tasks outcome × IsUnread source

-- other words are refused
abbrev pub IsUsageOutcome : Seen → Result (List ℕ) Refusal → Type 0
IsUsageOutcome source outcome = (outcome ≡ Err refusal.Usage) × IsUnread source

abbrev pub IsOutcomeOf : Option Command → Seen → Result (List ℕ) Refusal → Type 0
IsOutcomeOf None source outcome = IsUsageOutcome source outcome
IsOutcomeOf (Some (command.Tell o t)) source outcome = IsToldOutcome o t source outcome
IsOutcomeOf (Some command.Check) source outcome = IsCheckOutcome source outcome
IsOutcomeOf (Some (command.Gen lines tasks)) source outcome = IsLoadOutcome lines tasks source outcome

abbrev pub IsOutcome : List (List ℕ) → Seen → Result (List ℕ) Refusal → Type 0
IsOutcome words source outcome = IsOutcomeOf (command_of words) source outcome

abbrev pub refusal_status : Refusal → ℕ
refusal_status refusal.Usage = 2
refusal_status (refusal.Script line fault errno) = 3
refusal_status refusal.ReadFault = 4
refusal_status refusal.TooLong = 6
refusal_status (refusal.Step number) = 7
refusal_status (refusal.Fails line) = 8
refusal_status refusal.Memory = 9
refusal_status refusal.Header = 10
refusal_status (refusal.TooManyChains text) = 11

-- behind the name of a fault: the errno of a module that can't be booted, or of a tunable that can't be set
abbrev pub errno_text : Option Errno → List ℕ
errno_text None = []
errno_text (Some errno) = codes " " ++ error_text errno

-- the line of a script's fault
abbrev pub fault_text : ℕ → ScriptFault → Option Errno → List ℕ
fault_text line fault errno =
    codes "macsim: script line " ++ decimal line ++ codes " fault " ++ decimal (fault_number fault) ++ codes " " ++ fault_name fault ++ errno_text errno ++ codes "\n"

abbrev pub refusal_text : Refusal → List ℕ
refusal_text refusal.Usage = codes "macsim: usage: run | step | gen N T\n"
refusal_text (refusal.Script line fault errno) = fault_text line fault errno
refusal_text (refusal.Step number) = codes "macsim: step " ++ decimal number ++ codes " refused\n"
refusal_text (refusal.Fails line) = codes "no " ++ decimal line ++ codes "\n"
refusal_text refusal.Header = codes "macsim: check header\n"
refusal_text refusal.ReadFault = codes "macsim: read fault\n"
refusal_text refusal.TooLong = codes "macsim: too long\n"
refusal_text refusal.Memory = codes "macsim: no memory\n"
refusal_text (refusal.TooManyChains text) = string_bytes text ++ codes "macsim: too many chains\n"

-- its text is made, and takes memory: it has the number of a line or of a step, or begins with the text of a run
abbrev pub TakesMemory : Refusal → Type 0
TakesMemory (refusal.Script line fault errno) = Unit {0}
TakesMemory (refusal.Step number) = Unit {0}
TakesMemory (refusal.Fails line) = Unit {0}
TakesMemory (refusal.TooManyChains text) = Unit {0}
TakesMemory other = ⊥

abbrev pub status_of : Result (List ℕ) Refusal → ℕ
status_of (Ok text) = 0
status_of (Err r) = refusal_status r

abbrev pub output_of : Result (List ℕ) Refusal → List ℕ
output_of (Ok text) = text
output_of (Err r) = refusal_text r

-- The sink's faults stand where they stood, and it took the outcome's whole text; or they rose, and it took a beginning of that text.
abbrev pub IsWritten : Seen → Result (List ℕ) Refusal → ℕ → Type 0
IsWritten sink outcome status =
    ((status ≡ status_of outcome) × HadNoFault sink × Took sink.before sink.after (output_of outcome))
    ⊎ ((status ≡ 5) × FaultsRose sink × TookPart sink.before sink.after (output_of outcome))

-- the source holds a script
abbrev pub HoldsScript : Seen → Type 0
HoldsScript source = IsSomeAnd source.before (λ bytes. (s : Script) × AreScript bytes s)

-- the source holds a script, each step of which is of one of its tasks and in turn
abbrev pub HoldsSteps : Seen → Type 0
HoldsSteps source = IsSomeAnd source.before (λ bytes. (s : Script) × AreScript bytes s × AreAllTaken s)

-- the source holds a script and the text of a run of it
abbrev pub HoldsAccepted : Seen → Type 0
HoldsAccepted source = IsSomeAnd source.before HoldsRun

-- what the words ask for can be done: the source holds a script, where one is read, and with `check` a text that is accepted
abbrev pub CanBeDone : Option Command → Seen → Type 0
CanBeDone None source = ⊥
CanBeDone (Some (command.Tell order.Threads t)) source = HoldsScript source
CanBeDone (Some (command.Tell order.Steps t)) source = HoldsSteps source
CanBeDone (Some command.Check) source = HoldsAccepted source
CanBeDone (Some (command.Gen lines tasks)) source = Unit {0}

-- The right words, known bytes of a script where one is read, and no fault of source or sink.
pub record IsFaultless (words : List (List ℕ)) (source sink : Seen) : Type 0 where
  pub can : CanBeDone (command_of words) source
  pub source_stays : ¬ FaultsRose source
  pub sink_stays : ¬ FaultsRose sink

-- it is done, or memory ran out, or where chains are told there are too many
abbrev pub IsDone : Option Command → ℕ → Type 0
IsDone (Some (command.Tell o telling.Chains)) status = (status ≡ 0) ⊎ (status ≡ 9) ⊎ (status ≡ 11)
IsDone other status = (status ≡ 0) ⊎ (status ≡ 9)

-- The same of the calls that do what one word asks for.

pub record AreStepsFaultless (source sink : Seen) : Type 0 where
  pub can : HoldsSteps source
  pub source_stays : ¬ FaultsRose source
  pub sink_stays : ¬ FaultsRose sink

pub record IsCheckFaultless (source sink : Seen) : Type 0 where
  pub can : HoldsAccepted source
  pub source_stays : ¬ FaultsRose source
  pub sink_stays : ¬ FaultsRose sink
