-- Where nothing fails and what is asked for can be done, it is done, or memory runs out.
use Rattle.std.proofs.Common.{◌≡◌, ◌⊎◌, inl, inr, ℕ, ◌≤◌, List, [], length, Option, Some, None, Result, Ok, Err, string_bytes, refl, sym, ap, ◌∙◌, subst, arith}
use Rattle.std.specs.Prelude.{IfSome, IsSomeAnd}
use Rattle.mf_calls.specs.declared.script.Script.{Script}
use Rattle.mf_script.specs.declared.error.ScriptError.{ScriptError}
use Rattle.mf_script.specs.declared.error.ScriptError.TheVariants as script_error
use Rattle.mf_script.specs.declared.error.ScriptFault.{ScriptFault}
use Rattle.mf_script.specs.Grammar.{script_of}
use Rattle.mf_spelled.proofs.FirstFault.{scripts_texts}
use Rattle.mf_errno.specs.declared.errno.Errno.{Errno}
use Rattle.mf_names.specs.declared.limits.TheConstants.{SCRIPT_LIMIT}
use Rattle.mf_io.specs.Outside.{Seen, FaultsRose}
use Rattle.mf_steps.specs.StepText.{AreAllTaken, IsFirstRefused}
use Rattle.mf_steps.proofs.OneWay.{one_way}
use Rattle.mf_top.specs.declared.refusal.Refusal.{Refusal}
use Rattle.mf_top.specs.declared.refusal.Refusal.TheVariants as refusal
use Rattle.mf_top.specs.declared.command.Command.{Command}
use Rattle.mf_top.specs.declared.command.Command.TheVariants as command
use Rattle.mf_top.specs.declared.command.Order.{Order}
use Rattle.mf_top.specs.declared.command.Order.TheVariants as order
use Rattle.mf_top.specs.declared.command.Telling.{Telling}
use Rattle.mf_top.specs.declared.command.Telling.TheVariants as telling
use Rattle.mf_verdict.specs.Verdict.{FailsAt, IsAccepted}
use Rattle.mf_verdict.specs.declared.limits.TheConstants.{CHECK_LIMIT}
use Rattle.mf_verdict.proofs.Split.{one_split}
use Rattle.mf_verdict.proofs.NotBoth.{accepted_never_fails}
use Rattle.mf_top.specs.Answers.{CanBeDone, HoldsAccepted, HoldsScript, HoldsSteps, IsCheckOutcome, IsDone, IsOutcomeOf, IsSourceRefusal, IsToldOutcome, IsTooLong, IsWritten, status_of}
use Rattle.mf_top.specs.Check.{FailsAtLine, HasFault, HasNoHeader, HoldsRun, IsInput}
use Rattle.mf_top.specs.Tellings.{IsTooMuchText, RefusesStep}
use Rattle.mf_top.specs.Reading.{AreScript, Held}
use Rattle.mf_top.proofs.Checked.{accepted_of_run}
use Rattle.mf_top.proofs.Known.{known}

-- done, or memory ran out
abbrev pub IsDoneOrNot : ℕ → Type 0
IsDoneOrNot status = (status ≡ 0) ⊎ (status ≡ 9)

no_script_fault : (s : Script) (error : ScriptError) → Ok s ≡ Err error → ⊥
no_script_fault s error e = cc

ok_is : (read : Result Script ScriptError) (s t : Script) → read ≡ Ok s → read ≡ Ok t → s ≡ t
ok_is read s t is was = cc

-- what spells a script is read as that script

is_read : (bytes : List ℕ) (s : Script) → AreScript bytes s → script_of bytes ≡ Ok s
is_read bytes s are = (scripts_texts bytes s are.0).1 (are.1, are.2)

one_script : (bytes : List ℕ) (s t : Script) → AreScript bytes s → AreScript bytes t → s ≡ t
one_script bytes s t one other = ok_is (script_of bytes) s t (is_read bytes s one) (is_read bytes t other)

-- what a source held isn't two things of which each excludes the other

never_held : (source : Seen) (AreSo Are : List ℕ → Type 0) → ((bytes : List ℕ) → AreSo bytes → Are bytes → ⊥) → IsSomeAnd source.before AreSo → Held source Are → ⊥
never_held source AreSo Are never holds held = both source.before holds (known source Are held)
  where
    both : (before : Option (List ℕ)) → IsSomeAnd before AreSo → IfSome before (λ bytes. Are bytes × (source.after ≡ Some [])) → ⊥
    both None so are = so
    both (Some bytes) so are = never bytes so are.0

fits : (limit : ℕ) (before after : Option (List ℕ)) → IsSomeAnd before (λ bytes. length bytes ≤ limit) → IsTooLong limit before after → ⊥
fits limit None after holds long = holds
fits limit (Some bytes) after holds long = omega (arith, holds, long.0)

some_and : (before : Option (List ℕ)) (AreSo Are : List ℕ → Type 0) → ((bytes : List ℕ) → AreSo bytes → Are bytes) → IsSomeAnd before AreSo → IsSomeAnd before Are
some_and None AreSo Are so holds = holds
some_and (Some bytes) AreSo Are so holds = so bytes holds

-- a script isn't refused

no_fault_in : (line : ℕ) (fault : ScriptFault) (errno : Option Errno) (bytes : List ℕ) → (s : Script) × AreScript bytes s
    → (length bytes ≤ SCRIPT_LIMIT) × (script_of bytes ≡ Err (script_error.Fault line fault errno)) → ⊥
no_fault_in line fault errno bytes holds cause = no_script_fault holds.0 (script_error.Fault line fault errno) (sym (is_read bytes holds.0 holds.1) ∙ cause.1)

source_done : (source : Seen) (refused : Refusal) → HoldsScript source → ¬ FaultsRose source → IsSourceRefusal source refused → IsDoneOrNot (status_of (Err refused))
source_done source refusal.Usage holds quiet cause = absurd cause
source_done source (refusal.Script line fault errno) holds quiet cause = absurd (never_held source _ _ (no_fault_in line fault errno) holds cause.1)
source_done source (refusal.Step number) holds quiet cause = absurd cause
source_done source (refusal.Fails line) holds quiet cause = absurd cause
source_done source refusal.Header holds quiet cause = absurd cause
source_done source refusal.ReadFault holds quiet cause = absurd (quiet cause)
source_done source refusal.TooLong holds quiet cause =
    absurd (fits SCRIPT_LIMIT source.before source.after (some_and source.before (λ bytes. (s : Script) × AreScript bytes s) _ (λ bytes is. is.1.0) holds) cause.1)
source_done source refusal.Memory holds quiet cause = inr refl
source_done source (refusal.TooManyChains text) holds quiet cause = absurd cause

-- and no step of one whose steps are all taken

steps_hold_script : (source : Seen) → HoldsSteps source → HoldsScript source
steps_hold_script source holds = some_and source.before (λ bytes. (s : Script) × AreScript bytes s × AreAllTaken s) _ (λ bytes is. (is.0, is.1)) holds

holds_script : (o : Order) (t : Telling) (source : Seen) → CanBeDone (Some (command.Tell o t)) source → HoldsScript source
holds_script order.Threads t source can = can
holds_script order.Steps t source can = steps_hold_script source can

no_step_refused : (number : ℕ) (bytes : List ℕ) → (s : Script) × AreScript bytes s × AreAllTaken s → RefusesStep order.Steps bytes number → ⊥
no_step_refused number bytes holds cause =
    one_way.not_both holds.0 number holds.2 (subst (λ (s : Script). IsFirstRefused s number) (one_script bytes cause.0 holds.0 cause.1 holds.1) cause.2)

none_refused : (o : Order) (t : Telling) (source : Seen) (number : ℕ) → CanBeDone (Some (command.Tell o t)) source → Held source (λ bytes. RefusesStep o bytes number) → ⊥
none_refused order.Threads t source number can held = held.2.2
none_refused order.Steps t source number can held = never_held source _ _ (no_step_refused number) can held

-- only of chains is there too much to tell

or_too_many : (o : Order) (t : Telling) (status : ℕ) → IsDoneOrNot status → IsDone (Some (command.Tell o t)) status
or_too_many o telling.Sources status done = done
or_too_many o telling.Matrix status done = done
or_too_many o (telling.Why extent) status done = done
or_too_many o telling.Chains status (inl done) = inl done
or_too_many o telling.Chains status (inr lacks) = inr (inl lacks)

too_much : (o : Order) (t : Telling) (source : Seen) (text : List ℕ) → Held source (λ bytes. IsTooMuchText o t bytes text) → IsDone (Some (command.Tell o t)) 11
too_much o telling.Sources source text held = absurd held.2.2.2
too_much o telling.Matrix source text held = absurd held.2.2.2
too_much o (telling.Why extent) source text held = absurd held.2.2.2
too_much o telling.Chains source text held = inr (inr refl)

told_done : (o : Order) (t : Telling) (source : Seen) (refused : Refusal) → CanBeDone (Some (command.Tell o t)) source → ¬ FaultsRose source → IsToldOutcome o t source (Err refused)
    → IsDone (Some (command.Tell o t)) (status_of (Err refused))
told_done o t source refused can quiet cause = by_refusal refused cause
  where
    otherwise : (refused : Refusal) → IsSourceRefusal source refused → IsDone (Some (command.Tell o t)) (status_of (Err refused))
    otherwise refused cause = or_too_many o t _ (source_done source refused (holds_script o t source can) quiet cause)

    by_refusal : (refused : Refusal) → IsToldOutcome o t source (Err refused) → IsDone (Some (command.Tell o t)) (status_of (Err refused))
    by_refusal (refusal.Step number) cause = absurd (none_refused o t source number can cause.1)
    by_refusal (refusal.TooManyChains text) cause = too_much o t source (string_bytes text) cause.1
    by_refusal refusal.Usage cause = otherwise refusal.Usage cause
    by_refusal (refusal.Script line fault errno) cause = otherwise (refusal.Script line fault errno) cause
    by_refusal (refusal.Fails line) cause = otherwise (refusal.Fails line) cause
    by_refusal refusal.Header cause = otherwise refusal.Header cause
    by_refusal refusal.ReadFault cause = otherwise refusal.ReadFault cause
    by_refusal refusal.TooLong cause = otherwise refusal.TooLong cause
    by_refusal refusal.Memory cause = otherwise refusal.Memory cause

-- nor the text of a run of it, where it is checked

same_parts : (bytes : List ℕ) (a b c d : List ℕ) → IsInput bytes a b → IsInput bytes c d → (a ≡ c) × (b ≡ d)
same_parts bytes a b c d one other = one_split bytes a b c d one.parts other.parts

no_part_refused : (error : ScriptError) (bytes : List ℕ) → HoldsRun bytes → HasFault bytes error → ⊥
no_part_refused error bytes holds cause =
    let same = same_parts bytes holds.0 holds.1 cause.0 cause.1 holds.2 cause.2 in
    no_script_fault holds.3.0 error (sym (is_read holds.0 holds.3.0 holds.3.1) ∙ (ap script_of same.0 ∙ cause.3))

no_text_fails : (n : ℕ) (bytes : List ℕ) → HoldsRun bytes → FailsAtLine bytes n → ⊥
no_text_fails n bytes holds cause =
    let s : Script = holds.3.0 in
    let same = same_parts bytes holds.0 holds.1 cause.0 cause.1 holds.2 cause.2 in
    let are : AreScript cause.0 s = subst (λ (b : List ℕ). AreScript b s) same.0 holds.3.1 in
    let accepted : IsAccepted s cause.1 = subst (λ (t : List ℕ). IsAccepted s t) same.1 (accepted_of_run s holds.1 holds.3.2) in
    accepted_never_fails s cause.1 n are.1 accepted (subst (λ (x : Script). FailsAt x cause.1 n) (one_script cause.0 cause.3 s cause.4 are) cause.5)

check_done : (source : Seen) (refused : Refusal) → HoldsAccepted source → ¬ FaultsRose source → IsCheckOutcome source (Err refused) → IsDoneOrNot (status_of (Err refused))
check_done source refusal.Usage holds quiet cause = absurd cause.1.2
check_done source (refusal.Step number) holds quiet cause = absurd cause.1.2
check_done source (refusal.Script line fault errno) holds quiet cause =
    absurd (never_held source HoldsRun _ (no_part_refused (script_error.Fault line fault errno)) holds cause.1)
check_done source (refusal.Fails n) holds quiet cause = absurd (never_held source HoldsRun _ (no_text_fails n) holds cause.1)
check_done source refusal.Header holds quiet cause =
    absurd (never_held source HoldsRun HasNoHeader (λ bytes run none. none.1 run.0 run.1 run.2.parts) holds cause.1)
check_done source refusal.ReadFault holds quiet cause = absurd (quiet cause)
check_done source refusal.TooLong holds quiet cause =
    absurd (fits CHECK_LIMIT source.before source.after (some_and source.before HoldsRun _ (λ bytes is. is.2.few) holds) cause.1)
check_done source refusal.Memory holds quiet cause = inr refl
check_done source (refusal.TooManyChains text) holds quiet cause = absurd cause.1.2

outcome_done : (asked : Option Command) (source : Seen) (outcome : Result (List ℕ) Refusal) → CanBeDone asked source → ¬ FaultsRose source → IsOutcomeOf asked source outcome
    → IsDone asked (status_of outcome)
outcome_done None source outcome can quiet cause = absurd can
outcome_done (Some (command.Tell o t)) source (Ok text) can quiet cause = or_too_many o t 0 (inl refl)
outcome_done (Some (command.Tell o t)) source (Err refused) can quiet cause = told_done o t source refused can quiet cause
outcome_done (Some command.Check) source (Ok text) can quiet cause = inl refl
outcome_done (Some command.Check) source (Err refused) can quiet cause = check_done source refused can quiet cause
outcome_done (Some (command.Gen lines tasks)) source (Ok text) can quiet cause = inl refl
outcome_done (Some (command.Gen lines tasks)) source (Err refusal.Usage) can quiet cause = absurd cause.0
outcome_done (Some (command.Gen lines tasks)) source (Err (refusal.Script line fault errno)) can quiet cause = absurd cause.0
outcome_done (Some (command.Gen lines tasks)) source (Err (refusal.Step number)) can quiet cause = absurd cause.0
outcome_done (Some (command.Gen lines tasks)) source (Err (refusal.Fails line)) can quiet cause = absurd cause.0
outcome_done (Some (command.Gen lines tasks)) source (Err refusal.Header) can quiet cause = absurd cause.0
outcome_done (Some (command.Gen lines tasks)) source (Err refusal.ReadFault) can quiet cause = absurd cause.0
outcome_done (Some (command.Gen lines tasks)) source (Err refusal.TooLong) can quiet cause = absurd cause.0
outcome_done (Some (command.Gen lines tasks)) source (Err refusal.Memory) can quiet cause = inr refl
outcome_done (Some (command.Gen lines tasks)) source (Err (refusal.TooManyChains text)) can quiet cause = absurd cause.0

pub complete : (asked : Option Command) (source sink : Seen) (outcome : Result (List ℕ) Refusal) (status : ℕ) → CanBeDone asked source → ¬ FaultsRose source → ¬ FaultsRose sink
    → IsOutcomeOf asked source outcome → IsWritten sink outcome status → IsDone asked status
complete asked source sink outcome status can quiet still cause (inl whole) = subst (IsDone asked) (sym whole.0) (outcome_done asked source outcome can quiet cause)
complete asked source sink outcome status can quiet still cause (inr part) = absurd (still part.1)
