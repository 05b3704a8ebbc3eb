-- What is told of an outcome is written, and has the outcome's cause.
use Rattle.std.proofs.Common.{◌≡◌, ℕ, List, inl, inr, Option, Some, None, Result, Ok, Err, refl, sym, subst}
use Rattle.mf_io.specs.Outside.{Seen}
use Rattle.mf_top.specs.declared.refusal.Refusal.{Refusal}
use Rattle.mf_top.specs.declared.refusal.Refusal.TheVariants as refusal
use Rattle.mf_top.specs.declared.command.Command.{Command}
use Rattle.mf_top.specs.declared.command.Command.TheVariants as command
use Rattle.mf_top.specs.Answers.{IsOutcomeOf, TakesMemory, output_of, refusal_text, status_of}
use Rattle.mf_top.specs.Refusals.{IsTextWritten, IsTold, IsToldAs, MayLack}

pub told_itself : (sink : Seen) (outcome : Result (List ℕ) Refusal) (own : ℕ) (text : List ℕ) (status : ℕ) → own ≡ status_of outcome → text ≡ output_of outcome
    → IsTextWritten sink own text status → IsTold outcome sink status
told_itself sink outcome own text status same is written =
    (outcome, inl refl, subst (λ (t : List ℕ). IsTextWritten sink (status_of outcome) t status) is (subst (λ (n : ℕ). IsTextWritten sink n text status) same written))

pub told_memory : (sink : Seen) (outcome : Result (List ℕ) Refusal) (status : ℕ) → MayLack outcome → IsTextWritten sink 9 (refusal_text refusal.Memory) status → IsTold outcome sink status
told_memory sink outcome status lacks written = (Err refusal.Memory, inr (lacks, refl), written)

memory_too : (asked : Option Command) (source : Seen) (r : Refusal) → TakesMemory r → IsOutcomeOf asked source (Err r) → IsOutcomeOf asked source (Err refusal.Memory)
memory_too None source r is cause = absurd (subst MayLack cause.0 is)
memory_too (Some (command.Tell o t)) source (refusal.Script line fault errno) is cause = cause.0
memory_too (Some (command.Tell o t)) source (refusal.Step number) is cause = cause.0
memory_too (Some (command.Tell o t)) source (refusal.Fails line) is cause = absurd cause
memory_too (Some (command.Tell o t)) source (refusal.TooManyChains text) is cause = cause.0
memory_too (Some command.Check) source (refusal.Script line fault errno) is cause = cause.0
memory_too (Some command.Check) source (refusal.Step number) is cause = cause.0
memory_too (Some command.Check) source (refusal.Fails line) is cause = cause.0
memory_too (Some command.Check) source (refusal.TooManyChains text) is cause = cause.0
memory_too (Some (command.Gen lines tasks)) source (refusal.Script line fault errno) is cause = absurd cause.0
memory_too (Some (command.Gen lines tasks)) source (refusal.Step number) is cause = absurd cause.0
memory_too (Some (command.Gen lines tasks)) source (refusal.Fails line) is cause = absurd cause.0
memory_too (Some (command.Gen lines tasks)) source (refusal.TooManyChains text) is cause = absurd cause.0
memory_too (Some word) source refusal.Usage is cause = absurd is
memory_too (Some word) source refusal.ReadFault is cause = absurd is
memory_too (Some word) source refusal.TooLong is cause = absurd is
memory_too (Some word) source refusal.Header is cause = absurd is
memory_too (Some word) source refusal.Memory is cause = absurd is

pub told_cause : (asked : Option Command) (source : Seen) (outcome told : Result (List ℕ) Refusal) → IsToldAs outcome told → IsOutcomeOf asked source outcome
    → IsOutcomeOf asked source told
told_cause asked source outcome told (inl same) cause = subst (IsOutcomeOf asked source) (sym same) cause
told_cause asked source (Ok text) told (inr lacks) cause = absurd lacks.0
told_cause asked source (Err r) told (inr lacks) cause = subst (IsOutcomeOf asked source) (sym lacks.1) (memory_too asked source r lacks.0 cause)
