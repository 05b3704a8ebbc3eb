-- Where no faults rise, no fault is answered.
use Rattle.std.proofs.Common.{◌≡◌, ◌≢◌, inl, inr, ℕ, List, Option, Some, None, Result, Ok, Err, refl, sym, ◌∙◌, subst, arith}
use Rattle.mf_top.specs.declared.refusal.Refusal.{Refusal}
use Rattle.mf_top.specs.declared.refusal.Refusal.TheVariants as refusal
use Rattle.mf_io.specs.Outside.{Seen, FaultsRose, HasRisen}
use Rattle.mf_top.specs.declared.command.Command.{Command}
use Rattle.mf_top.specs.declared.command.Command.TheVariants as command
use Rattle.mf_top.specs.Commands.{command_of}
use Rattle.mf_top.specs.Answers.{IsOutcome, IsOutcomeOf, IsWritten, refusal_status, status_of}

-- 4 is the status of a fault of reading alone, and 5 of none

four : (refused : Refusal) → refusal_status refused ≡ 4 → refused ≡ refusal.ReadFault
four refusal.ReadFault e = refl
four refusal.Usage e = absurd (omega (arith, e))
four (refusal.Script line fault errno) e = absurd (omega (arith, e))
four refusal.TooLong e = absurd (omega (arith, e))
four (refusal.Step number) e = absurd (omega (arith, e))
four (refusal.Fails line) e = absurd (omega (arith, e))
four refusal.Header e = absurd (omega (arith, e))
four refusal.Memory e = absurd (omega (arith, e))
four (refusal.TooManyChains text) e = absurd (omega (arith, e))

no_five : (refused : Refusal) → refusal_status refused ≢ 5
no_five refusal.ReadFault e = omega (arith, e)
no_five refusal.Usage e = omega (arith, e)
no_five (refusal.Script line fault errno) e = omega (arith, e)
no_five refusal.TooLong e = omega (arith, e)
no_five (refusal.Step number) e = omega (arith, e)
no_five (refusal.Fails line) e = omega (arith, e)
no_five refusal.Header e = omega (arith, e)
no_five refusal.Memory e = omega (arith, e)
no_five (refusal.TooManyChains text) e = omega (arith, e)

no_usage : (outcome : Result (List ℕ) Refusal) → outcome ≡ Err refusal.ReadFault → outcome ≡ Err refusal.Usage → ⊥
no_usage outcome e f = cc

fault_rose : (asked : Option Command) (source : Seen) → IsOutcomeOf asked source (Err refusal.ReadFault) → FaultsRose source
fault_rose None source cause = absurd (no_usage (Err refusal.ReadFault) refl cause.0)
fault_rose (Some (command.Tell o t)) source cause = cause
fault_rose (Some command.Check) source cause = cause
fault_rose (Some (command.Gen lines tasks)) source cause = absurd cause.0

status_differs : (asked : Option Command) (source : Seen) (outcome : Result (List ℕ) Refusal) → ¬ FaultsRose source
    → IsOutcomeOf asked source outcome → (status_of outcome ≢ 4) × (status_of outcome ≢ 5)
status_differs asked source (Ok text) quiet cause = (λ e. omega (arith, e), λ e. omega (arith, e))
status_differs asked source (Err refused) quiet cause =
    (λ e. quiet (fault_rose asked source (subst (λ (r : Refusal). IsOutcomeOf asked source (Err r)) (four refused e) cause)), no_five refused)

pub no_fault : (words : List (List ℕ)) (source sink : Seen) (outcome : Result (List ℕ) Refusal) (status : ℕ)
    → ¬ FaultsRose source → ¬ FaultsRose sink → IsOutcome words source outcome → IsWritten sink outcome status → (status ≢ 4) × (status ≢ 5)
no_fault words source sink outcome status quiet still cause (inl whole) =
    let differs = status_differs (command_of words) source outcome quiet cause in
    (λ e. differs.0 (sym whole.0 ∙ e), λ e. differs.1 (sym whole.0 ∙ e))
no_fault words source sink outcome status quiet still cause (inr part) = absurd (still part.1)

-- a count that is always 0 doesn't rise
pub never_rises : ¬ HasRisen 0 0
never_rises (inl rose) = omega (arith, rose)
never_rises (inr last) = omega (arith, last)
