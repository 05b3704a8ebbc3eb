-- What was written where the status is 0, or 11.
use Rattle.std.proofs.Common.{◌≡◌, ℕ, List, ◌++◌, Option, Some, Result, Ok, Err, String, string_bytes, inl, inr, refl, sym, ap, ◌∙◌, subst, arith}
use Rattle.std.specs.Global.{Global}
use Rattle.std.specs.Prelude.{codes}
use Rattle.std.proofs.lemmas.List.{append-nil}
use Rattle.mf_io.specs.Outside.{Seen, Took}
use Rattle.mf_top.specs.declared.refusal.Refusal.{Refusal}
use Rattle.mf_top.specs.declared.refusal.Refusal.TheVariants as refusal
use Rattle.mf_top.specs.declared.command.Command.{Command}
use Rattle.mf_top.specs.declared.command.Command.TheVariants as command
use Rattle.mf_top.specs.declared.command.Order.{Order}
use Rattle.mf_top.specs.declared.command.Order.TheVariants as order
use Rattle.mf_top.specs.declared.command.Telling.{Telling}
use Rattle.mf_top.specs.declared.command.Telling.TheVariants as telling
use Rattle.mf_top.specs.Answers.{IsCheckOutcome, IsLoaded, IsLoadOutcome, IsOutcomeOf, IsToldOutcome, IsWritten, WroteHistory, WroteSummary, refusal_status, refusal_text}
use Rattle.mf_top.specs.Check.{IsVerdict, WroteYes}
use Rattle.mf_top.specs.Reading.{Held}
use Rattle.mf_top.specs.Runs.{IsRunText}
use Rattle.mf_top.specs.Tellings.{IsToldOf, IsToldText, IsTooMuchText, WroteTold, WroteTooMany}

never_zero : (refused : Refusal) → refusal_status refused ≡ 0 → ⊥
never_zero refusal.Usage e = omega (arith, e)
never_zero (refusal.Script line fault errno) e = omega (arith, e)
never_zero (refusal.Step number) e = omega (arith, e)
never_zero (refusal.Fails line) e = omega (arith, e)
never_zero refusal.Header e = omega (arith, e)
never_zero refusal.ReadFault e = omega (arith, e)
never_zero refusal.TooLong e = omega (arith, e)
never_zero refusal.Memory e = omega (arith, e)
never_zero (refusal.TooManyChains text) e = omega (arith, e)

-- 11 is the status of too many chains alone
eleven : (refused : Refusal) → refusal_status refused ≡ 11 → (text : String Global) × (refused ≡ refusal.TooManyChains text)
eleven (refusal.TooManyChains text) e = (text, refl)
eleven refusal.Usage e = absurd (omega (arith, e))
eleven (refusal.Script line fault errno) e = absurd (omega (arith, e))
eleven (refusal.Step number) e = absurd (omega (arith, e))
eleven (refusal.Fails line) e = absurd (omega (arith, e))
eleven refusal.Header e = absurd (omega (arith, e))
eleven refusal.ReadFault e = absurd (omega (arith, e))
eleven refusal.TooLong e = absurd (omega (arith, e))
eleven refusal.Memory e = absurd (omega (arith, e))

-- the whole text, and there was one
whole_text : (sink : Seen) (outcome : Result (List ℕ) Refusal) (status : ℕ) → status ≡ 0 → IsWritten sink outcome status
    → (text : List ℕ) × (outcome ≡ Ok text) × Took sink.before sink.after text
whole_text sink (Ok text) status zero (inl whole) = (text, refl, whole.2)
whole_text sink (Err refused) status zero (inl whole) = absurd (never_zero refused (sym whole.0 ∙ zero))
whole_text sink outcome status zero (inr part) = absurd (omega (arith, zero, part.0))

-- the text of a run, and the line behind it
text_of_run : (sink : Seen) (outcome : Result (List ℕ) Refusal) (status : ℕ) → status ≡ 11 → IsWritten sink outcome status
    → (text : String Global) × (outcome ≡ Err (refusal.TooManyChains text)) × Took sink.before sink.after (string_bytes text ++ codes "macsim: too many chains\n")
text_of_run sink (Ok text) status is (inl whole) = absurd (omega (arith, is, whole.0))
text_of_run sink (Err refused) status is (inl whole) =
    let found = eleven refused (sym whole.0 ∙ is) in
    (found.0, ap Err found.1, subst (λ (r : Refusal). Took sink.before sink.after (refusal_text r)) found.1 whole.2)
text_of_run sink outcome status is (inr part) = absurd (omega (arith, is, part.0))

-- what is told without more is the text of a run
run_text_of : (bytes text : List ℕ) → IsToldText order.Threads telling.Sources bytes text → IsRunText bytes text
run_text_of bytes text is =
    let told : IsToldOf order.Threads telling.Sources is.0 text = is.2 in
    (is.0, is.1, (told.0, told.2.0, told.4 ∙ (append-nil told.1 ∙ told.2.1)))

module _ (source sink : Seen) (outcome : Result (List ℕ) Refusal) (status : ℕ) (zero : status ≡ 0) (written : IsWritten sink outcome status) where
  pub wrote_told : (o : Order) (t : Telling) → IsToldOutcome o t source outcome → WroteTold o t source sink
  wrote_told o t cause =
      let all = whole_text sink outcome status zero written in
      let held : Held source (λ bytes. IsToldText o t bytes all.0) = (subst (IsToldOutcome o t source) all.1 cause).1 in
      (held.0, held.1, (all.0, held.2, all.2))

  pub wrote_yes : IsCheckOutcome source outcome → WroteYes source sink
  wrote_yes cause =
      let all = whole_text sink outcome status zero written in
      let held : Held source (λ bytes. IsVerdict bytes (Ok all.0)) = (subst (IsCheckOutcome source) all.1 cause).1 in
      ((held.0, held.1, held.2.0), subst (Took sink.before sink.after) held.2.1 all.2)

  wrote_summary : (lines tasks : ℕ) → IsLoadOutcome lines tasks source outcome → WroteSummary lines tasks source sink
  wrote_summary lines tasks cause =
      let all = whole_text sink outcome status zero written in
      (cause.1.same, subst (Took sink.before sink.after) (subst (IsLoaded lines tasks) all.1 cause.0) all.2)

  -- the same by what the words ask for
  pub told_asked : (o : Order) (t : Telling) (asked : Option Command) → asked ≡ Some (command.Tell o t) → IsOutcomeOf asked source outcome → WroteTold o t source sink
  told_asked o t asked is cause = wrote_told o t (subst (λ (a : Option Command). IsOutcomeOf a source outcome) is cause)

  pub history_asked : (asked : Option Command) → asked ≡ Some (command.Tell order.Threads telling.Sources) → IsOutcomeOf asked source outcome → WroteHistory source sink
  history_asked asked is cause =
      let told = told_asked order.Threads telling.Sources asked is cause in
      (told.0, told.1, (told.2.0, run_text_of told.0 told.2.0 told.2.1, told.2.2))

  pub check_asked : (asked : Option Command) → asked ≡ Some command.Check → IsOutcomeOf asked source outcome → WroteYes source sink
  check_asked asked is cause = wrote_yes (subst (λ (a : Option Command). IsOutcomeOf a source outcome) is cause)

  pub summary_asked : (asked : Option Command) (lines tasks : ℕ) → asked ≡ Some (command.Gen lines tasks) → IsOutcomeOf asked source outcome → WroteSummary lines tasks source sink
  summary_asked asked lines tasks is cause = wrote_summary lines tasks (subst (λ (a : Option Command). IsOutcomeOf a source outcome) is cause)

pub too_many_asked : (source sink : Seen) (outcome : Result (List ℕ) Refusal) (status : ℕ) → status ≡ 11 → IsWritten sink outcome status → (o : Order) (asked : Option Command)
    → asked ≡ Some (command.Tell o telling.Chains) → IsOutcomeOf asked source outcome → WroteTooMany o source sink
too_many_asked source sink outcome status eleven written o asked is cause =
    let run = text_of_run sink outcome status eleven written in
    let of_chains : IsToldOutcome o telling.Chains source outcome = subst (λ (a : Option Command). IsOutcomeOf a source outcome) is cause in
    let held : Held source (λ bytes. IsTooMuchText o telling.Chains bytes (string_bytes run.0)) = (subst (IsToldOutcome o telling.Chains source) run.1 of_chains).1 in
    (held.0, held.1, (string_bytes run.0, held.2, run.2))
