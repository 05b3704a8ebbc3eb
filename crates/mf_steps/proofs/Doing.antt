-- What the call and the change of a stepper come to: what the step is to do, and what it is to print.
use Rattle.std.proofs.Common.{◌≡◌, ℕ, ◌<◌, List, ◌++◌, Option, Some, None, Result, OnOk, inl, inr, refl, sym, ap, ◌∙◌, subst}
use Rattle.std.specs.Prelude.{slice_set}
use Rattle.std.proofs.lemmas.Result.{on_ok_weaker}
use Rattle.mf_calls.specs.declared.script.Script.{Script}
use Rattle.mf_calls.specs.declared.script.StepKind.TheVariants as step
use Rattle.mf_policy.specs.Registration.{Entry}
use Rattle.mf_core.specs.declared.history.Event.{Event}
use Rattle.mf_core.specs.declared.history.Event.TheVariants as event
use Rattle.mf_core.specs.declared.progress.ChangeOutcome.TheVariants as outcome
use Rattle.mf_core.specs.declared.progress.Commit.TheVariants as commit
use Rattle.mf_core.specs.LegalHistory.{next_number}
use Rattle.mf_core.specs.CoreView.{CoreView, run_state, specs_of, with_next, Changes, Commits}
use Rattle.mf_hist.specs.HistoryText.{event_text}
use Rattle.mf_steps.specs.StepRun.{StepRun, kept_at, KeptPlan}
use Rattle.mf_steps.specs.Stepper.{StepperView, step_run}
use Rattle.mf_steps.specs.Steps.{stale_text, waits_text}
use Rattle.mf_steps.specs.Answers.{DoesStep, PrintsLast}

abbrev pub events_of : CoreView → List Event
events_of core = core.history.events.list

abbrev pub run_with : CoreView → List (Option KeptPlan) → StepRun
run_with core kept = step_run (record { core = core; kept = kept })

-- what a branch of a match gave is what the match gave
pub in_branch : {T E X Q : Type 0} (P : X → Type 0) (result its : Result T E) (out written : X) → result ≡ its → out ≡ written → (Q → P written) → OnOk its Q → OnOk result (P out)
in_branch P result its out written result_is out_is gives given =
    subst (λ out. OnOk result (P out)) (sym out_is) (subst (λ r. OnOk r (P written)) (sym result_is) (on_ok_weaker its gives given))

module _ (s : Script) (old : StepperView) (new : CoreView) (t : ℕ) (before after : List ℕ) (same : s ≡ old.core.script) where
  -- the line of the event that came
  prints : (events : List Event) (e : Event) → new ≡ with_next old.core e → events ≡ events_of new → PrintsLast s events before after
      → after ≡ before ++ event_text old.core.script e
  prints events e is events_are last =
      subst (λ (s : Script). after ≡ before ++ event_text s e) same (last (events_of old.core) e (events_are ∙ ap events_of is))

  pub changes : (events : List Event) → Changes old.core t outcome.Done new → events ≡ events_of new → PrintsLast s events before after
      → DoesStep old step.Change t (record { core = new; kept = old.kept }) before after
  changes events changed events_are last =
      let reply = changed.1.0 in
      let e = event.Changed t (next_number (run_state old.core) t) reply in (
        event_text old.core.script e,
        inl (changed.0, (reply, changed.1.1, (ap (λ core. run_with core old.kept) changed.1.2, refl))),
        prints events e changed.1.2 events_are last,
      )

  pub waits : (n : ℕ) → Changes old.core t (outcome.Waits n) new → after ≡ before ++ waits_text s t n
      → DoesStep old step.Change t (record { core = new; kept = old.kept }) before after
  waits n waited written = (
    waits_text old.core.script t n,
    inr (
      subst (λ n. 0 < n) (sym waited.0) waited.1,
      ap (λ core. run_with core old.kept) waited.2,
      ap (waits_text old.core.script t) (sym waited.0),
    ),
    written ∙ ap (λ (s : Script). before ++ waits_text s t n) same,
  )

  module _ (kept : KeptPlan) (plans : List (Option KeptPlan)) (listed : List Entry) (found : kept_at old.kept t ≡ Some kept)
      (taken : plans ≡ slice_set old.kept t None) (listed_is : listed ≡ specs_of old.core) where
    pub commits : (events : List Event) → Commits old.core t listed kept.plan commit.Done new → events ≡ events_of new → PrintsLast s events before after
        → DoesStep old step.Done t (record { core = new; kept = plans }) before after
    commits events done events_are last =
        let reply = done.1.0 in
        let e = event.Done t (next_number (run_state old.core) t) reply in (
          event_text old.core.script e,
          (
            kept,
            found,
            inl (done.0.0, (reply, done.1.1, (ap (λ core. run_with core plans) done.1.2 ∙ ap (run_with (with_next old.core e)) taken, refl))),
          ),
          prints events e done.1.2 events_are last,
        )

    pub stale : Commits old.core t listed kept.plan commit.Stale new → after ≡ before ++ stale_text s t
        → DoesStep old step.Done t (record { core = new; kept = plans }) before after
    stale refused written = (
      stale_text old.core.script t,
      (
        kept,
        found,
        inr (λ planned. refused.0 (planned, listed_is), ap (λ core. run_with core plans) refused.1 ∙ ap (run_with old.core) taken, refl),
      ),
      written ∙ ap (λ (s : Script). before ++ stale_text s t) same,
    )
