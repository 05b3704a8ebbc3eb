-- The lines of a step run without those of stale plans and of changes that wait are those of its history.
use Rattle.std.proofs.Common.{◌≡◌, ℕ, List, [], ◌∷◌, ◌++◌, append-nil, append_assoc, sym, refl, ap, ◌∙◌, inl, inr}
use Rattle.std.specs.List.{flat_map}
use Rattle.mf_calls.specs.declared.script.Script.{Script}
use Rattle.mf_calls.specs.declared.script.Step.{Step}
use Rattle.mf_calls.specs.declared.script.StepKind.{StepKind}
use Rattle.mf_calls.specs.declared.script.StepKind.TheVariants as step
use Rattle.mf_core.specs.declared.history.Event.{Event}
use Rattle.mf_core.specs.declared.history.Event.TheVariants as event
use Rattle.mf_core.specs.LegalHistory.{next_number}
use Rattle.mf_core.specs.Progress.{open_entries}
use Rattle.mf_hist.specs.HistoryText.{boot_text, event_text}
use Rattle.mf_steps.specs.StepRun.{StepRun, state_in, step_opening, without_plan}
use Rattle.mf_steps.specs.Steps.{Appends, Does, AreTaken, CommitsOrStale, ChangesOrWaits}
use Rattle.mf_steps.specs.Laws.{Leaves, StepTextsTellHistories}
use Rattle.mf_steps.specs.Laws.Leaves.{nothing, event as event_left, stale as stale_left, waits as waits_left}

-- the texts of some events
abbrev lines_of : Script → List Event → List ℕ
lines_of s es = flat_map (event_text s) es

lines_more : (s : Script) (es more : List Event) → lines_of s (es ++ more) ≡ lines_of s es ++ lines_of s more
lines_more s [] more = refl
lines_more s (e ∷ es) more = ap (λ (rest : List ℕ). event_text s e ++ rest) (lines_more s es more) ∙ sym (append_assoc (event_text s e) (lines_of s es) (lines_of s more))

-- the step adds these events, and of its text their lines are left
record Adds (s : Script) (old : StepRun) (text : List ℕ) (new : StepRun) : Type 0 where
  es : List Event
  events : new.events ≡ old.events ++ es
  left : (later rest : List ℕ) → Leaves s later rest → Leaves s (text ++ later) (lines_of s es ++ rest)

adds_event : (s : Script) (old new : StepRun) (e : Event) (text : List ℕ) → Appends s old e text new → Adds s old text new
adds_event s old new e text appends =
    record {
      es = e ∷ [];
      events = ap (λ (r : StepRun). r.events) appends.0;
      left = λ later rest leaves.
          rw (appends.1, append-nil (event_text s e)) (event_left e later rest leaves);
    }

adds_nothing : (s : Script) (old new : StepRun) (text : List ℕ) → new.events ≡ old.events → ((later rest : List ℕ) → Leaves s later rest → Leaves s (text ++ later) rest)
    → Adds s old text new
adds_nothing s old new text same left = record { es = []; events = same ∙ sym (append-nil old.events); left = left }

does_adds : (s : Script) (old new : StepRun) (kind : StepKind) (t : ℕ) (text : List ℕ) → Does s old kind t text new → Adds s old text new
does_adds s old new step.Enter t text does = adds_event s old new (event.Enter t) text does
does_adds s old new step.Plan t text does =
    adds_nothing s old new text (ap (λ (r : StepRun). r.events) does.2) (λ later rest leaves. rw does.3 leaves)
does_adds s old new step.Done t text does = by_commit does.2 where
  by_commit : CommitsOrStale s old t does.0.plan text new → Adds s old text new
  by_commit (inl done) =
      let here = adds_event s (without_plan old t) new (event.Done t (next_number (state_in s old) t) done.1.0) text done.1.2 in
      record { es = here.es; events = here.events; left = here.left }
  by_commit (inr stale) =
      adds_nothing s old new text (ap (λ (r : StepRun). r.events) stale.1) (λ later rest leaves. rw stale.2 (stale_left t later rest leaves))
does_adds s old new step.Leave t text does = adds_event s old new (event.Leave t) text does
does_adds s old new step.Change t text does = by_change does where
  by_change : ChangesOrWaits s old t text new → Adds s old text new
  by_change (inl change) = adds_event s old new (event.Changed t (next_number (state_in s old) t) change.1.0) text change.1.2
  by_change (inr waits) =
      adds_nothing s old new text (ap (λ (r : StepRun). r.events) waits.1)
      (λ later rest leaves. rw waits.2 (waits_left t (open_entries (state_in s old).progress) later rest leaves))

-- the steps add these events, and of their text their lines are left
record AddAll (s : Script) (old : StepRun) (text : List ℕ) (new : StepRun) : Type 0 where
  es : List Event
  events : new.events ≡ old.events ++ es
  left : Leaves s text (lines_of s es)

taken_add : (s : Script) (steps : List Step) (text : List ℕ) (old new : StepRun) → AreTaken s old steps text new → AddAll s old text new
taken_add s [] text old new taken =
    record { es = []; events = ap (λ (r : StepRun). r.events) taken.1 ∙ sym (append-nil old.events); left = rw taken.0 nothing }
taken_add s (x ∷ xs) text old new taken =
    let first : Adds s old taken.1 taken.0 = does_adds s old taken.0 x.kind taken.3.0 taken.1 taken.3.3 in
    let later : AddAll s taken.0 taken.2 new = taken_add s xs taken.2 taken.0 new taken.4 in
    record {
      es = first.es ++ later.es;
      events = later.events ∙ ap (λ (es : List Event). es ++ later.es) first.events ∙ append_assoc old.events first.es later.es;
      left = rw (taken.5, lines_more s first.es later.es) (first.left taken.2 (lines_of s later.es) later.left);
    }

pub told : StepTextsTellHistories
told s h text run =
    let all : AddAll s (step_opening s) run.printed run.last = taken_add s s.steps run.printed (step_opening s) run.last run.taken in (
      run.printed,
      lines_of s all.es,
      run.whole,
      ap (λ (es : List Event). flat_map boot_text h.boots ++ lines_of s es) (run.events ∙ all.events),
      all.left,
    )
