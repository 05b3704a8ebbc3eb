-- The histories of step runs are legal.
use Rattle.std.proofs.Common.{ℕ, List, [], ◌∷◌, sym, refl, subst, inl, inr}
use Rattle.mf_calls.specs.declared.script.Script.{Script}
use Rattle.mf_calls.specs.declared.script.Step.{Step}
use Rattle.mf_calls.specs.declared.script.StepKind.{StepKind}
use Rattle.mf_calls.specs.declared.script.StepKind.TheVariants as step
use Rattle.mf_core.specs.declared.history.Event.{Event}
use Rattle.mf_core.specs.declared.history.Event.TheVariants as event
use Rattle.mf_core.specs.LegalHistory.{MayCome, AllMayCome, opening_run, next_number}
use Rattle.mf_core.proofs.Laws.{AllMayCome-append}
use Rattle.mf_steps.specs.StepRun.{StepRun, state_in, step_opening, without_plan}
use Rattle.mf_steps.specs.Steps.{IsInTurn, Appends, Does, AreTaken, CommitsOrStale, ChangesOrWaits}
use Rattle.mf_steps.specs.Laws.{StepRunsAreLegal}

-- each event of the run may come after those before it
abbrev MayBe : Script → StepRun → Type 0
MayBe s r = AllMayCome s (opening_run s) r.events

one_more : (s : Script) (old new : StepRun) (e : Event) (text : List ℕ) → MayBe s old → MayCome s (state_in s old) e → Appends s old e text new → MayBe s new
one_more s old new e text is may appends = subst (MayBe s) (sym appends.0) (AllMayCome-append s (opening_run s) old.events e is may)

does_legal : (s : Script) (old new : StepRun) (kind : StepKind) (t : ℕ) (text : List ℕ) → MayBe s old → IsInTurn s old kind t → Does s old kind t text new → MayBe s new
does_legal s old new step.Enter t text is turn does = one_more s old new (event.Enter t) text is turn does
does_legal s old new step.Plan t text is turn does = subst (MayBe s) (sym does.2) is
does_legal s old new step.Done t text is turn does = by_commit does.2 where
  by_commit : CommitsOrStale s old t does.0.plan text new → MayBe s new
  by_commit (inl done) = one_more s (without_plan old t) new (event.Done t (next_number (state_in s old) t) done.1.0) text is (turn.0, refl, done.1.1) done.1.2
  by_commit (inr stale) = subst (MayBe s) (sym stale.1) is
does_legal s old new step.Leave t text is turn does = one_more s old new (event.Leave t) text is (inl turn) does
does_legal s old new step.Change t text is turn does = by_change does where
  by_change : ChangesOrWaits s old t text new → MayBe s new
  by_change (inl change) = one_more s old new (event.Changed t (next_number (state_in s old) t) change.1.0) text is (change.0, turn, refl, change.1.1) change.1.2
  by_change (inr waits) = subst (MayBe s) (sym waits.1) is

taken_legal : (s : Script) (steps : List Step) (text : List ℕ) (old new : StepRun) → MayBe s old → AreTaken s old steps text new → MayBe s new
taken_legal s [] text old new is taken = subst (MayBe s) (sym taken.1) is
taken_legal s (x ∷ xs) text old new is taken =
    taken_legal s xs taken.2 taken.0 new (does_legal s old taken.0 x.kind taken.3.0 taken.1 is taken.3.2 taken.3.3) taken.4

pub legal : StepRunsAreLegal
legal s h text run = record {
  boots = run.boots;
  events = subst (AllMayCome s (opening_run s)) (sym run.events) (taken_legal s s.steps run.printed (step_opening s) run.last tt run.taken);
}
