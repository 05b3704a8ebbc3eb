-- Steps one after another.
use Rattle.std.proofs.Common.{◌≡◌, ℕ, ◌+◌, ◌<◌, ◌≤◌, Bool, true, false, List, [], ◌∷◌, ◌++◌, length, get_or, take, drop, Option, Some, None, refl, sym, ap, ◌∙◌, subst, arith, append_assoc, append-nil}
use Rattle.std.proofs.lemmas.List.{length-take-le, take_all, take_more, take-append-drop}
use Rattle.std.specs.List.{flat_map}
use Rattle.mf_calls.specs.declared.script.Script.{Script}
use Rattle.mf_calls.specs.declared.script.Step.{Step}
use Rattle.mf_core.specs.CoreView.{CoreView}
use Rattle.mf_core.specs.Opening.{boots_of}
use Rattle.mf_hist.specs.HistoryText.{boot_text}
use Rattle.mf_steps.specs.StepRun.{StepRun}
use Rattle.mf_steps.specs.Stepper.{StepperView, step_run}
use Rattle.mf_calls.specs.Tasks.{task_named}
use Rattle.mf_steps.specs.Steps.{AreTaken, IsTaken, IsRefused, IsInTurn}
use Rattle.mf_steps.specs.Answers.{StepsOrNot, TakesSteps}
use Rattle.mf_steps.specs.StepText.{IsStepRun}

some_is : {A : Type 0} (x y : A) → Some x ≡ Some y → x ≡ y
some_is x y e = cc

pub one_more : (s : Script) (old : StepRun) (xs : List Step) (text : List ℕ) (mid : StepRun) (x : Step) (more : List ℕ) (new : StepRun) → AreTaken s old xs text mid → IsTaken s mid x more new
    → AreTaken s old (xs ++ x ∷ []) (text ++ more) new
one_more s old [] text mid x more new taken step =
    (new, more, [], subst (λ r. IsTaken s r x more new) taken.1 step, (refl, refl), ap (λ t. t ++ more) taken.0 ∙ sym (append-nil more))
one_more s old (y ∷ xs) text mid x more new taken step =
    (taken.0, taken.1, taken.2 ++ more, taken.3, one_more s taken.0 xs taken.2 mid x more new taken.4 step, ap (λ t. t ++ more) taken.5 ∙ append_assoc taken.1 taken.2 more)

pub another : (s : Script) (r : StepRun) (x : Step) (t u : ℕ) → task_named s x.task ≡ Some t → task_named s x.task ≡ Some u → IsInTurn s r x.kind u → IsInTurn s r x.kind t
another s r x t u is also turn = subst (IsInTurn s r x.kind) (some_is u t (sym also ∙ is)) turn

-- In the loop over steps

step_taken : (b : Bool) (old : StepperView) (x : Step) (new : StepperView) (before after : List ℕ) → b ≡ true → StepsOrNot b old x new before after
    → (text : List ℕ) × IsTaken old.core.script (step_run old) x text (step_run new) × (after ≡ before ++ text)
step_taken true old x new before after is h = h
step_taken false old x new before after is h = absurd cc

pub step_refused : (b : Bool) (old : StepperView) (x : Step) (new : StepperView) (before after : List ℕ) → b ≡ false → StepsOrNot b old x new before after
    → IsRefused old.core.script (step_run old) x
step_refused true old x new before after is h = absurd cc
step_refused false old x new before after is h = h.0

one_step : (steps : List Step) (i : ℕ) (x : Step) → i < length steps → x ≡ get_or steps i x → take (i + 1) steps ≡ take i steps ++ x ∷ []
one_step steps i x lt is = take_more steps i x lt ∙ ap (λ y. take i steps ++ y ∷ []) (sym is)

pub next_taken : (s : Script) (first : StepRun) (old new : StepperView) (steps : List Step) (i : ℕ) (x : Step) (b : Bool) (printed before after boots : List ℕ) → i < length steps
    → x ≡ get_or steps i x → AreTaken s first (take i steps) printed (step_run old) → old.core.script ≡ s → before ≡ boots ++ printed → b ≡ true → StepsOrNot b old x new before after
    → (all : List ℕ) × AreTaken s first (take (i + 1) steps) all (step_run new) × (after ≡ boots ++ all)
next_taken s first old new steps i x b printed before after boots lt is taken script so_far holds h =
    let step = step_taken b old x new before after holds h in (
      printed ++ step.0,
      subst (λ xs. AreTaken s first xs (printed ++ step.0) (step_run new)) (sym (one_step steps i x lt is))
          (one_more s first (take i steps) printed (step_run old) x step.0 (step_run new) taken (subst (λ s. IsTaken s (step_run old) x step.0 (step_run new)) script step.1)),
      step.2 ∙ (ap (λ t. t ++ step.0) so_far ∙ append_assoc boots printed step.0),
    )

pub split_steps : (steps : List Step) (i : ℕ) (x : Step) → i < length steps → x ≡ get_or steps i x → steps ≡ take i steps ++ x ∷ drop (i + 1) steps
split_steps steps i x lt is =
    sym (take-append-drop (i + 1) steps) ∙ (ap (λ xs. xs ++ drop (i + 1) steps) (one_step steps i x lt is) ∙ append_assoc (take i steps) (x ∷ []) (drop (i + 1) steps))

pub steps_before : (steps : List Step) (i : ℕ) → i < length steps → i + 1 ≡ length (take i steps) + 1
steps_before steps i lt = let len : length (take i steps) ≡ i = length-take-le i steps (omega (arith, lt)) in omega (arith, len)

pub all_steps : (steps : List Step) (i : ℕ) → length steps ≤ i → take i steps ≡ steps
all_steps steps i all = take_all i steps all

-- The answer of the whole, where all steps are taken

pub all_taken : (s : Script) (old : StepperView) (core : CoreView) (text : List ℕ) (found : Option ℕ) → found ≡ None → TakesSteps s (step_run old) text found → old.core.script ≡ s → core ≡ old.core
    → core.history.boots ≡ boots_of core.script → IsStepRun s core.history text × (core.script ≡ s)
all_taken s old core text found is h script same boots =
    let taken : TakesSteps s (step_run old) text None = subst (TakesSteps s (step_run old) text) is h in
    let script_is : core.script ≡ s = ap (λ (core : CoreView). core.script) same ∙ script in
    let boots_are : core.history.boots ≡ boots_of s = boots ∙ ap boots_of script_is in (
      record {
        last = step_run old;
        printed = taken.0;
        taken = taken.1;
        boots = boots_are;
        events = ap (λ (core : CoreView). core.history.events.list) same;
        whole = taken.2 ∙ ap (λ boots. flat_map boot_text boots ++ taken.0) (sym boots_are);
      },
      script_is,
    )
