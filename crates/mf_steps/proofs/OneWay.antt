-- Step runs end one way: what a step does is determined by the step.
use Rattle.std.proofs.Common.{◌≡◌, ℕ, ◌+◌, suc, List, [], ◌∷◌, ◌++◌, length, Some, refl, sym, ap, ◌∙◌, subst, inl, inr, arith}
use Rattle.std.specs.List.{flat_map}
use Rattle.mf_calls.specs.declared.script.Script.{Script}
use Rattle.mf_calls.specs.declared.script.Step.{Step}
use Rattle.mf_calls.specs.declared.script.StepKind.{StepKind}
use Rattle.mf_calls.specs.declared.script.StepKind.TheVariants as step
use Rattle.mf_plan.specs.Planned.{Plan}
use Rattle.mf_plan.specs.declared.reply.Reply.{Reply}
use Rattle.mf_policy.specs.declared.registration.Registration.{Registration}
use Rattle.mf_perform.specs.Verdict.{verdict_of}
use Rattle.mf_core.specs.declared.history.Event.{Event}
use Rattle.mf_core.specs.declared.history.Event.TheVariants as event
use Rattle.mf_core.specs.LegalHistory.{next_number}
use Rattle.mf_hist.specs.HistoryText.{boot_text}
use Rattle.mf_steps.specs.StepRun.{StepRun, state_in, step_opening, with_plan, without_plan, KeptPlan}
use Rattle.mf_steps.specs.Steps.{Appends, DoesCall, MakesChange, KeepsPlan, CommitsOrStale, ChangesOrWaits, Does, IsTaken, AreTaken, IsRefused}
use Rattle.mf_steps.specs.Laws.{StepRunsEndOneWay}

-- one text and one run
abbrev AreOne : List ℕ → StepRun → List ℕ → StepRun → Type 0
AreOne text new other another = (text ≡ other) × (new ≡ another)

some_is : {A : Type 0} (x y : A) → Some x ≡ Some y → x ≡ y
some_is x y e = cc

head_is : {A : Type 0} (x y : A) (xs ys : List A) → x ∷ xs ≡ y ∷ ys → x ≡ y
head_is x y xs ys e = cc

tail_is : {A : Type 0} (x y : A) (xs ys : List A) → x ∷ xs ≡ y ∷ ys → xs ≡ ys
tail_is x y xs ys e = cc

-- What one step does

module _ (s : Script) (old : StepRun) (t : ℕ) (text other : List ℕ) (new another : StepRun) where
  appends_once : (e : Event) → Appends s old e text new → Appends s old e other another → AreOne text new other another
  appends_once e a b = (a.1 ∙ sym b.1, a.0 ∙ sym b.0)

  call_once : DoesCall s old t text new → DoesCall s old t other another → AreOne text new other another
  call_once a b =
      let same : a.0 ≡ b.0 = some_is a.0 b.0 (sym a.1 ∙ b.1) in
      appends_once (event.Done t (next_number (state_in s old) t) b.0) (subst (λ (reply : Reply). Appends s old (event.Done t (next_number (state_in s old) t) reply) text new) same a.2) b.2

  change_once : MakesChange s old t text new → MakesChange s old t other another → AreOne text new other another
  change_once a b =
      let same : a.0 ≡ b.0 = some_is a.0 b.0 (sym a.1 ∙ b.1) in
      appends_once (event.Changed t (next_number (state_in s old) t) b.0) (subst (λ (reply : Reply). Appends s old (event.Changed t (next_number (state_in s old) t) reply) text new) same a.2) b.2

  abbrev keeping : Plan → StepRun
  keeping plan = with_plan old t (record { plan = plan; verdict = verdict_of (state_in s old).state.specs plan })

  plan_once : KeepsPlan s old t text new → KeepsPlan s old t other another → AreOne text new other another
  plan_once a b = (a.3 ∙ sym b.3, a.2 ∙ ap keeping (some_is a.0 b.0 (sym a.1 ∙ b.1)) ∙ sym b.2)

  waits_once : ChangesOrWaits s old t text new → ChangesOrWaits s old t other another → AreOne text new other another
  waits_once (inl a) (inl b) = change_once a.1 b.1
  waits_once (inl a) (inr b) = absurd (omega (arith, a.0, b.0))
  waits_once (inr a) (inl b) = absurd (omega (arith, a.0, b.0))
  waits_once (inr a) (inr b) = (a.2 ∙ sym b.2, a.1 ∙ sym b.1)

commits_once : (s : Script) (old : StepRun) (t : ℕ) (text other : List ℕ) (new another : StepRun) (plan : Plan) → CommitsOrStale s old t plan text new → CommitsOrStale s old t plan other another
    → AreOne text new other another
commits_once s old t text other new another plan (inl a) (inl b) = call_once s (without_plan old t) t text other new another a.1 b.1
commits_once s old t text other new another plan (inl a) (inr b) = absurd (b.0 a.0)
commits_once s old t text other new another plan (inr a) (inl b) = absurd (a.0 b.0)
commits_once s old t text other new another plan (inr a) (inr b) = (a.2 ∙ sym b.2, a.1 ∙ sym b.1)

does_once : (s : Script) (old : StepRun) (kind : StepKind) (t : ℕ) (text other : List ℕ) (new another : StepRun) → Does s old kind t text new → Does s old kind t other another
    → AreOne text new other another
does_once s old step.Enter t text other new another a b = appends_once s old t text other new another (event.Enter t) a b
does_once s old step.Plan t text other new another a b = plan_once s old t text other new another a b
does_once s old step.Done t text other new another a b =
    let same : a.0 ≡ b.0 = some_is a.0 b.0 (sym a.1 ∙ b.1) in
    commits_once s old t text other new another b.0.plan (subst (λ (k : KeptPlan). CommitsOrStale s old t k.plan text new) same a.2) b.2
does_once s old step.Leave t text other new another a b = appends_once s old t text other new another (event.Leave t) a b
does_once s old step.Change t text other new another a b = waits_once s old t text other new another a b

taken_once : (s : Script) (old : StepRun) (x : Step) (text other : List ℕ) (new another : StepRun) → IsTaken s old x text new → IsTaken s old x other another → AreOne text new other another
taken_once s old x text other new another a b =
    let same : a.0 ≡ b.0 = some_is a.0 b.0 (sym a.1 ∙ b.1) in
    does_once s old x.kind b.0 text other new another (subst (λ t. Does s old x.kind t text new) same a.3) b.3

-- Steps one after another

all_once : (s : Script) (old : StepRun) (xs : List Step) (text other : List ℕ) (new another : StepRun) → AreTaken s old xs text new → AreTaken s old xs other another → AreOne text new other another
all_once s old [] text other new another a b = (a.0 ∙ sym b.0, a.1 ∙ sym b.1)
all_once s old (x ∷ xs) text other new another a b =
    let first = taken_once s old x a.1 b.1 a.0 b.0 a.3 b.3 in
    let rest = all_once s b.0 xs a.2 b.2 new another (subst (λ mid. AreTaken s mid xs a.2 new) first.1 a.4) b.4 in
    (a.5 ∙ ap (λ front. front ++ a.2) first.0 ∙ ap (λ more. b.1 ++ more) rest.0 ∙ sym b.5, rest.1)

-- a step that is refused isn't taken

never : (s : Script) (r : StepRun) (x : Step) (text : List ℕ) (new : StepRun) → IsRefused s r x → IsTaken s r x text new → ⊥
never s r x text new refuses taken = refuses taken.0 taken.1 taken.2

not_all : (s : Script) (r : StepRun) (before : List Step) (x : Step) (behind : List Step) (text other : List ℕ) (mid last : StepRun) → AreTaken s r before text mid → IsRefused s mid x
    → AreTaken s r (before ++ x ∷ behind) other last → ⊥
not_all s r [] x behind text other mid last taken refuses all = never s r x all.1 all.0 (subst (λ m. IsRefused s m x) taken.1 refuses) all.3
not_all s r (y ∷ before) x behind text other mid last taken refuses all =
    let first = taken_once s r y taken.1 all.1 taken.0 all.0 taken.3 all.3 in
    not_all s all.0 before x behind taken.2 all.2 mid last (subst (λ m. AreTaken s m before taken.2 mid) first.1 taken.4) refuses all.4

same_place : (s : Script) (r : StepRun) (before : List Step) (x : Step) (behind : List Step) (text : List ℕ) (mid : StepRun) (before' : List Step) (x' : Step) (behind' : List Step)
    (text' : List ℕ) (mid' : StepRun) → before ++ x ∷ behind ≡ before' ++ x' ∷ behind' → AreTaken s r before text mid → IsRefused s mid x → AreTaken s r before' text' mid' → IsRefused s mid' x'
    → length before ≡ length before'
same_place s r [] x behind text mid [] x' behind' text' mid' same taken refuses taken' refuses' = refl
same_place s r [] x behind text mid (z ∷ before') x' behind' text' mid' same taken refuses taken' refuses' =
    absurd
    (never s r z taken'.1 taken'.0
    (subst (λ (z : Step). IsRefused s r z) (head_is x z behind (before' ++ x' ∷ behind') same) (subst (λ m. IsRefused s m x) taken.1 refuses)) taken'.3)
same_place s r (y ∷ before) x behind text mid [] x' behind' text' mid' same taken refuses taken' refuses' =
    absurd
    (never s r y taken.1 taken.0
    (subst (λ (z : Step). IsRefused s r z) (sym (head_is y x' (before ++ x ∷ behind) behind' same)) (subst (λ m. IsRefused s m x') taken'.1 refuses')) taken.3)
same_place s r (y ∷ before) x behind text mid (z ∷ before') x' behind' text' mid' same taken refuses taken' refuses' =
    let head : z ≡ y = sym (head_is y z (before ++ x ∷ behind) (before' ++ x' ∷ behind') same) in
    let first = taken_once s r y taken.1 taken'.1 taken.0 taken'.0 taken.3 (subst (λ (z : Step). IsTaken s r z taken'.1 taken'.0) head taken'.3) in
    ap suc
    (same_place s taken'.0 before x behind taken.2 mid before' x' behind' taken'.2 mid' (tail_is y z (before ++ x ∷ behind) (before' ++ x' ∷ behind') same)
    (subst (λ m. AreTaken s m before taken.2 mid) first.1 taken.4) refuses taken'.4 refuses')

-- The law

abbrev texts : List Registration → List ℕ → List ℕ
texts boots printed = flat_map boot_text boots ++ printed

pub one_way : StepRunsEndOneWay
one_way = record {
  one_text = λ s h g text other a b.
      let once = all_once s (step_opening s) s.steps a.printed b.printed a.last b.last a.taken b.taken in
      a.whole ∙ ap (λ boots. texts boots a.printed) (a.boots ∙ sym b.boots) ∙ ap (texts g.boots) once.0 ∙ sym b.whole;
  one_history = λ s h g text other a b.
      let once = all_once s (step_opening s) s.steps a.printed b.printed a.last b.last a.taken b.taken in
      record { boots = a.boots ∙ sym b.boots; events = a.events ∙ ap (λ (r : StepRun). r.events) once.1 ∙ sym b.events };
  one_refused = λ s n m a b.
      a.is_next
      ∙ ap (λ k. k + 1) (same_place s (step_opening s) a.before a.refused a.behind a.printed a.last b.before b.refused b.behind b.printed b.last (sym a.steps ∙ b.steps) a.taken a.refuses b.taken b.refuses)
      ∙ sym b.is_next;
  not_both = λ s n all first.
      not_all s (step_opening s) first.before first.refused first.behind first.printed all.1 first.last all.0 first.taken first.refuses
      (subst (λ xs. AreTaken s (step_opening s) xs all.1 all.0) first.steps all.2);
}
