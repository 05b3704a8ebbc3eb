-- What a stepper keeps true: the plans that are kept stay good, step by step.
use Rattle.std.proofs.Common.{◌≡◌, ◌≢◌, ℕ, ◌+◌, ◌<◌, ◌≤◌, Bool, true, false, zero, suc, List, [], ◌∷◌, length, map, Option, Some, None, refl, sym, ap, ◌∙◌, subst, arith, length-set, eqb}
use Rattle.std.proofs.lemmas.Bool.Decides.{Decides-eqb}
use Rattle.std.proofs.lemmas.List.{get_or-set_other, get_or-set_same}
use Rattle.std.specs.Prelude.{slice_set, IsTrue}
use Rattle.std.proofs.lemmas.List.Sums.{sum_by-cons}
use Rattle.mf_perform.specs.Verdict.{verdict_of}
use Rattle.mf_core.specs.declared.progress.Phase.{Phase}
use Rattle.mf_core.specs.declared.progress.Phase.TheVariants as phase
use Rattle.mf_core.specs.declared.progress.Progress.{Progress}
use Rattle.mf_core.specs.declared.progress.Turn.TheVariants as turn
use Rattle.mf_core.specs.Progress.{progress_at, open_entries, open_in}
use Rattle.mf_core.specs.Advances.{Advances}
use Rattle.mf_core.specs.LegalHistory.{turn_in, next_line}
use Rattle.mf_core.specs.declared.progress.Commit.{Commit}
use Rattle.mf_core.specs.declared.progress.Commit.TheVariants as commits
use Rattle.mf_core.specs.declared.progress.ChangeOutcome.{ChangeOutcome}
use Rattle.mf_core.specs.declared.progress.ChangeOutcome.TheVariants as outcomes
use Rattle.mf_core.specs.Policies.{AreOf}
use Rattle.mf_core.proofs.Consistency.{entered_phase}
use Rattle.mf_core.specs.CoreView.{CoreView, run_state, specs_of, progress_of, turn_at, AdvancesOn, Changes, Commits}
use Rattle.mf_errno.specs.declared.module.Module.{Module}
use Rattle.mf_policy.specs.Registration.{Entry}
use Rattle.mf_plan.specs.Planned.{Plan}
use Rattle.mf_calls.specs.declared.script.Script.{Script}
use Rattle.mf_calls.specs.declared.script.Task.{Task}
use Rattle.mf_calls.specs.declared.limits.TheConstants.{TASK_LIMIT}
use Rattle.mf_steps.specs.StepRun.{kept_at, KeptPlan}
use Rattle.mf_steps.specs.Stepper.{IsGood, AreGood, IsSoundStepper}

-- a task of another phase has no good plan
turn_entered : (core : CoreView) (t : ℕ) → (progress_at (progress_of core) t).phase ≡ phase.Entered → turn_at core t ≡ turn.Entered
turn_entered core t e = ap (λ (p : Phase). turn_in p (next_line core.script (run_state core).progress t)) e

other_task : (core : CoreView) (kept : List (Option KeptPlan)) (t : ℕ) (u : ℕ) (k : KeptPlan) → AreGood core kept → kept_at kept u ≡ Some k → turn_at core t ≢ turn.Entered → u ≢ t
other_task core kept t u k good is other e = other (ap (turn_at core) (sym e) ∙ turn_entered core u (good u k is).entered)

-- the progress of the others and the policies are as before
good_on : (old new : CoreView) (t : ℕ) (p : Progress) (kept : List (Option KeptPlan)) → AreGood old kept → Advances (progress_of old) (progress_of new) t p → specs_of new ≡ specs_of old
    → ((u : ℕ) (k : KeptPlan) → kept_at kept u ≡ Some k → u ≢ t) → AreGood new kept
good_on old new t p kept good moves specs apart = λ u k is.
    record {
      verdict = (good u k is).verdict ∙ ap (λ specs. verdict_of specs k.plan) (sym specs);
      entered = ap (λ (p : Progress). p.phase) (moves.others u (apart u k is)) ∙ (good u k is).entered;
    }

good_still : (old new : CoreView) (kept : List (Option KeptPlan)) → AreGood old kept → progress_of new ≡ progress_of old → specs_of new ≡ specs_of old → AreGood new kept
good_still old new kept good progress specs = λ u k is.
    record {
      verdict = (good u k is).verdict ∙ ap (λ specs. verdict_of specs k.plan) (sym specs);
      entered = ap (λ (ps : List Progress). (progress_at ps u).phase) progress ∙ (good u k is).entered;
    }

differ : (u t : ℕ) → eqb u t ≡ false → u ≢ t
differ u t e same = let yes : eqb u t ≡ true = (Decides-eqb u t).1 same in cc (yes, e)

some_is : {A : Type 0} (x y : A) → Some x ≡ Some y → x ≡ y
some_is x y e = cc

pub none_some : {A : Type 0} (x : A) → None ≡ Some x → ⊥
none_some x e = cc

-- a plan more
good_kept : (core : CoreView) (t : ℕ) (kept : List (Option KeptPlan)) (new : KeptPlan) → AreGood core kept → t < length kept → IsGood core t new → AreGood core (slice_set kept t (Some new))
good_kept core t kept new good lt fresh = λ u k is. by_place u k is (eqb u t) refl where
  by_place : (u : ℕ) (k : KeptPlan) → kept_at (slice_set kept t (Some new)) u ≡ Some k → (b : Bool) → eqb u t ≡ b → IsGood core u k
  by_place u k is true e =
      let same : u ≡ t = (Decides-eqb u t).0 e in
      let value : kept_at (slice_set kept t (Some new)) t ≡ Some new = get_or-set_same kept t (Some new) None lt in
      let k_is : new ≡ k = some_is new k (sym value ∙ (ap (kept_at (slice_set kept t (Some new))) (sym same) ∙ is)) in
      subst (λ u. IsGood core u k) (sym same) (subst (IsGood core t) k_is fresh)
  by_place u k is false e = good u k (sym (get_or-set_other kept t u (Some new) None (differ u t e)) ∙ is)

-- a plan less
dropped_apart : (kept : List (Option KeptPlan)) (t : ℕ) → t < length kept → (u : ℕ) (k : KeptPlan) → kept_at (slice_set kept t None) u ≡ Some k → u ≢ t
dropped_apart kept t lt u k is same = none_some k (sym (get_or-set_same kept t None None lt) ∙ (ap (kept_at (slice_set kept t None)) (sym same) ∙ is))

good_dropped : (core : CoreView) (t : ℕ) (kept : List (Option KeptPlan)) → AreGood core kept → t < length kept → AreGood core (slice_set kept t None)
good_dropped core t kept good lt = λ u k is. good u k (sym (get_or-set_other kept t u None None (dropped_apart kept t lt u k is)) ∙ is)

-- no plan is kept at first
pub no_plans : (tasks : List Task) (u : ℕ) → kept_at (map (λ task. None) tasks) u ≡ None
no_plans [] u = refl
no_plans (x ∷ tasks) zero = refl
no_plans (x ∷ tasks) (suc u) = no_plans tasks u

-- where no entry is open, none is entered
none_entered : (list : List Progress) (u : ℕ) → open_entries list ≡ 0 → (progress_at list u).phase ≡ phase.Entered → ⊥
none_entered [] u none is = absurd cc
none_entered (x ∷ list) zero none is =
    let one : open_in x.phase ≡ 1 = ap open_in is in
    let split : open_entries (x ∷ list) ≡ open_in x.phase + open_entries list = sum_by-cons (λ (p : Progress). open_in p.phase) x list in
    omega (arith, none, one, split)
none_entered (x ∷ list) (suc u) none is =
    let split : open_entries (x ∷ list) ≡ open_in x.phase + open_entries list = sum_by-cons (λ (p : Progress). open_in p.phase) x list in
    none_entered list u (omega (arith, none, split)) is

-- Phases

pub phase_entered : (core : CoreView) (t : ℕ) → turn_at core t ≡ turn.Entered → (progress_at (progress_of core) t).phase ≡ phase.Entered
phase_entered core t e = entered_phase (progress_at (progress_of core) t).phase (next_line core.script (run_state core).progress t) e

pub entry_other : turn.Entry ≡ turn.Entered → ⊥
entry_other e = cc

pub done_other : turn.Done ≡ turn.Entered → ⊥
done_other e = cc

pub plans_length : (tasks : List Task) (kept : List (Option KeptPlan)) → kept ≡ map (λ task. None) tasks → length kept ≡ length tasks
plans_length tasks kept is = ap length is ∙ same_length tasks where
  same_length : (tasks : List Task) → length {A = Option KeptPlan} (map (λ task. None) tasks) ≡ length tasks
  same_length [] = refl
  same_length (x ∷ tasks) = ap suc (same_length tasks)

pub not_true : IsTrue false → ⊥
not_true e = cc

-- Soundness, step by step

module _ (s : Script) (fixed list : List Entry) (cat : List Module) where
  pub sound_on : (old new : CoreView) (t : ℕ) (p : Progress) (kept : List (Option KeptPlan)) → IsSoundStepper s old fixed list cat kept → new.script ≡ old.script → Advances (progress_of old) (progress_of new) t p
      → specs_of new ≡ specs_of old → turn_at old t ≢ turn.Entered → IsSoundStepper s new fixed list cat kept
  sound_on old new t p kept i script moves specs other = record {
    same = i.same ∙ sym script;
    few = subst (λ (s : Script). length s.tasks ≤ TASK_LIMIT) (sym script) i.few;
    policies = subst (λ specs. AreOf specs fixed list cat) (sym specs) i.policies;
    places = i.places ∙ ap (λ (s : Script). length s.tasks) (sym script);
    good = good_on old new t p kept i.good moves specs (λ u k is. other_task old kept t u k i.good is other);
  }

  pub sound_kept : (core : CoreView) (t : ℕ) (kept : List (Option KeptPlan)) (new : KeptPlan) → IsSoundStepper s core fixed list cat kept → t < length kept → IsGood core t new → IsSoundStepper s core fixed list cat (slice_set kept t (Some new))
  sound_kept core t kept new i lt fresh = record {
    same = i.same;
    few = i.few;
    policies = i.policies;
    places = length-set kept t (Some new) ∙ i.places;
    good = good_kept core t kept new i.good lt fresh;
  }

  pub sound_dropped : (core : CoreView) (t : ℕ) (kept : List (Option KeptPlan)) → IsSoundStepper s core fixed list cat kept → t < length kept → IsSoundStepper s core fixed list cat (slice_set kept t None)
  sound_dropped core t kept i lt = record {
    same = i.same;
    few = i.few;
    policies = i.policies;
    places = length-set kept t None ∙ i.places;
    good = good_dropped core t kept i.good lt;
  }

  pub sound_committed : (old new : CoreView) (t : ℕ) (commit : Commit) (kept : List (Option KeptPlan)) → IsSoundStepper s old fixed list cat kept → t < length kept → new.script ≡ old.script
      → AdvancesOn commit (progress_of old) t (progress_of new) → specs_of new ≡ specs_of old → IsSoundStepper s new fixed list cat (slice_set kept t None)
  sound_committed old new t commit kept i lt script moves specs =
      let drop = sound_dropped old t kept i lt in
      record {
        same = i.same ∙ sym script;
        few = subst (λ (s : Script). length s.tasks ≤ TASK_LIMIT) (sym script) i.few;
        policies = subst (λ specs. AreOf specs fixed list cat) (sym specs) i.policies;
        places = drop.places ∙ ap (λ (s : Script). length s.tasks) (sym script);
        good = by_commit commit moves;
      } where
        by_commit : (commit : Commit) → AdvancesOn commit (progress_of old) t (progress_of new) → AreGood new (slice_set kept t None)
        by_commit commits.Done moves = good_on old new t _ (slice_set kept t None) (good_dropped old t kept i.good lt) moves specs (dropped_apart kept t lt)
        by_commit commits.Stale moves = good_still old new (slice_set kept t None) (good_dropped old t kept i.good lt) moves specs

-- the same script
pub committed_script : (old new : CoreView) (t : ℕ) (listed : List Entry) (plan : Plan) (commit : Commit) → Commits old t listed plan commit new → new.script ≡ old.script
committed_script old new t listed plan commits.Done c = ap (λ (r : CoreView). r.script) c.1.2
committed_script old new t listed plan commits.Stale c = ap (λ (r : CoreView). r.script) c.1

pub changed_script : (old new : CoreView) (t : ℕ) (outcome : ChangeOutcome) → Changes old t outcome new → new.script ≡ old.script
changed_script old new t outcomes.Done c = ap (λ (r : CoreView). r.script) c.1.2
changed_script old new t (outcomes.Waits n) c = ap (λ (r : CoreView). r.script) c.2

good_changed : (old new : CoreView) (t : ℕ) (outcome : ChangeOutcome) (kept : List (Option KeptPlan)) → AreGood old kept → Changes old t outcome new → AreGood new kept
good_changed old new t outcomes.Done kept good c = λ u k is. absurd (none_entered (progress_of old) u c.0 (good u k is).entered)
good_changed old new t (outcomes.Waits n) kept good c = subst (λ core. AreGood core kept) (sym c.2) good

pub sound_changed : (s : Script) (old new : CoreView) (fixed list list' : List Entry) (cat cat' : List Module) (t : ℕ) (outcome : ChangeOutcome) (kept : List (Option KeptPlan)) → IsSoundStepper s old fixed list cat kept
    → Changes old t outcome new → AreOf (specs_of new) fixed list' cat' → IsSoundStepper s new fixed list' cat' kept
sound_changed s old new fixed list list' cat cat' t outcome kept i c policies =
    let script = changed_script old new t outcome c in
    record {
      same = i.same ∙ sym script;
      few = subst (λ (s : Script). length s.tasks ≤ TASK_LIMIT) (sym script) i.few;
      policies = policies;
      places = i.places ∙ ap (λ (s : Script). length s.tasks) (sym script);
      good = good_changed old new t outcome kept i.good c;
    }
