use Rattle.std.proofs.Common.{◌≡◌, ◌<◌, None, Some, OnOk, length, sym, ap, ◌∙◌, subst, string_bytes, arith}
use Rattle.std.specs.Prelude.{slice_set}
use Rattle.mf_calls.specs.declared.script.StepKind.TheVariants as step
use Rattle.mf_perform.specs.Verdict.{verdict_of}
use Rattle.mf_core.specs.declared.history.History.{History}
use Rattle.mf_core.specs.declared.progress.Commit.{Commit}
use Rattle.mf_core.specs.CoreView.{Commits}
use Rattle.mf_steps.specs.Answers.{DoesStep}
use Rattle.mf_steps.specs.StepRun.{KeptPlan, kept_at}
use Rattle.mf_steps.specs.Stepper.{StepperView, IsSoundStepper}
use Rattle.mf_steps.proofs.Doing.{in_branch, commits, stale}
use Rattle.mf_steps.proofs.Sound.{sound_dropped, sound_committed, committed_script}
use Rattle.mf_steps.proofs.stepper.Stepper.done.Goals as goal
use Rattle.mf_steps.proofs.stepper.Stepper.done.Goals.{in-Done, in-Stale}

pub done-outcome-requires-clause-verdict : goal.done-outcome-requires-clause-verdict
done-outcome-requires-clause-verdict g c κs within =
    (c.self.invariant.good c.args.task (record { plan = c.in-Some.plan.now; verdict = c.in-Some.verdict.now }) c.in-Some.ensures).verdict
    ∙ ap (λ entries. verdict_of entries c.in-Some.plan.now) (sym (c.new-listed.ensures.entries ∙ c.self.invariant.policies.listed))

pub invariant_of-self : goal.invariant_of-self
invariant_of-self g c =
    let lt : c.args.task < length c.self.inside.core.script.tasks = subst (λ (r : StepperView). c.args.task < length r.core.script.tasks) (sym c.self.view_is) c.requires.task in
    let here : c.args.task < length c.self.inside.kept = omega (arith, lt, c.self.invariant.places) in
    subst (λ kept. IsSoundStepper c.self.inside.script.now c.done-outcome.new.self c.self.inside.fixed c.self.inside.list c.self.inside.catalogue kept) (sym c.forget.ensures)
    (subst (λ run. IsSoundStepper c.self.inside.script.now run c.self.inside.fixed c.self.inside.list c.self.inside.catalogue (slice_set c.self.inside.kept c.args.task None)) (sym c.in_err-outcome.ensures.err)
    (sound_dropped c.self.inside.script.now c.self.inside.fixed c.self.inside.list c.self.inside.catalogue c.self.inside.core c.args.task c.self.inside.kept c.self.invariant here))

pub invariant_of-self-2 : goal.invariant_of-self-2
invariant_of-self-2 g c =
    let lt : c.args.task < length c.self.inside.core.script.tasks = subst (λ (r : StepperView). c.args.task < length r.core.script.tasks) (sym c.self.view_is) c.requires.task in
    let here : c.args.task < length c.self.inside.kept = omega (arith, lt, c.self.invariant.places) in
    subst (λ kept. IsSoundStepper c.self.inside.script.now c.done-outcome.new.self c.self.inside.fixed c.self.inside.list c.self.inside.catalogue kept) (sym c.forget.ensures)
    (sound_committed c.self.inside.script.now c.self.inside.fixed c.self.inside.list c.self.inside.catalogue c.self.inside.core c.done-outcome.new.self c.args.task c.in_ok-outcome.field-0 c.self.inside.kept
    c.self.invariant here
    (committed_script c.self.inside.core c.done-outcome.new.self c.args.task _ c.in-Some.plan.now c.in_ok-outcome.field-0 c.in_ok-outcome.ensures.commit)
    c.in_ok-outcome.ensures.progress c.in_ok-outcome.ensures.specs)

pub returns-clause-does : goal.returns-clause-does
returns-clause-does g c =
    let before : StepperView = record { core = c.self.inside.core; kept = c.self.inside.kept } in
    let after : StepperView = record { core = c.done-outcome.new.self; kept = c.forget.new.self } in
    let kept : KeptPlan = record { plan = c.in-Some.plan.now; verdict = c.in-Some.verdict.now } in
    let plan_is : kept_at c.self.inside.kept c.args.task ≡ Some kept = c.in-Some.ensures in
    let listed_is = c.new-listed.ensures.entries ∙ c.self.invariant.policies.listed in
    let here = string_bytes c.args.out.now in
    subst (λ (old : StepperView). OnOk c.match-branch-2.result (DoesStep old step.Done c.args.task after here (string_bytes c.match-branch-2.out))) c.self.view_is
    (elim c.match-branch-2.branch [
      | in-Done w ↦
          in_branch (λ out. DoesStep before step.Done c.args.task after here (string_bytes out)) _ _ _ _ w.result-is w.out-is
          (commits c.self.inside.script.now before c.done-outcome.new.self c.args.task _ _ c.self.invariant.same kept c.forget.new.self c.new-listed.result
          plan_is c.forget.ensures listed_is w.as_slice-events.result.now
          (subst (λ (by : Commit). Commits c.self.inside.core c.args.task c.new-listed.result c.in-Some.plan.now by c.done-outcome.new.self) w.in-Done.is c.in_ok-outcome.ensures.commit)
          (w.as_slice-events.ensures ∙ ap (λ (h : History). h.events.list) w.history.ensures.value))
          w.print_last.ensures
      | in-Stale w ↦
          in_branch (λ out. DoesStep before step.Done c.args.task after here (string_bytes out)) _ _ _ _ w.result-is w.out-is
          (stale c.self.inside.script.now before c.done-outcome.new.self c.args.task _ _ c.self.invariant.same kept c.forget.new.self c.new-listed.result
          plan_is c.forget.ensures listed_is
          (subst (λ (by : Commit). Commits c.self.inside.core c.args.task c.new-listed.result c.in-Some.plan.now by c.done-outcome.new.self) w.in-Stale.is c.in_ok-outcome.ensures.commit))
          w.print_stale.ensures
    ])
