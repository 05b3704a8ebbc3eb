use Rattle.std.proofs.Common.{◌≡◌, ℕ, List, Some, refl, sym, ap, ◌∙◌, subst}
use Rattle.mf_calls.specs.declared.script.Script.{Script}
use Rattle.mf_calls.specs.Tasks.{task_named}
use Rattle.mf_steps.specs.Stepper.{StepperView, step_run}
use Rattle.mf_steps.proofs.Loop.{another}
use Rattle.mf_steps.proofs.Sound.{not_true}
use Rattle.mf_steps.proofs.stepper.Stepper.step.Goals as goal

pub returns-then-not-is_in_turn-clause-step : goal.returns-then-not-is_in_turn-clause-step
returns-then-not-is_in_turn-clause-step g c =
    let found : task_named c.self.inside.script.now c.args.step.now.task ≡ Some c.in-Some.task =
    ap (λ (name : List ℕ). task_named c.self.inside.script.now name) (sym c.as_str.ensures) ∙ sym c.in-Some.ensures in
    let here : task_named c.self.inside.core.script c.args.step.now.task ≡ Some c.in-Some.task =
    ap (λ (s : Script). task_named s c.args.step.now.task) (sym c.self.invariant.same) ∙ found in
    let known : task_named c.args.self.now.core.script c.args.step.now.task ≡ Some c.in-Some.task =
    subst (λ (r : StepperView). task_named r.core.script c.args.step.now.task ≡ Some c.in-Some.task) c.self.view_is here in (
      λ t is turn_is. not_true (c.if-not-is_in_turn.ensures.1 (another c.args.self.now.core.script (step_run c.args.self.now) c.args.step.now c.in-Some.task t known is turn_is)),
      refl,
      refl,
    )
