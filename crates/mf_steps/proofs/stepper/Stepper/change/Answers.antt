use Rattle.std.proofs.Common.{OnOk, ap, ◌∙◌, subst, string_bytes}
use Rattle.mf_calls.specs.declared.script.StepKind.TheVariants as step
use Rattle.mf_core.specs.declared.progress.ChangeOutcome.{ChangeOutcome}
use Rattle.mf_core.specs.declared.history.History.{History}
use Rattle.mf_core.specs.CoreView.{Changes}
use Rattle.mf_steps.specs.Answers.{DoesStep}
use Rattle.mf_steps.specs.Stepper.{StepperView}
use Rattle.mf_steps.proofs.Doing.{in_branch, changes, waits}
use Rattle.mf_steps.proofs.Sound.{sound_changed}
use Rattle.mf_steps.proofs.stepper.Stepper.change.Goals as goal
use Rattle.mf_steps.proofs.stepper.Stepper.change.Goals.{in-Done, in-Waits}

pub invariant_of-self-2 : goal.invariant_of-self-2
invariant_of-self-2 g c =
    sound_changed c.self.inside.script.now c.self.inside.core c.change.new.self c.self.inside.fixed c.self.inside.list c.change.new.list c.self.inside.catalogue c.change.new.catalogue c.args.task
    c.in_ok-change.field-0 c.self.inside.kept c.self.invariant c.in_ok-change.ensures.outcome c.in_ok-change.ensures.policies

pub returns-clause-does : goal.returns-clause-does
returns-clause-does g c =
    let before : StepperView = record { core = c.self.inside.core; kept = c.self.inside.kept } in
    let after : StepperView = record { core = c.change.new.self; kept = c.self.inside.kept } in
    let here = string_bytes c.args.out.now in
    subst (λ (old : StepperView). OnOk c.match-branch-2.result (DoesStep old step.Change c.args.task after here (string_bytes c.match-branch-2.out))) c.self.view_is
    (elim c.match-branch-2.branch [
      | in-Done w ↦
          in_branch (λ out. DoesStep before step.Change c.args.task after here (string_bytes out)) _ _ _ _ w.result-is w.out-is
          (changes c.self.inside.script.now before c.change.new.self c.args.task _ _ c.self.invariant.same w.as_slice-events.result.now
          (subst (λ (by : ChangeOutcome). Changes c.self.inside.core c.args.task by c.change.new.self) w.in-Done.is c.in_ok-change.ensures.outcome)
          (w.as_slice-events.ensures ∙ ap (λ (h : History). h.events.list) w.history.ensures.value))
          w.print_last.ensures
      | in-Waits w ↦
          in_branch (λ out. DoesStep before step.Change c.args.task after here (string_bytes out)) _ _ _ _ w.result-is w.out-is
          (waits c.self.inside.script.now before c.change.new.self c.args.task _ _ c.self.invariant.same w.in-Waits.entries
          (subst (λ (by : ChangeOutcome). Changes c.self.inside.core c.args.task by c.change.new.self) w.in-Waits.is c.in_ok-change.ensures.outcome))
          w.print_waits.ensures
    ])
