use Rattle.std.proofs.Common.{◌+◌, take, drop, sym, ◌∙◌, subst}
use Rattle.std.specs.List.{flat_map}
use Rattle.mf_core.specs.Opening.{boots_of}
use Rattle.mf_hist.specs.HistoryText.{boot_text}
use Rattle.mf_steps.specs.StepRun.{step_opening}
use Rattle.mf_steps.specs.Stepper.{step_run}
use Rattle.mf_steps.specs.Steps.{AreTaken, IsRefused}
use Rattle.mf_steps.proofs.Loop.{next_taken, step_refused, split_steps, steps_before, all_steps}
use Rattle.mf_steps.proofs.stepping.take_steps.Goals as goal

pub loop-i-preserved : goal.loop-i-preserved
loop-i-preserved g c =
    let so_far = c.loop-i.invariant in
    let next = next_taken c.args.script.now (step_opening c.args.script.now) c.loop-i.stepper c.step.new.self c.as_slice-steps.result.now c.loop-i.i c.index-steps-i.result c.in_ok-step.field-0 so_far.0 _ _
    (flat_map boot_text (boots_of c.args.script.now)) c.loop-i-test.true c.index-steps-i.is so_far.1 so_far.2 so_far.3 c.if-not-branch.false c.in_ok-step.ensures.step in
    (next.0, next.1, c.in_ok-step.ensures.script ∙ so_far.2, next.2)

pub returns-then-not-branch-clause-steps : goal.returns-then-not-branch-clause-steps
returns-then-not-branch-clause-steps g c =
    let so_far = c.loop-i.invariant in
    let steps = c.as_slice-steps.result.now in
    record {
      last = step_run c.loop-i.stepper;
      printed = so_far.0;
      before = take c.loop-i.i steps;
      refused = c.index-steps-i.result;
      behind = drop (c.loop-i.i + 1) steps;
      steps = sym c.as_slice-steps.ensures ∙ split_steps steps c.loop-i.i c.index-steps-i.result c.loop-i-test.true c.index-steps-i.is;
      taken = so_far.1;
      refuses = subst (λ s. IsRefused s (step_run c.loop-i.stepper) c.index-steps-i.result) so_far.2
          (step_refused c.in_ok-step.field-0 c.loop-i.stepper c.index-steps-i.result c.step.new.self _ _ c.if-not-branch.true c.in_ok-step.ensures.step);
      is_next = steps_before steps c.loop-i.i c.loop-i-test.true;
    }

pub returns-clause-steps : goal.returns-clause-steps
returns-clause-steps g c =
    let so_far = c.loop-i.invariant in (
      so_far.0,
      subst (λ steps. AreTaken c.args.script.now (step_opening c.args.script.now) steps so_far.0 (step_run c.loop-i.stepper))
          (all_steps c.as_slice-steps.result.now c.loop-i.i c.loop-i-test.false ∙ c.as_slice-steps.ensures) so_far.1,
      so_far.3,
    )
