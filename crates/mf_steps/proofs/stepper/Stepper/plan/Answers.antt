use Rattle.std.proofs.Common.{◌≡◌, ◌<◌, [], length, sym, ap, ◌∙◌, subst, arith}
use Rattle.mf_perform.specs.Verdict.{verdict_of}
use Rattle.mf_core.specs.declared.progress.Turn.TheVariants as turn
use Rattle.mf_core.specs.CoreView.{turn_at}
use Rattle.mf_steps.specs.StepRun.{KeptPlan}
use Rattle.mf_steps.specs.Stepper.{StepperView, step_run, IsSoundStepper}
use Rattle.mf_steps.specs.Steps.{KeepsPlan}
use Rattle.mf_steps.proofs.Planned.{planned}
use Rattle.mf_steps.proofs.Sound.{sound_kept, phase_entered}
use Rattle.mf_steps.proofs.stepper.Stepper.plan.Goals as goal

pub invariant_of-self : goal.invariant_of-self
invariant_of-self g c =
    let plan = c.keep.ensures.0 in
    let kept : KeptPlan = record { plan = plan; verdict = verdict_of c.new-listed.result plan } in
    let lt : c.args.task < length c.self.inside.core.script.tasks = subst (λ (r : StepperView). c.args.task < length r.core.script.tasks) (sym c.self.view_is) c.requires.task in
    let here : c.args.task < length c.self.inside.kept = omega (arith, lt, c.self.invariant.places) in
    let turn_is : turn_at c.self.inside.core c.args.task ≡ turn.Entered = subst (λ (r : StepperView). turn_at r.core c.args.task ≡ turn.Entered) (sym c.self.view_is) c.requires.turn in
    subst (λ kept. IsSoundStepper c.self.inside.script.now c.self.inside.core c.self.inside.fixed c.self.inside.list c.self.inside.catalogue kept) (sym c.keep.ensures.2)
    (sound_kept c.self.inside.script.now c.self.inside.fixed c.self.inside.list c.self.inside.catalogue c.self.inside.core c.args.task c.self.inside.kept kept c.self.invariant here
    (record {
      verdict = ap (λ entries. verdict_of entries plan) (c.new-listed.ensures.entries ∙ c.self.invariant.policies.listed);
      entered = phase_entered c.self.inside.core c.args.task turn_is;
    }))

pub returns-clause-does : goal.returns-clause-does
returns-clause-does g c =
    let inside : StepperView = record { core = c.self.inside.core; kept = c.self.inside.kept } in
    let plan = c.keep.ensures.0 in
    subst (λ (old : StepperView). KeepsPlan old.core.script (step_run old) c.args.task [] (step_run (record inside { kept = c.keep.new.self }))) c.self.view_is
    (planned inside c.args.task plan (verdict_of c.new-listed.result plan) c.keep.new.self c.keep.ensures.1
    (ap (λ entries. verdict_of entries plan) (c.new-listed.ensures.entries ∙ c.self.invariant.policies.listed)) c.keep.ensures.2)
