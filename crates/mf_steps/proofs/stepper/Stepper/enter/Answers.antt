use Rattle.std.proofs.Common.{◌≡◌, sym, ap, ◌∙◌, subst}
use Rattle.mf_core.specs.declared.progress.Turn.TheVariants as turn
use Rattle.mf_core.specs.CoreView.{CoreView, turn_at}
use Rattle.mf_steps.specs.Stepper.{StepperView}
use Rattle.mf_steps.proofs.Sound.{sound_on, entry_other}
use Rattle.mf_steps.proofs.stepper.Stepper.enter.Goals as goal

pub invariant_of-self : goal.invariant_of-self
invariant_of-self g c =
    let turn_is : turn_at c.self.inside.core c.args.task ≡ turn.Entry = subst (λ (r : StepperView). turn_at r.core c.args.task ≡ turn.Entry) (sym c.self.view_is) c.requires.turn in
    sound_on c.self.inside.script.now c.self.inside.fixed c.self.inside.list c.self.inside.catalogue c.self.inside.core c.enter.new.self c.args.task _ c.self.inside.kept c.self.invariant
    (ap (λ (r : CoreView). r.script) c.enter.ensures.event) c.enter.ensures.progress c.enter.ensures.specs (λ e. entry_other (sym turn_is ∙ e))
