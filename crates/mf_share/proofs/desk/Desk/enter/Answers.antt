use Rattle.std.proofs.Common.{◌≡◌, ◌<◌, ℕ, false, length, ap, sym, ◌∙◌, arith}
use Rattle.mf_core.specs.declared.progress.Turn.TheVariants as turn
use Rattle.mf_core.specs.CoreView.{CoreView, turn_at}
use Rattle.mf_share.specs.Weights.{entry_weight}
use Rattle.mf_share.proofs.Agrees.{pass_says}
use Rattle.mf_share.proofs.Weights.{entered}
use Rattle.mf_share.proofs.desk.Desk.enter.Goals as goal

pub enter-requires-clause-turn : goal.enter-requires-clause-turn
enter-requires-clause-turn g c =
    pass_says g.J.Job.script c.self.inside.tracked c.args.self.now c.args.pass.now c.task.result turn.Entry c.self.view_is c.self.invariant.0 c.task.ensures c.requires.turn
    (c.agrees_with.ensures.agrees.0 c.if-not-agrees_with.false)

pub invariant_of-self : goal.invariant_of-self
invariant_of-self g c =
    let core = c.self.inside.tracked in
    let is : turn_at core c.task.result ≡ turn.Entry =
    pass_says g.J.Job.script core c.args.self.now c.args.pass.now c.task.result turn.Entry c.self.view_is c.self.invariant.0 c.task.ensures c.requires.turn
    (c.agrees_with.ensures.agrees.0 c.if-not-agrees_with.false) in
    let within : c.task.result < length g.J.Job.script.tasks = omega (arith, c.task.ensures, c.agrees_with.ensures.task) in
    let heavier = entered g.J.Job.script core c.enter.new.self c.task.result within is c.enter.ensures.progress in
    let weight = ap (λ (t : ℕ). entry_weight t false) c.task.ensures in (
      ap (λ (run : CoreView). run.script) c.enter.ensures.event ∙ c.self.invariant.0,
      c.self.invariant.1 ∙ sym c.enter.ensures.lines,
      omega (arith, c.ticket.ensures.total, heavier, weight, c.self.invariant.2),
      tt,
    )
