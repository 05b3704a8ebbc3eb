use Rattle.std.proofs.Common.{◌≡◌, ◌<◌, ℕ, length, ap, ◌∙◌, arith}
use Rattle.mf_core.specs.CoreView.{CoreView, lines_left, turn_at}
use Rattle.mf_share.specs.Passes.{ticket_turn}
use Rattle.mf_share.specs.Weights.{entry_weight}
use Rattle.mf_share.proofs.Agrees.{leaves, ticket_says}
use Rattle.mf_share.proofs.Weights.{left_by}
use Rattle.mf_share.proofs.desk.Desk.leave.Goals as goal

pub leave-requires-clause-turn : goal.leave-requires-clause-turn
leave-requires-clause-turn g c =
    leaves c.args.ticket.committed _
    (ticket_says c.self.inside.tracked c.args.self.now c.args.ticket c.task.result c.self.view_is c.task.ensures (c.agrees_with_ticket.ensures.agrees.0 c.if-not-agrees_with_ticket.false))

pub invariant_of-self : goal.invariant_of-self
invariant_of-self g c =
    let core = c.self.inside.tracked in
    let committed = c.args.ticket.committed in
    let is : turn_at core c.task.result ≡ ticket_turn committed =
    ticket_says core c.args.self.now c.args.ticket c.task.result c.self.view_is c.task.ensures (c.agrees_with_ticket.ensures.agrees.0 c.if-not-agrees_with_ticket.false) in
    let within : c.task.result < length g.J.Job.script.tasks = omega (arith, c.task.ensures, c.agrees_with_ticket.ensures.task) in
    let lighter = left_by g.J.Job.script core c.leave.new.self c.task.result within committed is c.leave.ensures.progress in
    let weight = ap (λ (t : ℕ). entry_weight t committed) c.task.ensures in (
      ap (λ (run : CoreView). run.script) c.leave.ensures.event ∙ c.self.invariant.0,
      omega (arith, c.spend.ensures.done, c.leave.ensures.lines, ap lines_left is, c.self.invariant.1),
      omega (arith, c.spend.ensures.busy, lighter, weight, c.self.invariant.2),
      tt,
    )
