use Rattle.std.proofs.Common.{ap, arith, ◌∙◌}
use Rattle.mf_share.specs.Passes.{TicketView}
use Rattle.mf_share.proofs.Agrees.{ticket_agrees}
use Rattle.mf_share.proofs.desk.Desk.agrees_with_ticket.Goals as goal

pub returns-clause-agrees : goal.returns-clause-agrees
returns-clause-agrees g c =
    ticket_agrees c.core-core.result.now c.args.self.now _ c.args.ticket.now c.is_at.result c.turn.result c.its_turn.result c.lines-lines.result (c.core-core.ensures ∙ c.self.view_is) c.ticket.view_is
    c.turn.ensures c.lines-lines.ensures.value c.its_turn.ensures c.is_at.ensures

pub returns-clause-few : goal.returns-clause-few
returns-clause-few g c = λ yes. omega (arith, (c.is_at.ensures.0 yes).1, c.lines-lines.ensures.most, ap (λ (t : TicketView). t.lines) c.ticket.view_is)
