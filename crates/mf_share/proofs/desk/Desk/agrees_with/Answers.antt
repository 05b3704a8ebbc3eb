use Rattle.std.proofs.Common.{ap, arith, ◌∙◌}
use Rattle.mf_core.specs.CoreView.{CoreView}
use Rattle.mf_share.specs.Passes.{PassView}
use Rattle.mf_share.proofs.Agrees.{pass_agrees}
use Rattle.mf_share.proofs.desk.Desk.agrees_with.Goals as goal

pub returns-clause-agrees : goal.returns-clause-agrees
returns-clause-agrees g c =
    pass_agrees g.J.Job.script c.core-core.result.now c.args.self.now _ c.args.pass.now c.is_at.result c.turn.result c.args.next c.lines-lines.result (c.core-core.ensures ∙ c.self.view_is) c.pass.view_is
    (ap (λ (k : CoreView). k.script) c.core-core.ensures ∙ c.self.invariant.0)
    c.turn.ensures c.lines-lines.ensures.value c.requires c.is_at.ensures

pub returns-clause-few : goal.returns-clause-few
returns-clause-few g c = λ yes. omega (arith, (c.is_at.ensures.0 yes).1, c.lines-lines.ensures.most, ap (λ (p : PassView). p.lines) c.pass.view_is)
