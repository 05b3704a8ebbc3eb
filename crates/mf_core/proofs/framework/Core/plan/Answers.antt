use Rattle.std.proofs.Common.{◌∙◌}
use Rattle.mf_core.proofs.Insides.{below_here, entered_here, outline_same, plan_same}
use Rattle.mf_core.proofs.framework.Core.plan.Goals as goal

pub plan-requires-clause-task : goal.plan-requires-clause-task
plan-requires-clause-task c = below_here c.args.self.now c.self.inside.run c.self.inside.history c.self.view_is c.self.invariant c.args.task c.requires.task

pub plan-requires-clause-line : goal.plan-requires-clause-line
plan-requires-clause-line c = entered_here c.args.self.now c.self.inside.run c.self.inside.history c.self.view_is c.self.invariant c.args.task c.requires.turn

pub returns-clause-plan : goal.returns-clause-plan
returns-clause-plan c = plan_same c.args.self.now c.self.inside.run c.self.inside.history c.self.view_is c.self.invariant c.args.task ∙ c.plan.ensures.plan

pub returns-clause-outline : goal.returns-clause-outline
returns-clause-outline c =
    outline_same c.args.self.now c.self.inside.run c.self.inside.history c.self.view_is c.self.invariant c.args.task c.plan.new.outline c.plan.ensures.outline
