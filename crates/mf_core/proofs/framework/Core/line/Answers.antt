use Rattle.std.proofs.Common.{◌∙◌}
use Rattle.mf_core.proofs.Insides.{below_here, entered_here, line_same}
use Rattle.mf_core.proofs.framework.Core.line.Goals as goal

pub line-requires-clause-task : goal.line-requires-clause-task
line-requires-clause-task c = below_here c.args.self.now c.self.inside.run c.self.inside.history c.self.view_is c.self.invariant c.args.task c.requires.task

pub line-requires-clause-line : goal.line-requires-clause-line
line-requires-clause-line c = entered_here c.args.self.now c.self.inside.run c.self.inside.history c.self.view_is c.self.invariant c.args.task c.requires.turn

pub returns-clause-value : goal.returns-clause-value
returns-clause-value c =
    line_same c.args.self.now c.self.inside.run c.self.inside.history c.self.view_is c.self.invariant c.args.task ∙ c.line.ensures.value
