use Rattle.std.proofs.Common.{◌∙◌}
use Rattle.mf_core.proofs.Insides.{below_here, turn_same}
use Rattle.mf_core.proofs.framework.Core.turn.Goals as goal

pub turn-requires : goal.turn-requires
turn-requires c = below_here c.args.self.now c.self.inside.run c.self.inside.history c.self.view_is c.self.invariant c.args.task c.requires

pub returns : goal.returns
returns c = c.turn.ensures ∙ turn_same c.args.self.now c.self.inside.run c.self.inside.history c.self.view_is c.self.invariant c.args.task
