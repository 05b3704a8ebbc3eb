use Rattle.std.proofs.Common.{sym, ◌∙◌}
use Rattle.mf_core.proofs.Insides.{script_here}
use Rattle.mf_core.proofs.framework.Core.script.Goals as goal

pub returns : goal.returns
returns c = c.script.ensures ∙ sym (script_here c.args.self.now c.self.inside.run c.self.inside.history c.self.view_is c.self.invariant)
