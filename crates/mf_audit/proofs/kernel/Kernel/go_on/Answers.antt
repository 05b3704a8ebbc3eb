use Rattle.std.proofs.Common.{refl, sym, ◌∙◌}
use Rattle.mf_audit.proofs.Going.{absent_goes}
use Rattle.mf_audit.proofs.kernel.Kernel.go_on.Goals as goal

pub returns-in-None : goal.returns-in-None
returns-in-None c = absent_goes c.args.self.now c.args.task.now c.args.line.now.child c.args.line.now.call c.args.given.now c.args.self.now c.is_refusal.result (sym c.caller.ensures.value ∙ c.in-None.is) refl c.is_refusal.ensures
