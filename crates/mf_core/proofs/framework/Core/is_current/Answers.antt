use Rattle.std.proofs.Common.{◌∙◌}
use Rattle.mf_core.specs.CoreView.{run_state}
use Rattle.mf_core.proofs.Calls.{found_by}
use Rattle.mf_core.proofs.Insides.{outline_same, plan_same}
use Rattle.mf_core.proofs.framework.Core.is_current.Goals as goal

pub returns-clause-found : goal.returns-clause-found
returns-clause-found g c = λ tail yes.
    found_by c.args.self.now.script (run_state c.args.self.now) c.args.task c.has_plan.new.outline
    (outline_same c.args.self.now c.self.inside.run c.self.inside.history c.self.view_is c.self.invariant c.args.task c.has_plan.new.outline c.has_plan.ensures.outline)
    c.args.plan.now
    (plan_same c.args.self.now c.self.inside.run c.self.inside.history c.self.view_is c.self.invariant c.args.task ∙ c.has_plan.ensures.is.0 yes) tail

pub returns-clause-outline : goal.returns-clause-outline
returns-clause-outline g c = λ yes.
    outline_same c.args.self.now c.self.inside.run c.self.inside.history c.self.view_is c.self.invariant c.args.task c.has_plan.new.outline c.has_plan.ensures.outline
