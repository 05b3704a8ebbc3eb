use Rattle.mf_core.proofs.Reached.{entered_on}
use Rattle.mf_core.proofs.run.Run.enter.Goals as goal

pub invariant_of-self : goal.invariant_of-self
invariant_of-self c =
    entered_on c.args.self.now c.self.inside.script.now (record { state = c.self.inside.state; progress = c.self.inside.progress }) c.self.view_is c.self.invariant
    c.args.task c.set_phase.new.self c.requires c.set_phase.ensures
