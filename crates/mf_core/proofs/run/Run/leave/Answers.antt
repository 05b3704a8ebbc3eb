use Rattle.std.proofs.Common.{arith}
use Rattle.mf_core.specs.declared.history.Event.TheVariants as event
use Rattle.mf_core.proofs.Reached.{event_within, few_done, left_on}
use Rattle.mf_core.proofs.run.Run.leave.Goals as goal

pub invariant_of-self : goal.invariant_of-self
invariant_of-self c =
    left_on c.args.self.now c.self.inside.script.now (record { state = c.self.inside.state; progress = c.self.inside.progress }) c.self.view_is c.self.invariant
    c.args.task c.leave.new.self c.requires c.leave.ensures

pub leave-requires-clause-room : goal.leave-requires-clause-room
leave-requires-clause-room c =
    let lt = event_within c.args.self.now c.self.inside.script.now (record { state = c.self.inside.state; progress = c.self.inside.progress }) c.self.view_is c.self.invariant (event.Leave c.args.task) c.requires in
    omega (arith, few_done c.args.self.now c.self.inside.script.now (record { state = c.self.inside.state; progress = c.self.inside.progress }) c.self.view_is c.self.invariant c.args.task lt)
