use Rattle.mf_core.proofs.Reached.{done_on, done_view, entry_is}
use Rattle.mf_core.proofs.run.Run.commit.Goals as goal

pub complete-requires-clause-entry : goal.complete-requires-clause-entry
complete-requires-clause-entry c =
    entry_is c.args.self.now c.self.inside.script.now (record { state = c.self.inside.state; progress = c.self.inside.progress }) c.self.view_is c.self.invariant
    c.args.task c.line-line.result.now c.requires.may.0 c.line-line.ensures.value

pub invariant_of-self-2 : goal.invariant_of-self-2
invariant_of-self-2 c =
    done_on c.args.self.now c.self.inside.script.now (record { state = c.self.inside.state; progress = c.self.inside.progress }) c.self.view_is c.self.invariant
    c.args.task c.line-line.result.now c.name_of-name.result.now c.complete.new.state
    (record {
      next = c.line-line.ensures.value;
      named = c.name_of-name.ensures;
      moved = c.in_ok-complete.ensures.ok;
      booted = c.complete.ensures.booted;
      ids = c.complete.ensures.ids;
    })
    c.args.number c.args.reply.now c.set_phase.new.self c.requires.may c.set_phase.ensures

pub returns-clause-ok : goal.returns-clause-ok
returns-clause-ok c =
    done_view c.args.self.now c.self.inside.script.now (record { state = c.self.inside.state; progress = c.self.inside.progress }) c.self.view_is c.self.invariant
    c.args.task c.line-line.result.now c.name_of-name.result.now c.complete.new.state
    (record {
      next = c.line-line.ensures.value;
      named = c.name_of-name.ensures;
      moved = c.in_ok-complete.ensures.ok;
      booted = c.complete.ensures.booted;
      ids = c.complete.ensures.ids;
    })
    c.args.number c.args.reply.now c.set_phase.new.self c.set_phase.ensures
