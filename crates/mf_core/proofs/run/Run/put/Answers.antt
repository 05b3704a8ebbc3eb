use Rattle.mf_core.proofs.Reached.{changed_on, next_change, put_specs, put_state, put_suits, put_view}
use Rattle.mf_core.proofs.run.Run.put.Goals as goal

pub put_after-requires-clause-suits : goal.put_after-requires-clause-suits
put_after-requires-clause-suits c =
    let line = next_change c.args.self.now c.self.inside.script.now (record { state = c.self.inside.state; progress = c.self.inside.progress }) c.self.view_is c.self.invariant c.args.task c.requires.may.1 in
    put_suits c.args.self.now c.self.inside.script.now (record { state = c.self.inside.state; progress = c.self.inside.progress }) c.self.view_is c.self.invariant
    c.args.task line.0 c.args._reply.now c.requires.may.1 line.1 c.requires.may.3 c.args.listed c.requires.listed

pub put_after-requires-clause-specs : goal.put_after-requires-clause-specs
put_after-requires-clause-specs c =
    let line = next_change c.args.self.now c.self.inside.script.now (record { state = c.self.inside.state; progress = c.self.inside.progress }) c.self.view_is c.self.invariant c.args.task c.requires.may.1 in
    put_specs c.args.self.now c.self.inside.script.now (record { state = c.self.inside.state; progress = c.self.inside.progress }) c.self.view_is c.self.invariant
    c.args.task line.0 c.args._reply.now c.requires.may.1 line.1 c.requires.may.3 c.args.listed c.requires.listed

pub invariant_of-self : goal.invariant_of-self
invariant_of-self c =
    let line = next_change c.args.self.now c.self.inside.script.now (record { state = c.self.inside.state; progress = c.self.inside.progress }) c.self.view_is c.self.invariant c.args.task c.requires.may.1 in
    let moves = put_state c.args.self.now c.self.inside.script.now (record { state = c.self.inside.state; progress = c.self.inside.progress }) c.self.view_is c.self.invariant
    c.args.task line.0 c.args._reply.now c.requires.may.1 line.1 c.requires.may.3 c.args.listed c.put_after.new.state c.requires.listed c.put_after.ensures in
    changed_on c.args.self.now c.self.inside.script.now (record { state = c.self.inside.state; progress = c.self.inside.progress }) c.self.view_is c.self.invariant
    c.args.task line.0 c.args._reply.now c.requires.may.1 line.1 c.requires.may.3
    c.args._number c.put_after.new.state c.advance.new.self c.requires.may moves c.advance.ensures

pub returns : goal.returns
returns c =
    let line = next_change c.args.self.now c.self.inside.script.now (record { state = c.self.inside.state; progress = c.self.inside.progress }) c.self.view_is c.self.invariant c.args.task c.requires.may.1 in
    let moves = put_state c.args.self.now c.self.inside.script.now (record { state = c.self.inside.state; progress = c.self.inside.progress }) c.self.view_is c.self.invariant
    c.args.task line.0 c.args._reply.now c.requires.may.1 line.1 c.requires.may.3 c.args.listed c.put_after.new.state c.requires.listed c.put_after.ensures in
    put_view c.args.self.now c.self.inside.script.now (record { state = c.self.inside.state; progress = c.self.inside.progress }) c.self.view_is c.self.invariant
    c.args.task line.0 c.args._reply.now c.requires.may.1 line.1 c.requires.may.3
    c.args._number c.put_after.new.state c.advance.new.self moves c.advance.ensures
