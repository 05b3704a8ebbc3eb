use Rattle.std.proofs.Common.{rules, subst}
use Rattle.mf_objects.specs.Live.{is_process}
use Rattle.mf_plan.specs.Names.{child_name}
use Rattle.mf_parties.specs.Standing.{IsStanding}
use Rattle.mf_parties.proofs.Reading.{named_live}
use Rattle.mf_parties.proofs.parties.Parties.child_named.Goals as goal

pub returns-clause-live : goal.returns-clause-live
returns-clause-live c =
    named_live is_process (child_name c.args.task.now c.args.child.now) c.args.self.now c.first_child_process.result (subst IsStanding c.self.view_is c.self.invariant) (search rules)
