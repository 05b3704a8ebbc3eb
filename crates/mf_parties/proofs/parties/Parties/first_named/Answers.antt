use Rattle.std.proofs.Common.{rules, subst}
use Rattle.mf_parties.specs.Parties.{is_of}
use Rattle.mf_parties.specs.Standing.{IsStanding}
use Rattle.mf_parties.proofs.Reading.{named_live}
use Rattle.mf_parties.proofs.parties.Parties.first_named.Goals as goal

pub returns-clause-live : goal.returns-clause-live
returns-clause-live c =
    named_live (is_of c.args.kind) c.args.name.now c.args.self.now c.first_of.result (subst IsStanding c.self.view_is c.self.invariant) (search rules)
