use Rattle.std.proofs.Common.{rules, subst}
use Rattle.mf_parties.specs.Standing.{IsStanding}
use Rattle.mf_parties.proofs.Reading.{fd_regular}
use Rattle.mf_parties.proofs.parties.Parties.fd.Goals as goal

pub returns-clause-regular : goal.returns-clause-regular
returns-clause-regular c =
    fd_regular c.args.self.now c.args.id c.args.number c.copied.result (subst IsStanding c.self.view_is c.self.invariant) (search rules)
