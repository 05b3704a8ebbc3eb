use Rattle.std.proofs.Common.{rules, subst}
use Rattle.mf_parties.specs.Standing.{IsStanding}
use Rattle.mf_parties.proofs.Reading.{entry_live, entry_below}
use Rattle.mf_parties.proofs.parties.Parties.entry_of.Goals as goal

pub returns-clause-live : goal.returns-clause-live
returns-clause-live c =
    entry_live c.args.dir c.args.name.now c.args.self.now c.first_entry.result (subst IsStanding c.self.view_is c.self.invariant) (search rules)

pub returns-clause-below : goal.returns-clause-below
returns-clause-below c =
    entry_below c.args.dir c.args.name.now c.args.self.now c.first_entry.result (subst IsStanding c.self.view_is c.self.invariant) (search rules)
