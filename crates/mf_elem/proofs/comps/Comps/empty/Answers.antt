use Rattle.mf_elem.proofs.CompsLaws.{none_of}
use Rattle.mf_elem.proofs.comps.Comps.empty.Goals as goal

pub returns-clause-set : goal.returns-clause-set
returns-clause-set c = none_of
