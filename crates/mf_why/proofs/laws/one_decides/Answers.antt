use Rattle.mf_why.proofs.Decided.{one_decides}
use Rattle.mf_why.proofs.laws.one_decides.Goals as goal

pub returns : goal.returns
returns c = one_decides
