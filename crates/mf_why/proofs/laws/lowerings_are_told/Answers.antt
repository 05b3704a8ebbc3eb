use Rattle.mf_why.proofs.Lowered.{lowerings_are_told}
use Rattle.mf_why.proofs.laws.lowerings_are_told.Goals as goal

pub returns : goal.returns
returns c = lowerings_are_told
