use Rattle.mf_why.proofs.Histories.{denials_are_told}
use Rattle.mf_why.proofs.laws.denials_are_told.Goals as goal

pub returns : goal.returns
returns c = denials_are_told
