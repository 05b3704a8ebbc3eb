use Rattle.mf_why.proofs.Composed.{deniers_compose}
use Rattle.mf_why.proofs.laws.deniers_compose.Goals as goal

pub returns : goal.returns
returns c = deniers_compose
