use Rattle.mf_lifetimes.proofs.Whole.{opening_whole}
use Rattle.mf_lifetimes.proofs.laws.opening_is_whole.Goals as goal

pub returns : goal.returns
returns c = opening_whole
