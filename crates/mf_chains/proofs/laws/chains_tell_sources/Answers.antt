use Rattle.mf_chains.proofs.Told.{told}
use Rattle.mf_chains.proofs.laws.chains_tell_sources.Goals as goal

pub returns : goal.returns
returns c = told
