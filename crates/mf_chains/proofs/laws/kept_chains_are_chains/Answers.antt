use Rattle.mf_chains.proofs.Leading.{rows_are_chains}
use Rattle.mf_chains.proofs.laws.kept_chains_are_chains.Goals as goal

pub returns : goal.returns
returns c = rows_are_chains
