use Rattle.std.proofs.Common.{rules}
use Rattle.mf_policy.proofs.lattice.labels_answer.Goals as goal

pub returns-in_default-None : goal.returns-in_default-None
returns-in_default-None g c = search rules
