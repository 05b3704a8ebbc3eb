use Rattle.std.proofs.Common.{rules}
use Rattle.mf_policy.proofs.relabel.object_relabel.Goals as goal

pub returns : goal.returns
returns c = search rules
