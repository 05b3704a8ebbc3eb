use Rattle.std.proofs.Common.{rules}
use Rattle.mf_policy.proofs.modules.inherited_range.Goals as goal

pub returns-in_default : goal.returns-in_default
returns-in_default c = search rules
