use Rattle.std.proofs.Common.{rules}
use Rattle.mf_policy.proofs.relabel.credential_relabel.Goals as goal

pub returns-then-is_outside : goal.returns-then-is_outside
returns-then-is_outside c = search rules
