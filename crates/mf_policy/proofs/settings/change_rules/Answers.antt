use Rattle.std.proofs.Common.{rules}
use Rattle.mf_policy.proofs.settings.change_rules.Goals as goal

pub returns-in-Ok : goal.returns-in-Ok
returns-in-Ok c = search rules
