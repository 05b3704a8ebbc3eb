use Rattle.mf_why.proofs.Allowed.{port_rules_allow}
use Rattle.mf_why.proofs.laws.port_rules_allow.Goals as goal

pub returns : goal.returns
returns c = port_rules_allow
