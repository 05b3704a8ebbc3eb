use Rattle.mf_why.proofs.Allowed.{file_rules_allow}
use Rattle.mf_why.proofs.laws.file_rules_allow.Goals as goal

pub returns : goal.returns
returns c = file_rules_allow
