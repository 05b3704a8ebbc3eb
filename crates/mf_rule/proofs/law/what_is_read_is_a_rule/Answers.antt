use Rattle.mf_rule.proofs.Formed.{read_is_in_bounds}
use Rattle.mf_rule.proofs.law.what_is_read_is_a_rule.Goals as goal

pub returns : goal.returns
returns c = read_is_in_bounds
