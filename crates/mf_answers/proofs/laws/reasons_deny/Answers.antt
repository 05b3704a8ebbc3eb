use Rattle.mf_answers.proofs.Denying.{reasons_deny}
use Rattle.mf_answers.proofs.laws.reasons_deny.Goals as goal

pub returns : goal.returns
returns c = reasons_deny
