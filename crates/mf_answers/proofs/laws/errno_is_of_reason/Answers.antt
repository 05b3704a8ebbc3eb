use Rattle.mf_answers.proofs.Errnos.{by_reason}
use Rattle.mf_answers.proofs.laws.errno_is_of_reason.Goals as goal

pub returns : goal.returns
returns c = by_reason
