use Rattle.mf_answers.proofs.Deciding.{decides}
use Rattle.mf_answers.proofs.laws.rule_decides.Goals as goal

pub returns : goal.returns
returns c = decides
