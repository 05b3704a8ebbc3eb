use Rattle.mf_verdict.proofs.Split.{one_split}
use Rattle.mf_verdict.proofs.laws.inputs_are_split_once.Goals as goal

pub returns : goal.returns
returns c = one_split
