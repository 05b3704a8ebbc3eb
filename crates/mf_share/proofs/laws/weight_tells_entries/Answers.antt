use Rattle.mf_share.proofs.Digits.{weight_tells}
use Rattle.mf_share.proofs.laws.weight_tells_entries.Goals as goal

pub returns : goal.returns
returns c = weight_tells
