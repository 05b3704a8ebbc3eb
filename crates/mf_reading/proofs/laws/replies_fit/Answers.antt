use Rattle.mf_reading.proofs.Runs.{replies_fit}
use Rattle.mf_reading.proofs.laws.replies_fit.Goals as goal

pub returns : goal.returns
returns c = replies_fit
