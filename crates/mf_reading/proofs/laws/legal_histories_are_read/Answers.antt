use Rattle.mf_reading.proofs.Runs.{histories_read}
use Rattle.mf_reading.proofs.laws.legal_histories_are_read.Goals as goal

pub returns : goal.returns
returns c = histories_read
