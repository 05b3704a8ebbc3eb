use Rattle.mf_verdict.proofs.NotBoth.{fails_at_one}
use Rattle.mf_verdict.proofs.laws.texts_fail_at_one_line.Goals as goal

pub returns : goal.returns
returns c = fails_at_one
