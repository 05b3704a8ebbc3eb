use Rattle.mf_verdict.proofs.NotBoth.{accepted_never_fails}
use Rattle.mf_verdict.proofs.laws.accepted_texts_fail_nowhere.Goals as goal

pub returns : goal.returns
returns c = accepted_never_fails
