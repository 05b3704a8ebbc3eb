use Rattle.mf_lifetimes.proofs.Marked.{gone_have_ended}
use Rattle.mf_lifetimes.proofs.laws.gone_slots_have_ended.Goals as goal

pub returns : goal.returns
returns c = gone_have_ended
