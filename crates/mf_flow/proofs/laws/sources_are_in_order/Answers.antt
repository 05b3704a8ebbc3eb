use Rattle.mf_flow.proofs.Dominating.{in_order}
use Rattle.mf_flow.proofs.laws.sources_are_in_order.Goals as goal

pub returns : goal.returns
returns c = in_order
