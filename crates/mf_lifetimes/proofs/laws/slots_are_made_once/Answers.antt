use Rattle.mf_lifetimes.proofs.Marked.{made_at_most_once}
use Rattle.mf_lifetimes.proofs.laws.slots_are_made_once.Goals as goal

pub returns : goal.returns
returns c = made_at_most_once
