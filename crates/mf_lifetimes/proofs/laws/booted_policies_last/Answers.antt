use Rattle.mf_lifetimes.proofs.Marked.{last_and_label}
use Rattle.mf_lifetimes.proofs.laws.booted_policies_last.Goals as goal

pub returns : goal.returns
returns c = last_and_label
