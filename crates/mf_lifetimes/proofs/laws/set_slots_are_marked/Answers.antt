use Rattle.mf_lifetimes.proofs.Marked.{marks_tell_values}
use Rattle.mf_lifetimes.proofs.laws.set_slots_are_marked.Goals as goal

pub returns : goal.returns
returns c = marks_tell_values
