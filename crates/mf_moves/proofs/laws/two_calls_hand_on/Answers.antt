use Rattle.mf_moves.proofs.TwoCalls.{two_calls_on}
use Rattle.mf_moves.proofs.laws.two_calls_hand_on.Goals as goal

pub returns : goal.returns
returns c = two_calls_on
