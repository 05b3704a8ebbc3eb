use Rattle.mf_steps.proofs.Legality.{legal}
use Rattle.mf_steps.proofs.laws.step_runs_are_legal.Goals as goal

pub returns : goal.returns
returns c = legal
