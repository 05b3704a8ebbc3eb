use Rattle.mf_steps.proofs.OneWay.{one_way}
use Rattle.mf_steps.proofs.laws.step_runs_end_one_way.Goals as goal

pub returns : goal.returns
returns c = one_way
