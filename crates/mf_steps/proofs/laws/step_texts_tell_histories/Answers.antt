use Rattle.mf_steps.proofs.Left.{told}
use Rattle.mf_steps.proofs.laws.step_texts_tell_histories.Goals as goal

pub returns : goal.returns
returns c = told
