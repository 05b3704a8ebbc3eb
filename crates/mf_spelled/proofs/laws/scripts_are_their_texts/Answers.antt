use Rattle.mf_spelled.proofs.FirstFault.{scripts_texts}
use Rattle.mf_spelled.proofs.laws.scripts_are_their_texts.Goals as goal

pub returns : goal.returns
returns c = scripts_texts
