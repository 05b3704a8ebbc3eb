use Rattle.mf_script.proofs.EveryScript.{scripts_formed}
use Rattle.mf_script.proofs.law.scripts_are_well_formed.Goals as goal

pub returns : goal.returns
returns c = scripts_formed
