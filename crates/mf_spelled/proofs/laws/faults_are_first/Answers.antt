use Rattle.mf_spelled.proofs.FirstFault.{faults_first}
use Rattle.mf_spelled.proofs.laws.faults_are_first.Goals as goal

pub returns : goal.returns
returns c = faults_first
