use Rattle.mf_reading.proofs.WholeText.{sources_no_line}
use Rattle.mf_reading.proofs.laws.sources_are_no_line.Goals as goal

pub returns : goal.returns
returns c = sources_no_line
