use Rattle.std.proofs.Common.{rules}
use Rattle.mf_labeltext.specs.Reading.{element_in}
use Rattle.mf_labeltext.proofs.reading.read_element.Goals as goal

pub returns-in-Some : goal.returns-in-Some
unfolding element_in
returns-in-Some c = search rules
