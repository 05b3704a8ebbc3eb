use Rattle.std.proofs.Common.{rules}
use Rattle.mf_labeltext.specs.Reading.{range_in}
use Rattle.mf_labeltext.proofs.values.read_range.Goals as goal

pub returns : goal.returns
unfolding range_in
returns c = search rules
