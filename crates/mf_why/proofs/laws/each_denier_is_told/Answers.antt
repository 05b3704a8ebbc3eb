use Rattle.mf_why.proofs.Each.{each_denier_is_told}
use Rattle.mf_why.proofs.laws.each_denier_is_told.Goals as goal

pub returns : goal.returns
returns c = each_denier_is_told
