use Rattle.mf_why.proofs.Privileges.{privileges_have_no_denier}
use Rattle.mf_why.proofs.laws.privileges_have_no_denier.Goals as goal

pub returns : goal.returns
returns c = privileges_have_no_denier
