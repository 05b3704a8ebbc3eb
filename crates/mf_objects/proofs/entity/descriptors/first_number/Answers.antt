use Rattle.std.proofs.Common.{[], refl}
use Rattle.mf_objects.proofs.Numbers.{number_first}
use Rattle.mf_objects.proofs.entity.descriptors.first_number.Goals as goal

pub returns : goal.returns
returns c = number_first [] refl
