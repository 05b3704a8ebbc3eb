use Rattle.std.proofs.Common.{refl}
use Rattle.mf_objects.specs.Index.{mixed}
use Rattle.mf_objects.proofs.index.mixed.Goals as goal

pub returns-clause-value : goal.returns-clause-value
unfolding mixed
returns-clause-value c = rw c.from.ensures refl
