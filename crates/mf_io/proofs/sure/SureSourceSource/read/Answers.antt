use Rattle.std.proofs.Common.{refl, lit≤}
use Rattle.mf_io.proofs.Fronts.{gave_from}
use Rattle.mf_io.proofs.sure.SureSourceSource.read.Goals as goal

pub returns-clause-bytes : goal.returns-clause-bytes
returns-clause-bytes c =
    gave_from _ _ _ _ _ _ _ _ _ c.self.view_is c.deref.ensures.value refl (lit≤ tt) c.copy_front-count.ensures.count c.copy_front-count.ensures.bytes
