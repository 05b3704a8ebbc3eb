use Rattle.std.proofs.Common.{ap}
use Rattle.mf_io.proofs.Fronts.{gave_from}
use Rattle.mf_io.proofs.memory.MemSourceSource.read.Goals as goal

pub returns-clause-bytes : goal.returns-clause-bytes
returns-clause-bytes c =
    gave_from _ _ _ _ _ _ _ _ _ (ap (λ s. s.left) c.self.view_is) c.deref.ensures.value (ap (λ calls. calls.most) c.next_fails.ensures.counted)
    c.self.invariant.1 c.copy_front-count.ensures.count c.copy_front-count.ensures.bytes
