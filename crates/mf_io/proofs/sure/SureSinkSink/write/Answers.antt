use Rattle.std.proofs.Common.{arith}
use Rattle.mf_io.proofs.Told.{after_fit, after_past, after_none}
use Rattle.mf_io.proofs.sure.SureSinkSink.write.Goals as goal
use Rattle.mf_io.proofs.sure.SureSinkSink.write.Goals.{else-self-via-then-self+else-piece-self, else-self-via-else-self}

pub returns-in-Ok-clause-stored : goal.returns-in-Ok-clause-stored
returns-in-Ok-clause-stored c =
    after_fit _ c.self.inside.bytes.items _ _ _ _ c.self.view_is c.if-self.true c.in-Ok.ensures.items
    (omega (arith, c.if-piece-self.true, c.len.ensures, c.self.inside.bytes.ok.0, c.self.invariant.0))

pub returns-clause-stored : goal.returns-clause-stored
returns-clause-stored c = elim c.else-self.branch [
  | else-self-via-then-self+else-piece-self w ↦
      after_past _ c.self.inside.bytes.items _ _ _ c.self.view_is w.if-self.true (omega (arith, w.if-piece-self.false, w.len.ensures, c.self.inside.bytes.ok.0))
  | else-self-via-else-self w ↦ after_none _ c.self.inside.bytes.items _ _ _ c.self.view_is w.if-self.false
]
