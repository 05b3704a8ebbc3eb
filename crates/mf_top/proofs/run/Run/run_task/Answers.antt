use Rattle.std.proofs.Common.{refl, subst}
use Rattle.mf_top.specs.Passes.{IsLine}
use Rattle.mf_top.proofs.Passes.{fewer_looks}
use Rattle.mf_top.proofs.run.Run.run_task.Goals as goal

pub loop-pass-smaller : goal.loop-pass-smaller
loop-pass-smaller g c =
    fewer_looks g.J.Job.script c.loop-pass.pass c.run_line.new.pass
    (subst IsLine c.turn.ensures (c.loop-pass-test.ensures.0 refl)) c.run_line.ensures
