use Rattle.std.proofs.Common.{◌≡◌, false}
use Rattle.mf_top.proofs.Passes.{looks_left}
use Rattle.mf_top.proofs.run.Run.run_task.Given as goal

abbrev pub invariant-loop-pass : goal.invariant-loop-pass
invariant-loop-pass g l = (l.pass.out ≡ false) × (l.pass.task ≡ l.fn.pass.task)

abbrev pub decreases-loop-pass : goal.decreases-loop-pass
decreases-loop-pass g l = looks_left g.J.Job.script l.pass
