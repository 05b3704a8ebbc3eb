use Rattle.std.proofs.Common.{subst}
use Rattle.mf_plan.specs.Plan.{row_for}
use Rattle.mf_audit.specs.declared.walk.Walk.{Walk}
use Rattle.mf_audit.specs.Ends.{Goes}
use Rattle.mf_audit.proofs.kernel.Kernel.go_on_by.Goals as goal

pub conclude-requires-clause-goes : goal.conclude-requires-clause-goes
conclude-requires-clause-goes c =
    let s = c.args.self.now in
    let task = c.args.task.now in
    subst (λ (w : Walk). Goes s task c.args.me (row_for s task c.args.line.now.call c.args.me) w c.row-end.new.walk c.row-end.result) c.start-walk.ensures c.row-end.ensures
