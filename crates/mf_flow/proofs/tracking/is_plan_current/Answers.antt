use Rattle.mf_core.specs.CoreView.{run_state}
use Rattle.mf_core.proofs.Calls.{found_by}
use Rattle.mf_flow.proofs.tracking.is_plan_current.Goals as goal

-- where the outline is that of the call, and the plan too, what was found is what the plan is about
pub returns-then-is_known-clause-found : goal.returns-then-is_known-clause-found
returns-then-is_known-clause-found g c = λ tail _.
    found_by c.args.core.now.script (run_state c.args.core.now) c.args.task c.args.outline.now (c.requires.planned c.if-not-is_planned.false) c.args.plan.now (c.requires.known c.if-is_known.true) tail
