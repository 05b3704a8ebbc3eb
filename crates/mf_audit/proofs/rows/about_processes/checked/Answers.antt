use Rattle.std.proofs.Common.{[], refl}
use Rattle.mf_plan.specs.Checks.{on}
use Rattle.mf_plan.specs.Row.{ask, does_nothing}
use Rattle.mf_audit.proofs.Through.{at_once, goes_nowhere_by, goes_there}
use Rattle.mf_audit.proofs.rows.about_processes.checked.Goals as goal

pub returns-in_err-id : goal.returns-in_err-id
returns-in_err-id c task =
    goes_nowhere_by c.args.kernel.now task c.args.me [] _ (λ id. ask (on c.args.me c.args.op id) does_nothing) _ c.args.walk.now _ _
    (at_once c.args.kernel.now c.args.me _ _ c.args.walk.now c.in_err-id.ensures.there) (c.from_residual.ensures.1)

pub returns : goal.returns
returns c task =
    goes_there c.args.kernel.now task c.args.me [] _ (λ id. ask (on c.args.me c.args.op id) does_nothing) c.in_ok-id.id c.args.walk.now _ _ _
    (at_once c.args.kernel.now c.args.me _ _ c.args.walk.now c.in_ok-id.ensures.there) refl (c.shown.ensures task)
