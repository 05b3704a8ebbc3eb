use Rattle.mf_calls.specs.declared.script.Call.TheVariants as call
use Rattle.mf_audit.proofs.Through.{found, missed}
use Rattle.mf_audit.proofs.rows.about_policies.on_module.Goals as goal

pub returns-in_err-module-in-Kldload : goal.returns-in_err-module-in-Kldload
returns-in_err-module-in-Kldload c =
    missed c.args.kernel.now c.args._task.now c.args.me c.args.call.now (call.Kldload c.in-Kldload.name) _ c.args.walk.now _ _ c.in-Kldload.is
    (c.in_err-module-in-Kldload.ensures.way) (c.from_residual.ensures.1)

pub returns-in_ok-module-in-Kldload : goal.returns-in_ok-module-in-Kldload
returns-in_ok-module-in-Kldload c =
    found c.args.kernel.now c.args._task.now c.args.me c.args.call.now (call.Kldload c.in-Kldload.name) c.in_ok-module-in-Kldload.«module» c.args.walk.now _ _ _ c.in-Kldload.is
    (c.in_ok-module-in-Kldload.ensures.way)
    (c.load.ensures c.args._task.now c.in-Kldload.name)

pub returns-in_err-module-in-Kldunload : goal.returns-in_err-module-in-Kldunload
returns-in_err-module-in-Kldunload c =
    missed c.args.kernel.now c.args._task.now c.args.me c.args.call.now (call.Kldunload c.in-Kldunload.name) _ c.args.walk.now _ _ c.in-Kldunload.is
    (c.in_err-module-in-Kldunload.ensures.way) (c.from_residual-in_err-module-in-Kldunload.ensures.1)

pub returns-in_ok-module-in-Kldunload : goal.returns-in_ok-module-in-Kldunload
returns-in_ok-module-in-Kldunload c =
    found c.args.kernel.now c.args._task.now c.args.me c.args.call.now (call.Kldunload c.in-Kldunload.name) c.in_ok-module-in-Kldunload.«module» c.args.walk.now _ _ _ c.in-Kldunload.is
    (c.in_ok-module-in-Kldunload.ensures.way)
    (c.unload.ensures c.args._task.now c.in-Kldunload.name _)
