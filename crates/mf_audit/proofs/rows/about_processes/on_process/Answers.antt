use Rattle.mf_calls.specs.declared.script.Call.TheVariants as call
use Rattle.mf_audit.proofs.Through.{by_row}
use Rattle.mf_audit.proofs.rows.about_processes.on_process.Goals as goal

pub returns-in-See : goal.returns-in-See
returns-in-See c =
    by_row c.args.kernel.now c.args._task.now c.args.me c.args.call.now (call.See c.in-See.name) c.args.walk.now _ _ c.in-See.is (c.checked.ensures c.args._task.now)

pub returns-in-Signal : goal.returns-in-Signal
returns-in-Signal c =
    by_row c.args.kernel.now c.args._task.now c.args.me c.args.call.now (call.Signal c.in-Signal.name) c.args.walk.now _ _ c.in-Signal.is (c.checked-in-Signal.ensures c.args._task.now)

pub returns-in-Debug : goal.returns-in-Debug
returns-in-Debug c =
    by_row c.args.kernel.now c.args._task.now c.args.me c.args.call.now (call.Debug c.in-Debug.name) c.args.walk.now _ _ c.in-Debug.is (c.checked-in-Debug.ensures c.args._task.now)

pub returns-in-Sched : goal.returns-in-Sched
returns-in-Sched c =
    by_row c.args.kernel.now c.args._task.now c.args.me c.args.call.now (call.Sched c.in-Sched.name) c.args.walk.now _ _ c.in-Sched.is (c.checked-in-Sched.ensures c.args._task.now)
