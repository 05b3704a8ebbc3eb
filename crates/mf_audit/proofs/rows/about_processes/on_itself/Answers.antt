use Rattle.std.proofs.Common.{Ok, Err, refl}
use Rattle.mf_calls.specs.declared.script.Call.TheVariants as call
use Rattle.mf_item.specs.declared.view.Kind.TheVariants as kinds
use Rattle.mf_plan.specs.Relabels.{claimed_in}
use Rattle.mf_audit.proofs.Through.{at_once, found, itself, missed}
use Rattle.mf_audit.proofs.rows.about_processes.on_itself.Goals as goal

pub returns-in-Exit : goal.returns-in-Exit
returns-in-Exit c =
    found c.args.kernel.now c.args._task.now c.args.me c.args.call.now (call.Exit) tt c.args.walk.now _ _ _ c.in-Exit.is
    (at_once c.args.kernel.now c.args.me (Ok tt) (Ok tt) c.args.walk.now refl)
    (c.exit.ensures c.args._task.now c.args.walk.now)

pub returns-in-Priv : goal.returns-in-Priv
returns-in-Priv c =
    found c.args.kernel.now c.args._task.now c.args.me c.args.call.now (call.Priv c.in-Priv.p) tt c.args.walk.now _ _ _ c.in-Priv.is
    (at_once c.args.kernel.now c.args.me (Ok tt) (Ok tt) c.args.walk.now refl)
    (c.privileged.ensures c.args._task.now)

pub returns-in-Getpmac : goal.returns-in-Getpmac
returns-in-Getpmac c =
    found c.args.kernel.now c.args._task.now c.args.me c.args.call.now (call.Getpmac) c.args.me c.args.walk.now _ _ _ c.in-Getpmac.is
    (at_once c.args.kernel.now c.args.me (Ok c.args.me) (Ok c.args.me) c.args.walk.now refl)
    (c.just_shown.ensures c.args._task.now c.args.walk.now)

pub returns-in_err-request-in-Setpmac : goal.returns-in_err-request-in-Setpmac
returns-in_err-request-in-Setpmac c =
    missed c.args.kernel.now c.args._task.now c.args.me c.args.call.now (call.Setpmac c.in-Setpmac.text) _ c.args.walk.now _ _ c.in-Setpmac.is
    (itself c.args.kernel.now c.args.me (claimed_in c.args.kernel.now.specs kinds.Process c.in-Setpmac.text) (Err _) c.args.walk.now c.in_err-request-in-Setpmac.ensures) (c.from_residual.ensures.1)

pub returns-in_ok-request-in-Setpmac : goal.returns-in_ok-request-in-Setpmac
returns-in_ok-request-in-Setpmac c =
    found c.args.kernel.now c.args._task.now c.args.me c.args.call.now (call.Setpmac c.in-Setpmac.text) (c.in_ok-request-in-Setpmac.request, c.args.me) c.args.walk.now _ _ _ c.in-Setpmac.is
    (itself c.args.kernel.now c.args.me (claimed_in c.args.kernel.now.specs kinds.Process c.in-Setpmac.text) (Ok c.in_ok-request-in-Setpmac.request) c.args.walk.now c.in_ok-request-in-Setpmac.ensures)
    (c.relabel_itself.ensures c.args._task.now)

pub returns-in-Kldstat : goal.returns-in-Kldstat
returns-in-Kldstat c =
    found c.args.kernel.now c.args._task.now c.args.me c.args.call.now (call.Kldstat) tt c.args.walk.now _ _ _ c.in-Kldstat.is
    (at_once c.args.kernel.now c.args.me (Ok tt) (Ok tt) c.args.walk.now refl)
    (c.just_shown-in-Kldstat.ensures c.args._task.now c.args.walk.now)
