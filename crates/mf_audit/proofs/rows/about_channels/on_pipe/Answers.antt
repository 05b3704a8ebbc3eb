use Rattle.std.proofs.Common.{ap, sym, ◌∙◌}
use Rattle.mf_calls.specs.declared.script.Call.TheVariants as call
use Rattle.mf_item.specs.declared.view.Kind.TheVariants as kinds
use Rattle.mf_plan.specs.Ways.{way_to}
use Rattle.mf_plan.specs.Ways.Place.{Asking, Named}
use Rattle.mf_audit.proofs.Through.{at_once, found, missed, without_checks}
use Rattle.mf_audit.proofs.rows.about_channels.on_pipe.Goals as goal

pub returns-in_err-id-in-Pread : goal.returns-in_err-id-in-Pread
returns-in_err-id-in-Pread c =
    missed c.args.kernel.now c.args._task.now c.args.me c.args.call.now (call.Pread c.in-Pread.name) _ c.args.walk.now _ _ c.in-Pread.is
    (at_once c.args.kernel.now c.args.me _ _ c.args.walk.now c.in_err-id-in-Pread.ensures.there) (c.from_residual.ensures.1)

pub returns-in_ok-id-in-Pread : goal.returns-in_ok-id-in-Pread
returns-in_ok-id-in-Pread c =
    found c.args.kernel.now c.args._task.now c.args.me c.args.call.now (call.Pread c.in-Pread.name) c.in_ok-id-in-Pread.id c.args.walk.now _ _ _ c.in-Pread.is
    (at_once c.args.kernel.now c.args.me _ _ c.args.walk.now c.in_ok-id-in-Pread.ensures.there)
    (c.pread.ensures c.args._task.now c.in-Pread.name)

pub returns-in_err-id-in-Pwrite : goal.returns-in_err-id-in-Pwrite
returns-in_err-id-in-Pwrite c =
    missed c.args.kernel.now c.args._task.now c.args.me c.args.call.now (call.Pwrite c.in-Pwrite.name c.in-Pwrite.text) _ c.args.walk.now _ _ c.in-Pwrite.is
    (at_once c.args.kernel.now c.args.me _ _ c.args.walk.now c.in_err-id-in-Pwrite.ensures.there) (c.from_residual-in_err-id-in-Pwrite.ensures.1)

pub returns-in_ok-id-in-Pwrite : goal.returns-in_ok-id-in-Pwrite
returns-in_ok-id-in-Pwrite c =
    found c.args.kernel.now c.args._task.now c.args.me c.args.call.now (call.Pwrite c.in-Pwrite.name c.as_slice.result.now) c.in_ok-id-in-Pwrite.id c.args.walk.now _ _ _ (c.in-Pwrite.is ∙ ap (call.Pwrite c.in-Pwrite.name) (sym c.as_slice.ensures.value))
    (at_once c.args.kernel.now c.args.me _ _ c.args.walk.now c.in_ok-id-in-Pwrite.ensures.there)
    (c.pwrite.ensures c.args._task.now c.in-Pwrite.name)

pub returns-in_err-id-in-Pstat : goal.returns-in_err-id-in-Pstat
returns-in_err-id-in-Pstat c =
    missed c.args.kernel.now c.args._task.now c.args.me c.args.call.now (call.Pstat c.in-Pstat.name) _ c.args.walk.now _ _ c.in-Pstat.is
    (at_once c.args.kernel.now c.args.me _ _ c.args.walk.now c.in_err-id-in-Pstat.ensures.there) (c.from_residual-in_err-id-in-Pstat.ensures.1)

pub returns-in_ok-id-in-Pstat : goal.returns-in_ok-id-in-Pstat
returns-in_ok-id-in-Pstat c =
    found c.args.kernel.now c.args._task.now c.args.me c.args.call.now (call.Pstat c.in-Pstat.name) c.in_ok-id-in-Pstat.id c.args.walk.now _ _ _ c.in-Pstat.is
    (at_once c.args.kernel.now c.args.me _ _ c.args.walk.now c.in_ok-id-in-Pstat.ensures.there)
    (c.shown.ensures c.args._task.now)

pub returns-in_err-asked-in-Setpipemac : goal.returns-in_err-asked-in-Setpipemac
returns-in_err-asked-in-Setpipemac c =
    missed c.args.kernel.now c.args._task.now c.args.me c.args.call.now (call.Setpipemac c.in-Setpipemac.text c.in-Setpipemac.name) _ c.args.walk.now _ _ c.in-Setpipemac.is
    (without_checks c.args.kernel.now c.args.me (way_to c.args.kernel.now c.args.me (Asking kinds.Pipe c.in-Setpipemac.text (Named kinds.Pipe c.in-Setpipemac.name))) c.args.walk.now _ (c.in_err-asked-in-Setpipemac.ensures.none c.args.me) (c.in_err-asked-in-Setpipemac.ensures.there c.args.me)) (c.from_residual-in_err-asked-in-Setpipemac.ensures.1)

pub returns-in_ok-asked-in-Setpipemac : goal.returns-in_ok-asked-in-Setpipemac
returns-in_ok-asked-in-Setpipemac c =
    found c.args.kernel.now c.args._task.now c.args.me c.args.call.now (call.Setpipemac c.in-Setpipemac.text c.in-Setpipemac.name) c.in_ok-asked-in-Setpipemac.asked c.args.walk.now _ _ _ c.in-Setpipemac.is
    (without_checks c.args.kernel.now c.args.me (way_to c.args.kernel.now c.args.me (Asking kinds.Pipe c.in-Setpipemac.text (Named kinds.Pipe c.in-Setpipemac.name))) c.args.walk.now _ (c.in_ok-asked-in-Setpipemac.ensures.none c.args.me) (c.in_ok-asked-in-Setpipemac.ensures.there c.args.me))
    (c.relabel.ensures c.args._task.now)
