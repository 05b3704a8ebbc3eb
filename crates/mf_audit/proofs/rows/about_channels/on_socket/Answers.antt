use Rattle.std.proofs.Common.{ap, sym, ◌∙◌}
use Rattle.mf_calls.specs.declared.script.Call.TheVariants as call
use Rattle.mf_item.specs.declared.view.Kind.TheVariants as kinds
use Rattle.mf_plan.specs.Ways.{way_to}
use Rattle.mf_plan.specs.Ways.Place.{Asking, Named}
use Rattle.mf_audit.proofs.Through.{at_once, found, missed, without_checks}
use Rattle.mf_audit.proofs.rows.about_channels.on_socket.Goals as goal

pub returns-in_err-ends-in-Send : goal.returns-in_err-ends-in-Send
returns-in_err-ends-in-Send c =
    missed c.args.kernel.now c.args._task.now c.args.me c.args.call.now (call.Send c.in-Send.from c.get.result.now c.in-Send.text) _ c.args.walk.now _ _ (c.in-Send.is ∙ ap (λ to. call.Send c.in-Send.from to c.in-Send.text) (sym c.get.ensures))
    (c.in_err-ends-in-Send.ensures.way) (c.from_residual.ensures.1)

pub returns-in_ok-ends-in-Send : goal.returns-in_ok-ends-in-Send
returns-in_ok-ends-in-Send c =
    found c.args.kernel.now c.args._task.now c.args.me c.args.call.now (call.Send c.in-Send.from c.get.result.now c.as_slice.result.now) c.in_ok-ends-in-Send.ends c.args.walk.now _ _ _
    (c.in-Send.is ∙ ap (λ to. call.Send c.in-Send.from to c.in-Send.text) (sym c.get.ensures) ∙ ap (call.Send c.in-Send.from c.get.result.now) (sym (c.as_slice.ensures.value ∙ c.get-in-Send.ensures)))
    (c.in_ok-ends-in-Send.ensures.way)
    (c.send.ensures c.args._task.now c.in-Send.from c.get.result.now)

pub returns-in_err-id-in-Recv : goal.returns-in_err-id-in-Recv
returns-in_err-id-in-Recv c =
    missed c.args.kernel.now c.args._task.now c.args.me c.args.call.now (call.Recv c.in-Recv.name) _ c.args.walk.now _ _ c.in-Recv.is
    (at_once c.args.kernel.now c.args.me _ _ c.args.walk.now c.in_err-id-in-Recv.ensures.there) (c.from_residual-in_err-id-in-Recv.ensures.1)

pub returns-in_ok-id-in-Recv : goal.returns-in_ok-id-in-Recv
returns-in_ok-id-in-Recv c =
    found c.args.kernel.now c.args._task.now c.args.me c.args.call.now (call.Recv c.in-Recv.name) c.in_ok-id-in-Recv.id c.args.walk.now _ _ _ c.in-Recv.is
    (at_once c.args.kernel.now c.args.me _ _ c.args.walk.now c.in_ok-id-in-Recv.ensures.there)
    (c.recv.ensures c.args._task.now c.in-Recv.name)

pub returns-in_err-id-in-Seesock : goal.returns-in_err-id-in-Seesock
returns-in_err-id-in-Seesock c =
    missed c.args.kernel.now c.args._task.now c.args.me c.args.call.now (call.Seesock c.in-Seesock.name) _ c.args.walk.now _ _ c.in-Seesock.is
    (at_once c.args.kernel.now c.args.me _ _ c.args.walk.now c.in_err-id-in-Seesock.ensures.there) (c.from_residual-in_err-id-in-Seesock.ensures.1)

pub returns-in_ok-id-in-Seesock : goal.returns-in_ok-id-in-Seesock
returns-in_ok-id-in-Seesock c =
    found c.args.kernel.now c.args._task.now c.args.me c.args.call.now (call.Seesock c.in-Seesock.name) c.in_ok-id-in-Seesock.id c.args.walk.now _ _ _ c.in-Seesock.is
    (at_once c.args.kernel.now c.args.me _ _ c.args.walk.now c.in_ok-id-in-Seesock.ensures.there)
    (c.shown.ensures c.args._task.now)

pub returns-in_err-asked-in-Setsockmac : goal.returns-in_err-asked-in-Setsockmac
returns-in_err-asked-in-Setsockmac c =
    missed c.args.kernel.now c.args._task.now c.args.me c.args.call.now (call.Setsockmac c.in-Setsockmac.text c.in-Setsockmac.name) _ c.args.walk.now _ _ c.in-Setsockmac.is
    (without_checks c.args.kernel.now c.args.me (way_to c.args.kernel.now c.args.me (Asking kinds.Socket c.in-Setsockmac.text (Named kinds.Socket c.in-Setsockmac.name))) c.args.walk.now _ (c.in_err-asked-in-Setsockmac.ensures.none c.args.me) (c.in_err-asked-in-Setsockmac.ensures.there c.args.me)) (c.from_residual-in_err-asked-in-Setsockmac.ensures.1)

pub returns-in_ok-asked-in-Setsockmac : goal.returns-in_ok-asked-in-Setsockmac
returns-in_ok-asked-in-Setsockmac c =
    found c.args.kernel.now c.args._task.now c.args.me c.args.call.now (call.Setsockmac c.in-Setsockmac.text c.in-Setsockmac.name) c.in_ok-asked-in-Setsockmac.asked c.args.walk.now _ _ _ c.in-Setsockmac.is
    (without_checks c.args.kernel.now c.args.me (way_to c.args.kernel.now c.args.me (Asking kinds.Socket c.in-Setsockmac.text (Named kinds.Socket c.in-Setsockmac.name))) c.args.walk.now _ (c.in_ok-asked-in-Setsockmac.ensures.none c.args.me) (c.in_ok-asked-in-Setsockmac.ensures.there c.args.me))
    (c.relabel.ensures c.args._task.now)

pub returns-in_err-id-in-Bind : goal.returns-in_err-id-in-Bind
returns-in_err-id-in-Bind c =
    missed c.args.kernel.now c.args._task.now c.args.me c.args.call.now (call.Bind c.in-Bind.name c.in-Bind.tcp c.in-Bind.port) _ c.args.walk.now _ _ c.in-Bind.is
    (at_once c.args.kernel.now c.args.me _ _ c.args.walk.now c.in_err-id-in-Bind.ensures.there) (c.from_residual-in_err-id-in-Bind.ensures.1)

pub returns-in_ok-id-in-Bind : goal.returns-in_ok-id-in-Bind
returns-in_ok-id-in-Bind c =
    found c.args.kernel.now c.args._task.now c.args.me c.args.call.now (call.Bind c.in-Bind.name c.in-Bind.tcp c.in-Bind.port) c.in_ok-id-in-Bind.id c.args.walk.now _ _ _ c.in-Bind.is
    (at_once c.args.kernel.now c.args.me _ _ c.args.walk.now c.in_ok-id-in-Bind.ensures.there)
    (c.bind.ensures c.args._task.now c.in-Bind.name)
