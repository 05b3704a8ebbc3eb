use Rattle.mf_calls.specs.declared.script.Call.TheVariants as call
use Rattle.mf_audit.proofs.Through.{at_once, found, missed}
use Rattle.mf_audit.proofs.rows.about_processes.make.Goals as goal

pub returns-in_err-unused_child-in-Fork : goal.returns-in_err-unused_child-in-Fork
returns-in_err-unused_child-in-Fork c =
    missed c.args.kernel.now c.args.task.now c.args.me c.args.call.now (call.Fork c.in-Fork.child) _ c.args.walk.now _ _ c.in-Fork.is
    (at_once c.args.kernel.now c.args.me _ _ c.args.walk.now c.in_err-unused_child-in-Fork.ensures) (c.from_residual.ensures.1)

pub returns-in_ok-unused_child-in-Fork : goal.returns-in_ok-unused_child-in-Fork
returns-in_ok-unused_child-in-Fork c =
    found c.args.kernel.now c.args.task.now c.args.me c.args.call.now (call.Fork c.in-Fork.child) tt c.args.walk.now _ _ _ c.in-Fork.is
    (at_once c.args.kernel.now c.args.me _ _ c.args.walk.now c.in_ok-unused_child-in-Fork.ensures)
    (c.fork.ensures c.args.task.now c.args.walk.now)

pub returns-in_err-unused-in-Pipe : goal.returns-in_err-unused-in-Pipe
returns-in_err-unused-in-Pipe c =
    missed c.args.kernel.now c.args.task.now c.args.me c.args.call.now (call.Pipe c.in-Pipe.name) _ c.args.walk.now _ _ c.in-Pipe.is
    (at_once c.args.kernel.now c.args.me _ _ c.args.walk.now c.in_err-unused-in-Pipe.ensures) (c.from_residual-in_err-unused-in-Pipe.ensures.1)

pub returns-in_ok-unused-in-Pipe : goal.returns-in_ok-unused-in-Pipe
returns-in_ok-unused-in-Pipe c =
    found c.args.kernel.now c.args.task.now c.args.me c.args.call.now (call.Pipe c.in-Pipe.name) tt c.args.walk.now _ _ _ c.in-Pipe.is
    (at_once c.args.kernel.now c.args.me _ _ c.args.walk.now c.in_ok-unused-in-Pipe.ensures)
    (c.make_pipe.ensures c.args.task.now c.args.walk.now)

pub returns-in_err-unused-in-Socket : goal.returns-in_err-unused-in-Socket
returns-in_err-unused-in-Socket c =
    missed c.args.kernel.now c.args.task.now c.args.me c.args.call.now (call.Socket c.in-Socket.name) _ c.args.walk.now _ _ c.in-Socket.is
    (at_once c.args.kernel.now c.args.me _ _ c.args.walk.now c.in_err-unused-in-Socket.ensures) (c.from_residual-in_err-unused-in-Socket.ensures.1)

pub returns-in_ok-unused-in-Socket : goal.returns-in_ok-unused-in-Socket
returns-in_ok-unused-in-Socket c =
    found c.args.kernel.now c.args.task.now c.args.me c.args.call.now (call.Socket c.in-Socket.name) tt c.args.walk.now _ _ _ c.in-Socket.is
    (at_once c.args.kernel.now c.args.me _ _ c.args.walk.now c.in_ok-unused-in-Socket.ensures)
    (c.make_socket.ensures c.args.task.now c.args.walk.now)

pub returns-in_err-dir-in-Create : goal.returns-in_err-dir-in-Create
returns-in_err-dir-in-Create c =
    missed c.args.kernel.now c.args.task.now c.args.me c.args.call.now (call.Create c.in-Create.path) _ c.args.walk.now _ _ c.in-Create.is
    (c.in_err-dir-in-Create.ensures.way) (c.from_residual-in_err-dir-in-Create.ensures.1)

pub returns-in_ok-dir-in-Create : goal.returns-in_ok-dir-in-Create
returns-in_ok-dir-in-Create c =
    found c.args.kernel.now c.args.task.now c.args.me c.args.call.now (call.Create c.in-Create.path) c.in_ok-dir-in-Create.dir c.args.walk.now _ _ _ c.in-Create.is
    (c.in_ok-dir-in-Create.ensures.way)
    (c.make_file.ensures c.args.task.now)

pub returns-in_err-dir-in-Mkdir : goal.returns-in_err-dir-in-Mkdir
returns-in_err-dir-in-Mkdir c =
    missed c.args.kernel.now c.args.task.now c.args.me c.args.call.now (call.Mkdir c.in-Mkdir.path) _ c.args.walk.now _ _ c.in-Mkdir.is
    (c.in_err-dir-in-Mkdir.ensures.way) (c.from_residual-in_err-dir-in-Mkdir.ensures.1)

pub returns-in_ok-dir-in-Mkdir : goal.returns-in_ok-dir-in-Mkdir
returns-in_ok-dir-in-Mkdir c =
    found c.args.kernel.now c.args.task.now c.args.me c.args.call.now (call.Mkdir c.in-Mkdir.path) c.in_ok-dir-in-Mkdir.dir c.args.walk.now _ _ _ c.in-Mkdir.is
    (c.in_ok-dir-in-Mkdir.ensures.way)
    (c.make_file-in-Mkdir.ensures c.args.task.now)
