use Rattle.std.proofs.Common.{ap, sym, ◌∙◌}
use Rattle.mf_calls.specs.declared.script.Call.TheVariants as call
use Rattle.mf_audit.proofs.Through.{found, missed}
use Rattle.mf_audit.proofs.rows.about_files.on_file.Goals as goal

pub returns-in_err-id-in-Exec : goal.returns-in_err-id-in-Exec
returns-in_err-id-in-Exec c =
    missed c.args.kernel.now c.args._task.now c.args.me c.args.call.now (call.Exec c.in-Exec.path) _ c.args.walk.now _ _ c.in-Exec.is
    (c.in_err-id-in-Exec.ensures.way) (c.from_residual.ensures.1)

pub returns-in_ok-id-in-Exec : goal.returns-in_ok-id-in-Exec
returns-in_ok-id-in-Exec c =
    found c.args.kernel.now c.args._task.now c.args.me c.args.call.now (call.Exec c.in-Exec.path) c.in_ok-id-in-Exec.id c.args.walk.now _ _ _ c.in-Exec.is
    (c.in_ok-id-in-Exec.ensures.way)
    (c.exec.ensures c.args._task.now c.in-Exec.path)

pub returns-in_err-id-in-Read : goal.returns-in_err-id-in-Read
returns-in_err-id-in-Read c =
    missed c.args.kernel.now c.args._task.now c.args.me c.args.call.now (call.Read c.in-Read.path) _ c.args.walk.now _ _ c.in-Read.is
    (c.in_err-id-in-Read.ensures.way) (c.from_residual-in_err-id-in-Read.ensures.1)

pub returns-in_ok-id-in-Read : goal.returns-in_ok-id-in-Read
returns-in_ok-id-in-Read c =
    found c.args.kernel.now c.args._task.now c.args.me c.args.call.now (call.Read c.in-Read.path) c.in_ok-id-in-Read.id c.args.walk.now _ _ _ c.in-Read.is
    (c.in_ok-id-in-Read.ensures.way)
    (c.read.ensures c.args._task.now c.in-Read.path)

pub returns-in_err-id-in-Write : goal.returns-in_err-id-in-Write
returns-in_err-id-in-Write c =
    missed c.args.kernel.now c.args._task.now c.args.me c.args.call.now (call.Write c.in-Write.path c.in-Write.text) _ c.args.walk.now _ _ c.in-Write.is
    (c.in_err-id-in-Write.ensures.way) (c.from_residual-in_err-id-in-Write.ensures.1)

pub returns-in_ok-id-in-Write : goal.returns-in_ok-id-in-Write
returns-in_ok-id-in-Write c =
    found c.args.kernel.now c.args._task.now c.args.me c.args.call.now (call.Write c.in-Write.path c.as_slice.result.now) c.in_ok-id-in-Write.id c.args.walk.now _ _ _ (c.in-Write.is ∙ ap (call.Write c.in-Write.path) (sym c.as_slice.ensures.value))
    (c.in_ok-id-in-Write.ensures.way)
    (c.write.ensures c.args._task.now c.in-Write.path)

pub returns-in_err-id-in-Stat : goal.returns-in_err-id-in-Stat
returns-in_err-id-in-Stat c =
    missed c.args.kernel.now c.args._task.now c.args.me c.args.call.now (call.Stat c.in-Stat.path) _ c.args.walk.now _ _ c.in-Stat.is
    (c.in_err-id-in-Stat.ensures.way) (c.from_residual-in_err-id-in-Stat.ensures.1)

pub returns-in_ok-id-in-Stat : goal.returns-in_ok-id-in-Stat
returns-in_ok-id-in-Stat c =
    found c.args.kernel.now c.args._task.now c.args.me c.args.call.now (call.Stat c.in-Stat.path) c.in_ok-id-in-Stat.id c.args.walk.now _ _ _ c.in-Stat.is
    (c.in_ok-id-in-Stat.ensures.way)
    (c.shown.ensures c.args._task.now)

pub returns-in_err-id-in-Getfmac : goal.returns-in_err-id-in-Getfmac
returns-in_err-id-in-Getfmac c =
    missed c.args.kernel.now c.args._task.now c.args.me c.args.call.now (call.Getfmac c.in-Getfmac.path) _ c.args.walk.now _ _ c.in-Getfmac.is
    (c.in_err-id-in-Getfmac.ensures.way) (c.from_residual-in_err-id-in-Getfmac.ensures.1)

pub returns-in_ok-id-in-Getfmac : goal.returns-in_ok-id-in-Getfmac
returns-in_ok-id-in-Getfmac c =
    found c.args.kernel.now c.args._task.now c.args.me c.args.call.now (call.Getfmac c.in-Getfmac.path) c.in_ok-id-in-Getfmac.id c.args.walk.now _ _ _ c.in-Getfmac.is
    (c.in_ok-id-in-Getfmac.ensures.way)
    (c.shown-in-Getfmac.ensures c.args._task.now)

pub returns-in_err-id-in-Readdir : goal.returns-in_err-id-in-Readdir
returns-in_err-id-in-Readdir c =
    missed c.args.kernel.now c.args._task.now c.args.me c.args.call.now (call.Readdir c.in-Readdir.path) _ c.args.walk.now _ _ c.in-Readdir.is
    (c.in_err-id-in-Readdir.ensures.way) (c.from_residual-in_err-id-in-Readdir.ensures.1)

pub returns-in_ok-id-in-Readdir : goal.returns-in_ok-id-in-Readdir
returns-in_ok-id-in-Readdir c =
    found c.args.kernel.now c.args._task.now c.args.me c.args.call.now (call.Readdir c.in-Readdir.path) c.in_ok-id-in-Readdir.id c.args.walk.now _ _ _ c.in-Readdir.is
    (c.in_ok-id-in-Readdir.ensures.way)
    (c.readdir.ensures c.args._task.now c.in-Readdir.path)

pub returns-in_err-id-in-OpenFd : goal.returns-in_err-id-in-OpenFd
returns-in_err-id-in-OpenFd c =
    missed c.args.kernel.now c.args._task.now c.args.me c.args.call.now (call.OpenFd c.in-OpenFd.path c.in-OpenFd.reading c.in-OpenFd.writing) _ c.args.walk.now _ _ c.in-OpenFd.is
    (c.in_err-id-in-OpenFd.ensures.way) (c.from_residual-in_err-id-in-OpenFd.ensures.1)

pub returns-in_ok-id-in-OpenFd : goal.returns-in_ok-id-in-OpenFd
returns-in_ok-id-in-OpenFd c =
    found c.args.kernel.now c.args._task.now c.args.me c.args.call.now (call.OpenFd c.in-OpenFd.path c.in-OpenFd.reading c.in-OpenFd.writing) c.in_ok-id-in-OpenFd.id c.args.walk.now _ _ _ c.in-OpenFd.is
    (c.in_ok-id-in-OpenFd.ensures.way)
    (c.open.ensures c.args._task.now c.in-OpenFd.path)
