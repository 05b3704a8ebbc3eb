use Rattle.mf_calls.specs.declared.script.Call.TheVariants as call
use Rattle.mf_audit.proofs.Through.{found, missed}
use Rattle.mf_audit.proofs.rows.about_files.change_file.Goals as goal

pub returns-in_err-asked-in-Setfmac : goal.returns-in_err-asked-in-Setfmac
returns-in_err-asked-in-Setfmac c =
    missed c.args.kernel.now c.args._task.now c.args.me c.args.call.now (call.Setfmac c.in-Setfmac.text c.in-Setfmac.path) _ c.args.walk.now _ _ c.in-Setfmac.is
    (c.in_err-asked-in-Setfmac.ensures.way) (c.from_residual.ensures.1)

pub returns-in_ok-asked-in-Setfmac : goal.returns-in_ok-asked-in-Setfmac
returns-in_ok-asked-in-Setfmac c =
    found c.args.kernel.now c.args._task.now c.args.me c.args.call.now (call.Setfmac c.in-Setfmac.text c.in-Setfmac.path) c.in_ok-asked-in-Setfmac.asked c.args.walk.now _ _ _ c.in-Setfmac.is
    (c.in_ok-asked-in-Setfmac.ensures.way)
    (c.relabel.ensures c.args._task.now)

pub returns-in_err-id-in-Chmod : goal.returns-in_err-id-in-Chmod
returns-in_err-id-in-Chmod c =
    missed c.args.kernel.now c.args._task.now c.args.me c.args.call.now (call.Chmod c.in-Chmod.path c.in-Chmod.mode) _ c.args.walk.now _ _ c.in-Chmod.is
    (c.in_err-id-in-Chmod.ensures.way) (c.from_residual-in_err-id-in-Chmod.ensures.1)

pub returns-in_ok-id-in-Chmod : goal.returns-in_ok-id-in-Chmod
returns-in_ok-id-in-Chmod c =
    found c.args.kernel.now c.args._task.now c.args.me c.args.call.now (call.Chmod c.in-Chmod.path c.in-Chmod.mode) c.in_ok-id-in-Chmod.id c.args.walk.now _ _ _ c.in-Chmod.is
    (c.in_ok-id-in-Chmod.ensures.way)
    (c.chmod.ensures c.args._task.now c.in-Chmod.path)

pub returns-in_err-entry-in-Unlink : goal.returns-in_err-entry-in-Unlink
returns-in_err-entry-in-Unlink c =
    missed c.args.kernel.now c.args._task.now c.args.me c.args.call.now (call.Unlink c.in-Unlink.path) _ c.args.walk.now _ _ c.in-Unlink.is
    (c.in_err-entry-in-Unlink.ensures.way) (c.from_residual-in_err-entry-in-Unlink.ensures.1)

pub returns-in_ok-entry-in-Unlink : goal.returns-in_ok-entry-in-Unlink
returns-in_ok-entry-in-Unlink c =
    found c.args.kernel.now c.args._task.now c.args.me c.args.call.now (call.Unlink c.in-Unlink.path) c.in_ok-entry-in-Unlink.entry c.args.walk.now _ _ _ c.in-Unlink.is
    (c.in_ok-entry-in-Unlink.ensures.way)
    (c.unlink.ensures c.args._task.now c.in-Unlink.path)
