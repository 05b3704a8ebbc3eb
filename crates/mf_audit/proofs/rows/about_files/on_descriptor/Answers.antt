use Rattle.std.proofs.Common.{ap, sym, ◌∙◌}
use Rattle.mf_calls.specs.declared.script.Call.TheVariants as call
use Rattle.mf_audit.proofs.Through.{at_once, found, missed}
use Rattle.mf_audit.proofs.rows.about_files.on_descriptor.Goals as goal

pub returns-in_err-id-in-Fread : goal.returns-in_err-id-in-Fread
returns-in_err-id-in-Fread c =
    missed c.args.kernel.now c.args._task.now c.args.me c.args.call.now (call.Fread c.in-Fread.n) _ c.args.walk.now _ _ c.in-Fread.is
    (at_once c.args.kernel.now c.args.me _ _ c.args.walk.now c.in_err-id-in-Fread.ensures.there) (c.from_residual.ensures.1)

pub returns-in_ok-id-in-Fread : goal.returns-in_ok-id-in-Fread
returns-in_ok-id-in-Fread c =
    found c.args.kernel.now c.args._task.now c.args.me c.args.call.now (call.Fread c.in-Fread.n) c.in_ok-id-in-Fread.id c.args.walk.now _ _ _ c.in-Fread.is
    (at_once c.args.kernel.now c.args.me _ _ c.args.walk.now c.in_ok-id-in-Fread.ensures.there)
    (c.reads.ensures c.args._task.now)

pub returns-in_err-id-in-Fwrite : goal.returns-in_err-id-in-Fwrite
returns-in_err-id-in-Fwrite c =
    missed c.args.kernel.now c.args._task.now c.args.me c.args.call.now (call.Fwrite c.in-Fwrite.n c.in-Fwrite.text) _ c.args.walk.now _ _ c.in-Fwrite.is
    (at_once c.args.kernel.now c.args.me _ _ c.args.walk.now c.in_err-id-in-Fwrite.ensures.there) (c.from_residual-in_err-id-in-Fwrite.ensures.1)

pub returns-in_ok-id-in-Fwrite : goal.returns-in_ok-id-in-Fwrite
returns-in_ok-id-in-Fwrite c =
    found c.args.kernel.now c.args._task.now c.args.me c.args.call.now (call.Fwrite c.in-Fwrite.n c.as_slice.result.now) c.in_ok-id-in-Fwrite.id c.args.walk.now _ _ _ (c.in-Fwrite.is ∙ ap (call.Fwrite c.in-Fwrite.n) (sym c.as_slice.ensures.value))
    (at_once c.args.kernel.now c.args.me _ _ c.args.walk.now c.in_ok-id-in-Fwrite.ensures.there)
    (c.appends.ensures c.args._task.now)

pub returns-in_err-_file-in-Close : goal.returns-in_err-_file-in-Close
returns-in_err-_file-in-Close c =
    missed c.args.kernel.now c.args._task.now c.args.me c.args.call.now (call.Close c.in-Close.n) _ c.args.walk.now _ _ c.in-Close.is
    (at_once c.args.kernel.now c.args.me _ _ c.args.walk.now c.in_err-_file-in-Close.ensures.there) (c.from_residual-in_err-_file-in-Close.ensures.1)

pub returns-in_ok-_file-in-Close : goal.returns-in_ok-_file-in-Close
returns-in_ok-_file-in-Close c =
    found c.args.kernel.now c.args._task.now c.args.me c.args.call.now (call.Close c.in-Close.n) c.in_ok-_file-in-Close._file c.args.walk.now _ _ _ c.in-Close.is
    (at_once c.args.kernel.now c.args.me _ _ c.args.walk.now c.in_ok-_file-in-Close.ensures.there)
    (c.close.ensures c.args._task.now c.args.walk.now c.in_ok-_file-in-Close._file)
