use Rattle.std.proofs.Common.{refl, sym, ◌∙◌}
use Rattle.mf_errno.specs.declared.errno.Errno.TheVariants as errno
use Rattle.mf_item.specs.declared.operation.CheckOp.TheVariants as op
use Rattle.mf_plan.specs.Checks.{on}
use Rattle.mf_plan.specs.Row.{ask_if}
use Rattle.mf_plan.specs.Rows.{opens}
use Rattle.mf_plan.specs.Views.{is_dir}
use Rattle.mf_audit.proofs.Through.{asked_if, not_refused}
use Rattle.mf_audit.proofs.descriptors.open.Goals as goal

pub returns : goal.returns
returns c task path =
    let s = c.args.kernel.now in
    let me = c.args.me in
    let id = c.args.id in
    let opened = opens s me c.args.read c.args.write id in
    let writing = on me op.VnodeOpenWrite id in
    not_refused s task me (is_dir s.objects id) errno.Eisdir (ask_if c.args.read (on me op.VnodeOpenRead id) (ask_if c.args.write writing opened))
    c.args.walk.now c.ask_if-2.new.walk c.opens.result (sym c.is_dir.ensures ∙ c.if-is_dir.false)
    (asked_if s task me c.args.read (on me op.VnodeOpenRead id) (ask_if c.args.write writing opened) c.args.walk.now c.ask_if.new.walk c.ask_if-2.new.walk c.opens.result
    refl c.ask_if.ensures.walk
    (asked_if s task me c.args.write writing opened c.ask_if.new.walk c.ask_if-2.new.walk c.ask_if-2.new.walk c.opens.result
    refl c.ask_if-2.ensures.walk (c.opens.ensures task c.ask_if-2.new.walk)))
