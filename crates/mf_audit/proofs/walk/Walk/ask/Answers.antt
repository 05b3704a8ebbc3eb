use Rattle.std.proofs.Common.{refl, ap, ◌∙◌}
use Rattle.mf_audit.specs.Asking.{check_of, item_with}
use Rattle.mf_audit.proofs.Checks.{asked_so, is_check}
use Rattle.mf_audit.proofs.walk.Walk.ask.Goals as goal

pub returns : goal.returns
returns c =
    asked_so _ c.args.kernel.now c.kernel.view_is c.args.me c.args.self.now _ (item_with c.subject_of-subject.result c.asked_of-asked.result) c.args.request
    (check_of c.args.me c.args.check.now) c.count.ensures
    (is_check c.kernel.inside.parties c.args.request (check_of c.args.me c.args.check.now) c.subject_of-subject.result c.asked_of-asked.result
    c.subject_of-subject.ensures (c.asked_of-asked.ensures c.args.me))
