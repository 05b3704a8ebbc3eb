use Rattle.std.proofs.Common.{◌≡◌, subst, inl}
use Rattle.mf_audit.specs.Audit.{IsAudit}
use Rattle.mf_audit.specs.declared.audit.Audit.TheVariants.{Wrong}
use Rattle.mf_verdict.proofs.Begins.{wrong_of_all}
use Rattle.mf_verdict.proofs.verdict.judge.Goals as goal

pub returns-in-Wrong : goal.returns-in-Wrong
returns-in-Wrong c =
    let is : c.in_ok-number.field-0 ≡ Wrong c.in-Wrong.number = cc (c.in-Wrong.is) in
    inl (wrong_of_all c.args.script.now c.args.history.now c.in-Wrong.number c.requires.formed c.requires.readable
    (subst (IsAudit c.args.script.now c.args.history.now) is c.in_ok-number.ensures))
