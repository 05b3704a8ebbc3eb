use Rattle.std.proofs.Common.{◌≡◌, ℕ, List, sym, subst}
use Rattle.mf_audit.specs.Audit.{IsAudit}
use Rattle.mf_audit.specs.declared.audit.Audit.TheVariants.{Wrong}
use Rattle.mf_verdict.specs.Pieces.{pieces}
use Rattle.mf_verdict.specs.Verdict.{IsFirstWrong}
use Rattle.mf_verdict.proofs.Begins.{wrong_of_all}
use Rattle.mf_verdict.proofs.front.wrong_line.Goals as goal

pub returns-in-Wrong : goal.returns-in-Wrong
returns-in-Wrong c =
    let s = c.args.script.now in
    let h = c.in-Ok.history in
    let n = c.in-Wrong.line in
    let is : c.in_ok-line-in-Ok.field-0 ≡ Wrong n = cc (c.in-Wrong.is) in
    subst (λ (text : List ℕ). IsFirstWrong s (pieces text) n) (sym c.in-Ok.ensures.found.1)
    (wrong_of_all s h n c.requires.formed c.in-Ok.ensures.found.0 (subst (IsAudit s h) is c.in_ok-line-in-Ok.ensures))
