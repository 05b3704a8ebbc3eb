use Rattle.std.proofs.Common.{◌≡◌, subst}
use Rattle.mf_audit.specs.Audit.{IsAudit}
use Rattle.mf_audit.specs.declared.audit.Audit.TheVariants.{Legal, Wrong}
use Rattle.mf_verdict.proofs.Judged.{front_is, front_legal, front_of, front_wrong, number_within}
use Rattle.mf_verdict.proofs.verdict.first_wrong.Goals as goal

pub first_lines-requires : goal.first_lines-requires
first_lines-requires c = number_within c.args.script.now c.args.part.now c.args.number c.requires.other

pub read_front-requires-clause-history : goal.read_front-requires-clause-history
read_front-requires-clause-history c = front_is c.args.script.now c.args.part.now c.args.number c.requires.other c.first_lines.result.now c.first_lines.ensures.lines

pub returns-in-Wrong : goal.returns-in-Wrong
returns-in-Wrong c =
    let readable = c.in_ok-history.ensures.0 in
    let front = front_of c.args.script.now c.args.part.now c.args.number c.requires.other c.first_lines.result.now c.in_ok-history.history c.first_lines.ensures.lines readable c.in_ok-history.ensures.1 in
    let is : c.in_ok-line.field-0 ≡ Wrong c.in-Wrong.line = cc (c.in-Wrong.is) in
    front_wrong c.args.script.now c.in_ok-history.history c.args.part.now c.args.number c.in-Wrong.line c.requires.formed readable front
    (subst (IsAudit c.args.script.now c.in_ok-history.history) is c.in_ok-line.ensures)

pub returns : goal.returns
returns c =
    let readable = c.in_ok-history.ensures.0 in
    let front = front_of c.args.script.now c.args.part.now c.args.number c.requires.other c.first_lines.result.now c.in_ok-history.history c.first_lines.ensures.lines readable c.in_ok-history.ensures.1 in
    let is : c.in_ok-line.field-0 ≡ Legal c.in-Legal.complete = cc (c.in-Legal.is) in
    front_legal c.args.script.now c.in_ok-history.history c.args.part.now c.args.number c.requires.formed readable front
    (subst (IsAudit c.args.script.now c.in_ok-history.history) is c.in_ok-line.ensures).0
