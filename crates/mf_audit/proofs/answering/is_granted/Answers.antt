use Rattle.std.proofs.Common.{arith, sym, ◌∙◌}
use Rattle.mf_list.specs.Asked.{grant_of}
use Rattle.mf_audit.proofs.Answers.{any_here, any_later, no_more, some_entry}
use Rattle.mf_audit.proofs.answering.is_granted.Goals as goal

pub returns-then-grants_at : goal.returns-then-grants_at
returns-then-grants_at c =
    sym (c.loop-place.invariant
    ∙ any_here (grant_of c.args.item.now.privilege c.args.item.now.subject.cred) c.args.listed.now c.loop-place.place some_entry (omega arith)
    (sym (c.grants_at.ensures some_entry) ∙ c.if-grants_at.true))

pub loop-place-preserved : goal.loop-place-preserved
loop-place-preserved c =
    c.loop-place.invariant
    ∙ any_later (grant_of c.args.item.now.privilege c.args.item.now.subject.cred) c.args.listed.now c.loop-place.place some_entry (omega arith)
    (sym (c.grants_at.ensures some_entry) ∙ c.if-grants_at.false)

pub returns : goal.returns
returns c =
    sym (c.loop-place.invariant ∙ no_more (grant_of c.args.item.now.privilege c.args.item.now.subject.cred) c.args.listed.now c.loop-place.place (omega arith))
