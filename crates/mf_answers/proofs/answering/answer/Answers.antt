use Rattle.std.proofs.Common.{ap, sym, ◌∙◌}
use Rattle.mf_answers.specs.Reasons.{errno_by}
use Rattle.mf_answers.proofs.Errnos.{by_reason}
use Rattle.mf_answers.proofs.answering.answer.Goals as goal

pub returns-in-None : goal.returns-in-None
returns-in-None c = sym (by_reason c.args.spec.now c.args.slot c.args.item.now ∙ ap errno_by (sym c.reason.ensures ∙ c.in-None.is))

pub returns-in-Some : goal.returns-in-Some
returns-in-Some c = c.errno.ensures ∙ sym (by_reason c.args.spec.now c.args.slot c.args.item.now ∙ ap errno_by (sym c.reason.ensures ∙ c.in-Some.is))
