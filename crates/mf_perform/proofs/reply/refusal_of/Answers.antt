use Rattle.std.proofs.Common.{Option, ap, sym, ◌∙◌}
use Rattle.mf_perform.specs.declared.verdict.Denial.{Denial}
use Rattle.mf_perform.proofs.reply.refusal_of.Goals as goal
use Rattle.mf_perform.specs.Reply.{reply_to}

pub returns-in-Some-clause-reply : goal.returns-in-Some-clause-reply
returns-in-Some-clause-reply c = λ p. ap (λ (denied : Option Denial). reply_to c.args.plan.now denied p) c.in-Some.is ∙ sym (c.denied.ensures.reply p)
