use Rattle.std.proofs.Common.{◌≡◌, Option, ap, sym, ◌∙◌}
use Rattle.mf_plan.specs.declared.reply.Payload.{Payload}
use Rattle.mf_plan.specs.declared.reply.Reply.{Reply}
use Rattle.mf_plan.specs.declared.reply.Reply.TheVariants as reply
use Rattle.mf_plan.specs.Plan.{call_row}
use Rattle.mf_perform.specs.Refused.{refused_or}
use Rattle.mf_perform.proofs.Replies.{may_proceed}
use Rattle.mf_call_tables.proofs.Replied.{by_call}
use Rattle.mf_call_tables.proofs.calls.reply_by.Goals as goal

pub payload_of-requires-clause-found : goal.payload_of-requires-clause-found
payload_of-requires-clause-found c =
    let done = may_proceed c.args.plan.now c.args.verdict.now.denied (λ p. c.refusal_of.ensures.reply p ∙ ap (λ (o : Option Reply). refused_or o p) c.in_default.is) in
    (c.args.task.now, c.args.line.now.child, c.requires.found done)

pub returns-in-Some : goal.returns-in-Some
returns-in-Some c =
    let p : Payload = (call_row c.args.state.now c.args.task.now c.args.line.now.child c.args.line.now.call).payload in
    sym (c.refusal_of.ensures.reply p ∙ ap (λ (o : Option Reply). refused_or o p) c.in-Some.is)
    ∙ by_call c.args.state.now c.args.task.now c.args.line.now.child c.args.line.now.call c.args.plan.now c.args.verdict.now c.requires.plan c.requires.verdict

pub returns : goal.returns
returns c =
    let s = c.args.state.now in
    let task = c.args.task.now in
    let child = c.args.line.now.child in
    let call = c.args.line.now.call in
    let p : Payload = (call_row s task child call).payload in
    let ends = λ (p : Payload). c.refusal_of.ensures.reply p ∙ ap (λ (o : Option Reply). refused_or o p) c.in_default.is in
    let found = c.requires.found (may_proceed c.args.plan.now c.args.verdict.now.denied ends) in
    ap (λ (q : Payload). reply.Ok q) (c.in_ok-payload.ensures.value task child found)
    ∙ sym (ends p) ∙ by_call s task child call c.args.plan.now c.args.verdict.now c.requires.plan c.requires.verdict
