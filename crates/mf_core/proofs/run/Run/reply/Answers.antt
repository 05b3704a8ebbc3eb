use Rattle.std.proofs.Common.{◌≡◌, Option, Some, IfOk, Result, Ok, Err, ap, sym, subst, ◌∙◌}
use Rattle.mf_list.proofs.Counts.{listed_few}
use Rattle.mf_calls.specs.Tasks.{name_of}
use Rattle.mf_plan.specs.declared.reply.Payload.{Payload}
use Rattle.mf_plan.specs.declared.reply.Reply.{Reply}
use Rattle.mf_plan.specs.declared.reply.Reply.TheVariants as reply
use Rattle.mf_plan.specs.Found.{AreFound}
use Rattle.mf_plan.specs.Plan.{call_row}
use Rattle.mf_perform.specs.Refused.{refused_or}
use Rattle.mf_perform.proofs.Replies.{may_proceed}
use Rattle.mf_core.specs.RunView.{RunView}
use Rattle.mf_core.proofs.Calls.{found_is, reply_by}
use Rattle.mf_core.proofs.run.Run.reply.Goals as goal

kept : {E : Type 0} (o : Result Reply E) (next : Option Reply) (p : Reply) → IfOk o (λ k. k ≡ p) → next ≡ Some p → IfOk o (λ r. next ≡ Some r)
kept (Ok k) next p is replied = replied ∙ ap (λ (r : Reply). Some r) (sym is)
kept (Err e) next p is replied = tt

pub payload_of-requires-clause-few : goal.payload_of-requires-clause-few
payload_of-requires-clause-few c = listed_few _ c.self.invariant.once

pub payload_of-requires-clause-found : goal.payload_of-requires-clause-found
payload_of-requires-clause-found c =
    let s = c.args.self.now.script in
    let line = c.line-line.result.now in
    let done = may_proceed c.args.plan.now c.args.verdict.now.denied (λ p. c.refusal_of.ensures.reply p ∙ ap (λ (o : Option Reply). refused_or o p) c.in_default.is) in
    let found = found_is s c.args.self.now.run c.args.task line c.line-line.ensures.value c.args.found.now (c.requires.found done) in
    (name_of s c.args.task, line.child, subst (λ (v : RunView). AreFound v.run.state (name_of s c.args.task) line.child line.call c.args.found.now) (sym c.self.view_is) found)

pub returns-clause-value : goal.returns-clause-value
returns-clause-value c =
    let s = c.args.self.now.run.state in
    let line = c.line-line.result.now in
    let name = name_of c.args.self.now.script c.args.task in
    let done = may_proceed c.args.plan.now c.args.verdict.now.denied (λ p. c.refusal_of.ensures.reply p ∙ ap (λ (o : Option Reply). refused_or o p) c.in_default.is) in
    let found = found_is c.args.self.now.script c.args.self.now.run c.args.task line c.line-line.ensures.value c.args.found.now (c.requires.found done) in
    let here = subst (λ (v : RunView). AreFound v.run.state name line.child line.call c.args.found.now) (sym c.self.view_is) found in
    let p : Payload = (call_row s name line.child line.call).payload in
    kept c.done.result _ (reply.Ok c.in_ok-payload.payload) c.done.ensures.value
    (reply_by c.args.self.now.script c.args.self.now.run c.args.task line c.line-line.ensures.value c.args.plan.now c.requires.plan c.args.verdict.now c.requires.verdict
    ∙ ap (λ (r : Reply). Some r) (c.refusal_of.ensures.reply p ∙ ap (λ (o : Option Reply). refused_or o p) c.in_default.is)
    ∙ ap (λ (q : Payload). Some (reply.Ok q))
    (sym (c.in_ok-payload.ensures.value name line.child here ∙ ap (λ (v : RunView). (call_row v.run.state name line.child line.call).payload) c.self.view_is)))
