use Rattle.std.proofs.Common.{◌≡◌, Some, refl, sym, ◌∙◌}
use Rattle.std.proofs.lemmas.Result.{IfOk-weaker}
use Rattle.mf_plan.specs.declared.reply.Payload.TheVariants as payload
use Rattle.mf_core.specs.declared.progress.Turn.TheVariants as turn
use Rattle.mf_plan.specs.declared.reply.Reply.{Reply}
use Rattle.mf_core.specs.CoreView.{run_state}
use Rattle.mf_core.specs.LegalHistory.{next_reply}
use Rattle.mf_core.proofs.Calls.{entry_do, entry_refused}
use Rattle.mf_core.proofs.Insides.{below_here, found_same, judged_here, plan_same, reply_same, turn_here}
use Rattle.mf_core.proofs.framework.Core.reply.Goals as goal

pub reply-requires-clause-task : goal.reply-requires-clause-task
reply-requires-clause-task c = below_here c.args.self.now c.self.inside.run c.self.inside.history c.self.view_is c.self.invariant c.args.task c.requires.task

pub reply-requires-clause-plan : goal.reply-requires-clause-plan
reply-requires-clause-plan c = sym (plan_same c.args.self.now c.self.inside.run c.self.inside.history c.self.view_is c.self.invariant c.args.task) ∙ c.requires.plan

pub reply-requires-clause-found : goal.reply-requires-clause-found
reply-requires-clause-found c = λ tail. found_same c.args.self.now c.self.inside.run c.self.inside.history c.self.view_is c.self.invariant c.args.task c.args.found.now (c.requires.found tail)

pub reply-requires-clause-verdict : goal.reply-requires-clause-verdict
reply-requires-clause-verdict c =
    judged_here c.args.self.now c.self.inside.run c.self.inside.history c.self.view_is c.self.invariant _ c.args.plan.now c.args.verdict.now c.requires.verdict refl

pub returns-clause-value : goal.returns-clause-value
returns-clause-value c =
    IfOk-weaker c.reply.result (λ (reply : Reply). next_reply c.self.inside.run.script c.self.inside.run.run c.args.task ≡ Some reply)
    (λ (reply : Reply). next_reply c.args.self.now.script (run_state c.args.self.now) c.args.task ≡ Some reply)
    (λ reply is. reply_same c.args.self.now c.self.inside.run c.self.inside.history c.self.view_is c.self.invariant c.args.task ∙ is) c.reply.ensures.value

pub returns-clause-done : goal.returns-clause-done
returns-clause-done c =
    let planned = sym (plan_same c.args.self.now c.self.inside.run c.self.inside.history c.self.view_is c.self.invariant c.args.task) ∙ c.requires.plan in
    let turn = turn_here c.args.self.now c.self.inside.run c.self.inside.history c.self.view_is c.self.invariant c.args.task turn.Entered c.requires.turn in
    IfOk-weaker c.reply.result _ _
    (λ reply is done. entry_do c.self.inside.run.script c.self.inside.history c.self.inside.run.run c.args.task c.args.plan.now reply c.self.invariant turn planned is done)
    c.reply.ensures.value

pub returns-clause-refused : goal.returns-clause-refused
returns-clause-refused c =
    let planned = sym (plan_same c.args.self.now c.self.inside.run c.self.inside.history c.self.view_is c.self.invariant c.args.task) ∙ c.requires.plan in
    let judged = judged_here c.args.self.now c.self.inside.run c.self.inside.history c.self.view_is c.self.invariant _ c.args.plan.now c.args.verdict.now c.requires.verdict refl in
    let turn = turn_here c.args.self.now c.self.inside.run c.self.inside.history c.self.view_is c.self.invariant c.args.task turn.Entered c.requires.turn in
    IfOk-weaker c.reply.result _ _
    (λ reply is refused. entry_refused c.self.inside.run.script c.self.inside.history c.self.inside.run.run c.args.task c.args.plan.now c.args.verdict.now reply payload.None c.self.invariant
    turn planned judged is refused)
    c.reply.ensures.value
