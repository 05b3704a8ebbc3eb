use Rattle.std.proofs.Common.{◌≡◌, ◌<◌, false, List, length, ap, sym, subst, ◌∙◌, string_bytes}
use Rattle.std.specs.Prelude.{IsSome}
use Rattle.mf_calls.specs.declared.script.Script.{Script}
use Rattle.mf_plan.specs.declared.outline.Check.{Check}
use Rattle.mf_plan.specs.declared.reply.Reply.{Reply}
use Rattle.mf_core.specs.LegalHistory.{next_line}
use Rattle.mf_plan.specs.declared.state.State.{State}
use Rattle.mf_why.specs.Ruled.{may_lower, tells_decision}
use Rattle.mf_why.proofs.Telling.{replied_line, replied_task, untold_next}
use Rattle.mf_why.proofs.adding.tell.Goals as goal

pub plan-requires-clause-task : goal.plan-requires-clause-task
plan-requires-clause-task c =
    subst (λ (x : Script). c.args.task < length x.tasks) (sym c.requires.script) (replied_task c.args.script.now c.args.run.now.run c.args.task c.args.reply.now c.requires.reply)

pub plan-requires-clause-line : goal.plan-requires-clause-line
plan-requires-clause-line c =
    subst (λ (x : Script). IsSome (next_line x c.args.run.now.run.progress c.args.task)) (sym c.requires.script)
    (replied_line c.args.script.now c.args.run.now.run c.args.task c.args.reply.now c.requires.reply)

pub returns-then-not-may_lower-clause-ok : goal.returns-then-not-may_lower-clause-ok
returns-then-not-may_lower-clause-ok c =
    let run = c.args.run.now.run in
    let extent = c.args.extent in
    let said = c.get-said.result.now in
    let outline = c.make_outline.new.space.outline in
    let no_decision : tells_decision extent c.args.reply.now run.state.specs ≡ false =
    ap (λ (x : Reply). tells_decision extent x run.state.specs) (sym (c.get-said.ensures ∙ c.lend-lent.ensures))
    ∙ ap (λ (x : State). tells_decision extent said x.specs) (sym c.state-state.ensures)
    ∙ c.is_planned.ensures c.if-not-is_planned.true in
    let no_lowering : may_lower run.state.specs outline.checks ≡ false =
    ap (λ (x : State). may_lower x.specs outline.checks) (sym c.state-state.ensures)
    ∙ ap (λ (x : List Check). may_lower c.state-state.result.now.specs x) (sym c.as_slice.ensures.value)
    ∙ sym c.may_lower.ensures ∙ c.if-not-may_lower.true in
    untold_next extent c.args.script.now run c.args.task c.args.number c.args.reply.now outline (string_bytes c.args.text.now) c.make_outline.ensures no_decision no_lowering
