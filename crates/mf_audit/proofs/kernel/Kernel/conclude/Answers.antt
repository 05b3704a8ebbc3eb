use Rattle.std.proofs.Common.{ℕ, ◌<◌, ap, sym, ◌∙◌, subst}
use Rattle.std.proofs.lemmas.Bool.{false≢true}
use Rattle.mf_objects.specs.declared.limits.TheConstants.{ID_LIMIT}
use Rattle.mf_objects.specs.Live.{is_process}
use Rattle.mf_objects.specs.Lives.{IsLive}
use Rattle.mf_calls.specs.Tasks.{is_change}
use Rattle.mf_plan.specs.declared.state.State.{State}
use Rattle.mf_audit.specs.Taking.{IsSoundEffect, ended, lowered}
use Rattle.mf_audit.proofs.Going.{call_goes_on, still_live, still_next, still_sound}
use Rattle.mf_audit.proofs.Walks.{call_replied}
use Rattle.mf_audit.proofs.kernel.Kernel.conclude.Goals as goal

pub returns-then-not-branch : goal.returns-then-not-branch
returns-then-not-branch c = λ is.
    let s = c.args.self.now in
    let task = c.args.task.now in
    let me = c.args.me in
    let line = c.args.line.now in
    let walk = c.args.attempt.now.walk in
    let end = c.args.attempt.now.end in
    let goes = c.requires.goes in
    false≢true (sym c.if-not-branch.true ∙ c.in_ok-is_reply.ensures.1 (is ∙ call_replied s task line.child line.call me c.requires.caller walk end goes))

pub end-requires-clause-live : goal.end-requires-clause-live
end-requires-clause-live c =
    subst (λ (x : State). IsLive is_process x.objects c.args.me) (sym c.lower.ensures)
    (still_live (is_change c.args.line.now.call) c.args.attempt.now.walk.value c.args.self.now c.args.me is_process c.args.me c.requires.live)

pub end-requires-clause-sound : goal.end-requires-clause-sound
end-requires-clause-sound c =
    subst (λ (x : State). IsSoundEffect x c.args.attempt.now.end) (sym c.lower.ensures)
    (still_sound (is_change c.args.line.now.call) c.args.attempt.now.walk.value c.args.self.now c.args.me c.args.attempt.now.end c.requires.goes.sound)

pub end-requires-clause-next : goal.end-requires-clause-next
end-requires-clause-next c =
    let changes = is_change c.args.line.now.call in
    let value = c.args.attempt.now.walk.value in
    let few : (lowered changes value c.args.self.now c.args.me).objects.next < ID_LIMIT = subst (λ (n : ℕ). n < ID_LIMIT) (sym (still_next changes value c.args.self.now c.args.me)) c.requires.next in
    subst (λ (x : State). x.objects.next < ID_LIMIT) (sym c.lower.ensures) few

pub returns : goal.returns
returns c =
    let s = c.args.self.now in
    let task = c.args.task.now in
    let me = c.args.me in
    let line = c.args.line.now in
    let walk = c.args.attempt.now.walk in
    let end = c.args.attempt.now.end in
    let goes = c.requires.goes in (
      c.in_ok-is_reply.ensures.0 c.if-not-branch.false ∙ sym (call_replied s task line.child line.call me c.requires.caller walk end goes),
      c.in_ok-end.ensures
          ∙ ap (λ (x : State). ended x task me walk.denied end) c.lower.ensures
          ∙ call_goes_on s task line.child line.call me c.requires.caller walk end goes,
    )
