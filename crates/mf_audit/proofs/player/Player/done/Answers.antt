use Rattle.std.proofs.Common.{Bool, refl, sym, subst}
use Rattle.mf_core.specs.LegalHistory.{RunState}
use Rattle.mf_core.specs.RunView.{RunView, IsReached}
use Rattle.mf_core.proofs.Reached.{done_on, done_view}
use Rattle.mf_audit.specs.Taking.{Replies}
use Rattle.mf_audit.proofs.Replying.{replied, unreplied, was_done}
use Rattle.mf_audit.proofs.Turns.{few_ids}
use Rattle.mf_audit.proofs.player.Player.done.Goals as goal

pub go_on-requires-clause-next : goal.go_on-requires-clause-next
go_on-requires-clause-next c =
    let k = c.args.self.now in
    let s = c.self.inside.script.now in
    let r : RunState = record { state = c.self.inside.kernel; progress = c.self.inside.standings } in
    let reached : IsReached s r = subst (λ (v : RunView). IsReached v.script v.run) (sym c.self.view_is) c.requires in
    few_ids k s r c.self.view_is reached

pub returns : goal.returns
returns c =
    let k = c.args.self.now in
    let s = c.self.inside.script.now in
    let r : RunState = record { state = c.self.inside.kernel; progress = c.self.inside.standings } in
    let reached : IsReached s r = subst (λ (v : RunView). IsReached v.script v.run) (sym c.self.view_is) c.requires in
    let line = c.line-line.result.now in
    let name = c.name_of-name.result.now in
    let may = c.is_at_call.ensures.0 c.if-not-is_at_call.false in
    let goes = subst (λ (is : Bool). Replies c.self.inside.kernel name line.child line.call c.args.given.now c.go_on.new.self is) c.if-not-branch.false c.in_ok-go_on.ensures in
    let replies = replied k s r c.self.view_is c.args.task line name c.line-line.ensures.value c.name_of-name.ensures c.args.given.now c.args.given.now refl goes.0 in
    let was = was_done k s r c.self.view_is c.args.task line name c.line-line.ensures.value c.name_of-name.ensures reached c.go_on.new.self goes.1 in (
      (may.0, may.1, replies),
      done_view k s r c.self.view_is reached c.args.task line name c.go_on.new.self was c.args.number c.args.given.now c.set_phase.new.self c.set_phase.ensures,
      done_on k s r c.self.view_is reached c.args.task line name c.go_on.new.self was c.args.number c.args.given.now c.set_phase.new.self
          (may.0, may.1, replies) c.set_phase.ensures,
    )

pub returns-then-not-branch : goal.returns-then-not-branch
returns-then-not-branch c = λ may.
    let k = c.args.self.now in
    let s = c.self.inside.script.now in
    let r : RunState = record { state = c.self.inside.kernel; progress = c.self.inside.standings } in
    let line = c.line-line.result.now in
    let name = c.name_of-name.result.now in
    let other = subst (λ (is : Bool). Replies c.self.inside.kernel name line.child line.call c.args.given.now c.go_on.new.self is) c.if-not-branch.true c.in_ok-go_on.ensures in
    unreplied k s r c.self.view_is c.args.task line name c.line-line.ensures.value c.name_of-name.ensures c.args.given.now c.args.given.now refl
    other may.2
