use Rattle.std.proofs.Common.{◌≡◌, sym, subst, arith}
use Rattle.mf_core.specs.declared.progress.Turn.TheVariants as turn
use Rattle.mf_core.specs.LegalHistory.{turn_of}
use Rattle.mf_core.specs.RunView.{RunView, IsReached}
use Rattle.mf_audit.proofs.Turns.{past_turn}
use Rattle.mf_audit.proofs.player.Player.turn.Goals as goal

pub returns-then-task-len : goal.returns-then-task-len
returns-then-task-len c =
    let reached : IsReached c.self.inside.script.now (record { state = c.self.inside.kernel; progress = c.self.inside.standings }) =
    subst (λ (v : RunView). IsReached v.script v.run) (sym c.self.view_is) c.requires in
    subst (λ (v : RunView). turn.Finished ≡ turn_of v.script v.run.progress c.args.task) c.self.view_is
    (sym (past_turn c.self.inside.script.now c.self.inside.standings c.args.task reached.consistent.places
    (omega (arith, reached.consistent.places))))
