use Rattle.std.proofs.Common.{◌≡◌, ◌⊎◌, inl, inr, List, ap, sym, subst, ◌∙◌, arith}
use Rattle.mf_core.specs.declared.history.Event.TheVariants as event
use Rattle.mf_core.specs.declared.progress.Progress.{Progress}
use Rattle.mf_core.specs.declared.progress.Turn.{Turn}
use Rattle.mf_core.specs.declared.progress.Turn.TheVariants as turn
use Rattle.mf_core.specs.LegalHistory.{RunState}
use Rattle.mf_core.specs.RunView.{RunView, IsReached, run_on}
use Rattle.mf_core.proofs.Reached.{event_within, few_done, left_on}
use Rattle.mf_audit.proofs.player.Player.leave.Goals as goal

leaves : (t now : Turn) → t ≡ now → (t ≡ turn.Entered) ⊎ (t ≡ turn.Done) → (now ≡ turn.Done) ⊎ (now ≡ turn.Entered)
leaves t now is (inl entered) = inr (sym is ∙ entered)
leaves t now is (inr done) = inl (sym is ∙ done)

pub leave-requires-clause-task : goal.leave-requires-clause-task
leave-requires-clause-task c =
    let k = c.args.self.now in
    let s = c.self.inside.script.now in
    let r : RunState = record { state = c.self.inside.kernel; progress = c.self.inside.standings } in
    let reached : IsReached s r = subst (λ (v : RunView). IsReached v.script v.run) (sym c.self.view_is) c.requires in
    let within = event_within k s r c.self.view_is reached (event.Leave c.args.task) (leaves _ _ c.turn.ensures c.in-Entered.is) in
    omega (arith, within, reached.consistent.places)

pub leave-requires-clause-room : goal.leave-requires-clause-room
leave-requires-clause-room c =
    let k = c.args.self.now in
    let s = c.self.inside.script.now in
    let r : RunState = record { state = c.self.inside.kernel; progress = c.self.inside.standings } in
    let reached : IsReached s r = subst (λ (v : RunView). IsReached v.script v.run) (sym c.self.view_is) c.requires in
    let within = event_within k s r c.self.view_is reached (event.Leave c.args.task) (leaves _ _ c.turn.ensures c.in-Entered.is) in
    omega (arith, few_done k s r c.self.view_is reached c.args.task within)

pub returns-in-Entered : goal.returns-in-Entered
returns-in-Entered c =
    let k = c.args.self.now in
    let s = c.self.inside.script.now in
    let r : RunState = record { state = c.self.inside.kernel; progress = c.self.inside.standings } in
    let reached : IsReached s r = subst (λ (v : RunView). IsReached v.script v.run) (sym c.self.view_is) c.requires in
    let with_progress : List Progress → RunView = λ xs. record { script = s; run = record { state = r.state; progress = xs } } in
    let may = leaves _ _ c.turn.ensures c.in-Entered.is in (
      may,
      ap with_progress c.leave.ensures ∙ ap (λ (v : RunView). run_on v (event.Leave c.args.task)) c.self.view_is,
      left_on k s r c.self.view_is reached c.args.task c.leave.new.self may c.leave.ensures,
    )
