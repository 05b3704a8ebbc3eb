use Rattle.std.proofs.Common.{◌≡◌, List, ap, sym, subst, ◌∙◌, arith}
use Rattle.mf_core.specs.declared.history.Event.TheVariants as event
use Rattle.mf_core.specs.declared.progress.Progress.{Progress}
use Rattle.mf_core.specs.LegalHistory.{RunState}
use Rattle.mf_core.specs.RunView.{RunView, IsReached, run_on}
use Rattle.mf_core.proofs.Reached.{entered_on, event_within}
use Rattle.mf_audit.proofs.player.Player.enter.Goals as goal

pub set_phase-requires : goal.set_phase-requires
set_phase-requires c =
    let k = c.args.self.now in
    let s = c.self.inside.script.now in
    let r : RunState = record { state = c.self.inside.kernel; progress = c.self.inside.standings } in
    let reached : IsReached s r = subst (λ (v : RunView). IsReached v.script v.run) (sym c.self.view_is) c.requires in
    let within = event_within k s r c.self.view_is reached (event.Enter c.args.task) (sym c.turn.ensures ∙ c.in-Entry.is) in
    omega (arith, within, reached.consistent.places)

pub returns-in-Entry : goal.returns-in-Entry
returns-in-Entry c =
    let k = c.args.self.now in
    let s = c.self.inside.script.now in
    let r : RunState = record { state = c.self.inside.kernel; progress = c.self.inside.standings } in
    let reached : IsReached s r = subst (λ (v : RunView). IsReached v.script v.run) (sym c.self.view_is) c.requires in
    let with_progress : List Progress → RunView = λ xs. record { script = s; run = record { state = r.state; progress = xs } } in
    let may = sym c.turn.ensures ∙ c.in-Entry.is in (
      may,
      ap with_progress c.set_phase.ensures ∙ ap (λ (v : RunView). run_on v (event.Enter c.args.task)) c.self.view_is,
      entered_on k s r c.self.view_is reached c.args.task c.set_phase.new.self may c.set_phase.ensures,
    )
