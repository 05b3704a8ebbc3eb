use Rattle.std.proofs.Common.{◌≡◌, ℕ, ◌+◌, refl, sym, ap, ◌∙◌}
use Rattle.mf_core.specs.declared.history.Event.TheVariants as event
use Rattle.mf_core.specs.declared.progress.Turn.TheVariants as turn
use Rattle.mf_core.specs.CoreView.{with_next}
use Rattle.mf_core.specs.LegalHistory.{MayCome, RunState}
use Rattle.mf_core.specs.Progress.{progress_at}
use Rattle.mf_core.proofs.Calls.{entry_specs}
use Rattle.mf_core.proofs.Consistency.{room_for}
use Rattle.mf_core.proofs.Counts.{committed_done, committed_open}
use Rattle.mf_core.proofs.Insides.{consistent_here, consistent_on, event_on, moves_on, outline_here, reply_same, run_state_here, specs_on, turn_here}
use Rattle.mf_core.proofs.framework.Core.commit.Goals as goal

pub commit-requires-clause-may : goal.commit-requires-clause-may
commit-requires-clause-may c = (
  turn_here c.args.self.now c.self.inside.run c.self.inside.history c.self.view_is c.self.invariant c.args.task turn.Entered c.requires.turn,
  ap (λ (n : ℕ). n + 1) c.lines-number.ensures.value,
  sym (reply_same c.args.self.now c.self.inside.run c.self.inside.history c.self.view_is c.self.invariant c.args.task) ∙ c.requires.reply,
)

pub commit-requires-clause-outline : goal.commit-requires-clause-outline
commit-requires-clause-outline c =
    outline_here c.args.self.now c.self.inside.run c.self.inside.history c.self.view_is c.self.invariant c.args.task c.args.outline.now c.requires.outline

pub push-requires : goal.push-requires
push-requires c =
    let may : MayCome c.self.inside.run.script c.self.inside.run.run (event.Done c.args.task (c.lines-number.result + 1) c.args.reply) = (
      turn_here c.args.self.now c.self.inside.run c.self.inside.history c.self.view_is c.self.invariant c.args.task turn.Entered c.requires.turn,
      ap (λ (n : ℕ). n + 1) c.lines-number.ensures.value,
      sym (reply_same c.args.self.now c.self.inside.run c.self.inside.history c.self.view_is c.self.invariant c.args.task) ∙ c.requires.reply,
    ) in
    room_for c.self.inside.run.script c.self.inside.history c.self.inside.run.run c.self.invariant (event.Done c.args.task (c.lines-number.result + 1) c.args.reply) may

pub invariant_of-self-2 : goal.invariant_of-self-2
invariant_of-self-2 c =
    let may : MayCome c.self.inside.run.script c.self.inside.run.run (event.Done c.args.task (c.lines-number.result + 1) c.args.reply) = (
      turn_here c.args.self.now c.self.inside.run c.self.inside.history c.self.view_is c.self.invariant c.args.task turn.Entered c.requires.turn,
      ap (λ (n : ℕ). n + 1) c.lines-number.ensures.value,
      sym (reply_same c.args.self.now c.self.inside.run c.self.inside.history c.self.view_is c.self.invariant c.args.task) ∙ c.requires.reply,
    ) in
    consistent_on c.args.self.now c.self.inside.run c.self.inside.history c.self.view_is c.self.invariant
    c.commit.new.self c.push.new.self (event.Done c.args.task (c.lines-number.result + 1) c.args.reply) c.in_ok-commit.ensures.ok c.push.ensures may

pub returns-clause-event : goal.returns-clause-event
returns-clause-event c =
    let grown = event_on c.args.self.now c.self.inside.run c.self.inside.history c.self.view_is c.self.invariant
    c.commit.new.self c.push.new.self (event.Done c.args.task (c.lines-number.result + 1) c.args.reply) c.in_ok-commit.ensures.ok c.push.ensures in
    let number : c.lines-number.result ≡ _ =
    c.lines-number.ensures.value ∙ sym (ap (λ (m : RunState). (progress_at m.progress c.args.task).lines) (run_state_here c.args.self.now c.self.inside.run c.self.inside.history c.self.view_is c.self.invariant)) in
    grown ∙ ap (λ (n : ℕ). with_next c.args.self.now (event.Done c.args.task (n + 1) c.args.reply)) number

pub returns-clause-progress : goal.returns-clause-progress
returns-clause-progress c =
    let grown = event_on c.args.self.now c.self.inside.run c.self.inside.history c.self.view_is c.self.invariant
    c.commit.new.self c.push.new.self (event.Done c.args.task (c.lines-number.result + 1) c.args.reply) c.in_ok-commit.ensures.ok c.push.ensures in
    moves_on c.args.self.now _ (event.Done c.args.task (c.lines-number.result + 1) c.args.reply) grown c.args.task _ (consistent_here c.args.self.now c.self.inside.run c.self.inside.history c.self.view_is c.self.invariant) c.requires.task refl

pub returns-clause-specs : goal.returns-clause-specs
returns-clause-specs c =
    let grown = event_on c.args.self.now c.self.inside.run c.self.inside.history c.self.view_is c.self.invariant
    c.commit.new.self c.push.new.self (event.Done c.args.task (c.lines-number.result + 1) c.args.reply) c.in_ok-commit.ensures.ok c.push.ensures in
    specs_on c.args.self.now _ (event.Done c.args.task (c.lines-number.result + 1) c.args.reply) grown _
    (entry_specs c.args.self.now.script c.args.self.now.history _ c.args.task (consistent_here c.args.self.now c.self.inside.run c.self.inside.history c.self.view_is c.self.invariant) c.requires.turn)

pub returns-clause-entries : goal.returns-clause-entries
returns-clause-entries c =
    let grown = event_on c.args.self.now c.self.inside.run c.self.inside.history c.self.view_is c.self.invariant
    c.commit.new.self c.push.new.self (event.Done c.args.task (c.lines-number.result + 1) c.args.reply) c.in_ok-commit.ensures.ok c.push.ensures in
    committed_open c.args.self.now _ (consistent_here c.args.self.now c.self.inside.run c.self.inside.history c.self.view_is c.self.invariant) c.args.task c.requires.task _ _ grown c.requires.turn

pub returns-clause-lines : goal.returns-clause-lines
returns-clause-lines c =
    let grown = event_on c.args.self.now c.self.inside.run c.self.inside.history c.self.view_is c.self.invariant
    c.commit.new.self c.push.new.self (event.Done c.args.task (c.lines-number.result + 1) c.args.reply) c.in_ok-commit.ensures.ok c.push.ensures in
    committed_done c.args.self.now _ (consistent_here c.args.self.now c.self.inside.run c.self.inside.history c.self.view_is c.self.invariant) c.args.task c.requires.task _ _ grown c.requires.turn
