use Rattle.std.proofs.Common.{◌≡◌, ◌<◌, ℕ, false, length, Some, refl, ap, sym, ◌∙◌, subst, arith}
use Rattle.mf_calls.specs.declared.script.Script.{Script}
use Rattle.mf_plan.specs.Planned.{Plan}
use Rattle.mf_core.specs.declared.progress.Turn.TheVariants as turn
use Rattle.mf_core.specs.CoreView.{CoreView, done_of, open_of, turn_at, Commits}
use Rattle.mf_share.specs.Passes.{TicketView, AgreesWithTicket, IsCoreOf, ticket_after, ticket_turn}
use Rattle.mf_share.specs.Weights.{open_weight, risen}
use Rattle.mf_share.proofs.Agrees.{commit_script, on_err, ticket_here, ticket_not_here, ticket_says}
use Rattle.mf_share.proofs.Weights.{committed, counted_open}
use Rattle.mf_share.proofs.desk.Desk.commit.Goals as goal

pub invariant_of-self : goal.invariant_of-self
invariant_of-self g c = (c.self.invariant.0, c.self.invariant.1, c.audit.ensures.total ∙ c.self.invariant.2, c.self.invariant.3)

pub invariant_of-self-then-not-agrees_with_ticket : goal.invariant_of-self-then-not-agrees_with_ticket
invariant_of-self-then-not-agrees_with_ticket g c = (c.self.invariant.0, c.self.invariant.1, c.audit.ensures.total ∙ c.self.invariant.2, c.self.invariant.3)

pub returns-then-not-agrees_with_ticket-clause-entries : goal.returns-then-not-agrees_with_ticket-clause-entries
returns-then-not-agrees_with_ticket-clause-entries g c =
    let counted = counted_open g.J.Job.script c.self.inside.tracked _ _ _ _ c.audit.ensures.bound refl c.self.invariant.2 in
    omega (arith, counted, ap open_of c.self.view_is)

pub returns-then-not-agrees_with_ticket-clause-none : goal.returns-then-not-agrees_with_ticket-clause-none
returns-then-not-agrees_with_ticket-clause-none g c = (
  ticket_not_here c.agrees_with_ticket.result c.self.inside.tracked c.args.self.now c.audit.new.self c.args.ticket.now c.self.view_is c.audit.ensures.ticket
      c.agrees_with_ticket.ensures.agrees c.if-not-agrees_with_ticket.true,
  c.self.view_is,
  c.audit.ensures.ticket,
)

pub returns-then-not-agrees_with_ticket-clause-core : goal.returns-then-not-agrees_with_ticket-clause-core
returns-then-not-agrees_with_ticket-clause-core g c =
    subst (λ (run : CoreView). IsCoreOf g.J.Job.script run) c.self.view_is c.agrees_with_ticket.ensures.core

pub finish-requires-clause-task : goal.finish-requires-clause-task
finish-requires-clause-task g c κs within = omega (arith, c.task-task.ensures, c.agrees_with_ticket.ensures.task, ap (λ (s : Script). length s.tasks) c.self.invariant.0)

pub finish-requires-clause-turn : goal.finish-requires-clause-turn
finish-requires-clause-turn g c κs within =
    ticket_says c.self.inside.tracked c.self.inside.tracked c.audit.new.self c.task-task.result refl c.task-task.ensures (c.agrees_with_ticket.ensures.agrees.0 c.if-not-agrees_with_ticket.false)
    ∙ ap ticket_turn (ap (λ (t : TicketView). t.committed) c.audit.ensures.ticket ∙ c.requires.undone)

pub finish-requires-clause-known : goal.finish-requires-clause-known
finish-requires-clause-known g c κs within = λ yes. c.is_noted-is_known.ensures yes c.self.inside.tracked c.self.invariant.3 ∙ ap (λ (p : Plan). Some p) (sym c.plan.ensures)

pub invariant_of-self-in_err-commit : goal.invariant_of-self-in_err-commit
invariant_of-self-in_err-commit g c =
    let same : c.finish.new.tracked ≡ c.self.inside.tracked = c.in_err-commit.ensures.err in (
      ap (λ (run : CoreView). run.script) same ∙ c.self.invariant.0,
      c.self.invariant.1 ∙ ap done_of (sym same),
      c.audit.ensures.total ∙ c.self.invariant.2 ∙ ap (open_weight g.J.Job.script) (sym same),
      tt,
    )

pub returns-in_err-commit-clause-entries : goal.returns-in_err-commit-clause-entries
returns-in_err-commit-clause-entries g c =
    let counted = counted_open g.J.Job.script c.self.inside.tracked _ _ _ _ c.audit.ensures.bound refl c.self.invariant.2 in
    omega (arith, counted, ap open_of c.self.view_is)

pub returns-in_err-commit-clause-err : goal.returns-in_err-commit-clause-err
returns-in_err-commit-clause-err g c =
    let all : AgreesWithTicket c.args.self.now c.args.ticket.now × (c.finish.new.tracked ≡ c.args.self.now) × (c.audit.new.self ≡ c.args.ticket.now) = (
      ticket_here c.self.inside.tracked c.args.self.now c.audit.new.self c.args.ticket.now c.self.view_is c.audit.ensures.ticket (c.agrees_with_ticket.ensures.agrees.0 c.if-not-agrees_with_ticket.false),
      c.in_err-commit.ensures.err ∙ c.self.view_is,
      c.audit.ensures.ticket,
    ) in
    on_err _ _ all

pub returns-in_err-commit-clause-core : goal.returns-in_err-commit-clause-core
returns-in_err-commit-clause-core g c = subst (λ (run : CoreView). IsCoreOf g.J.Job.script run) c.self.view_is c.agrees_with_ticket.ensures.core

pub commit-requires : goal.commit-requires
commit-requires g c = ap (λ (t : TicketView). t.committed) c.audit.ensures.ticket ∙ c.requires.undone

pub invariant_of-self-2 : goal.invariant_of-self-2
invariant_of-self-2 g c =
    let core = c.self.inside.tracked in
    let by = c.in_ok-commit.commit in
    let undone : c.audit.new.self.committed ≡ false = ap (λ (t : TicketView). t.committed) c.audit.ensures.ticket ∙ c.requires.undone in
    let is : turn_at core c.task-task.result ≡ turn.Entered =
    ticket_says core core c.audit.new.self c.task-task.result refl c.task-task.ensures (c.agrees_with_ticket.ensures.agrees.0 c.if-not-agrees_with_ticket.false) ∙ ap ticket_turn undone in
    let within : c.task-task.result < length g.J.Job.script.tasks = omega (arith, c.task-task.ensures, c.agrees_with_ticket.ensures.task) in
    let heavier = committed g.J.Job.script core c.finish.new.tracked c.task-task.result within by is c.in_ok-commit.ensures.progress in
    let weight = ap (λ (t : ℕ). risen by t) c.task-task.ensures in (
      commit_script core c.finish.new.tracked c.task-task.result c.args.list.now c.plan.result.now by c.in_ok-commit.ensures.commit ∙ c.self.invariant.0,
      c.self.invariant.1 ∙ sym c.in_ok-commit.ensures.lines,
      omega (arith, c.commit.ensures.total, c.audit.ensures.total, heavier, weight, c.self.invariant.2),
      tt,
    )

pub returns-clause-entries : goal.returns-clause-entries
returns-clause-entries g c =
    let counted = counted_open g.J.Job.script c.self.inside.tracked _ _ _ _ c.audit.ensures.bound refl c.self.invariant.2 in
    omega (arith, counted, ap open_of c.self.view_is)

pub returns-clause-some : goal.returns-clause-some
returns-clause-some g c =
    let by = c.in_ok-commit.commit in (
      ticket_here c.self.inside.tracked c.args.self.now c.audit.new.self c.args.ticket.now c.self.view_is c.audit.ensures.ticket
          (c.agrees_with_ticket.ensures.agrees.0 c.if-not-agrees_with_ticket.false),
      subst (λ (run : CoreView). Commits run c.args.ticket.now.task c.args.list.now c.args.plan.now by c.finish.new.tracked) c.self.view_is
          (subst (λ (t : ℕ). Commits c.self.inside.tracked t c.args.list.now c.args.plan.now by c.finish.new.tracked) (c.task-task.ensures ∙ ap (λ (t : TicketView). t.task) c.audit.ensures.ticket)
          (subst (λ (p : Plan). Commits c.self.inside.tracked c.task-task.result c.args.list.now p by c.finish.new.tracked) c.plan.ensures c.in_ok-commit.ensures.commit)),
      c.commit.ensures.ticket ∙ ap (ticket_after by) c.audit.ensures.ticket,
    )

pub returns-clause-core : goal.returns-clause-core
returns-clause-core g c = subst (λ (run : CoreView). IsCoreOf g.J.Job.script run) c.self.view_is c.agrees_with_ticket.ensures.core
