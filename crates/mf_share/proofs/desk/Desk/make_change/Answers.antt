use Rattle.std.proofs.Common.{◌≡◌, ◌+◌, ◌<◌, ◌++◌, ℕ, true, false, IfOk, IsOk, List, Some, length, ap, subst, arith}
use Rattle.mf_calls.specs.declared.script.Script.{Script}
use Rattle.mf_policy.specs.Registration.{Entry}
use Rattle.mf_plan.specs.declared.reply.Reply.{Reply}
use Rattle.mf_perform.specs.Refused.{is_ok}
use Rattle.mf_core.specs.declared.progress.Turn.TheVariants as turn
use Rattle.mf_core.specs.LegalHistory.{next_reply}
use Rattle.mf_core.specs.Policies.{AreHeld, StaysWhileWaiting}
use Rattle.mf_core.specs.CoreView.{CoreView, run_state, lines_changed, specs_of, turn_at, Changes}
use Rattle.mf_share.specs.Passes.{pass_changed}
use Rattle.mf_share.specs.Policies.{PoliciesView}
use Rattle.mf_share.proofs.Agrees.{are_of, change_counts, change_failed, change_made, pass_says}
use Rattle.mf_share.proofs.desk.Desk.make_change.Goals as goal

pub change-outcome-requires-clause-task : goal.change-outcome-requires-clause-task
change-outcome-requires-clause-task g c κs within = omega (arith, c.task.ensures, c.requires.task, ap (λ (s : Script). length s.tasks) c.self.invariant.0)

pub change-outcome-requires-clause-turn : goal.change-outcome-requires-clause-turn
change-outcome-requires-clause-turn g c κs within =
    pass_says g.J.Job.script c.self.inside.tracked c.args.self.now c.args.pass.now c.task.result turn.Change c.self.view_is c.self.invariant.0 c.task.ensures c.requires.turn c.requires.agrees

pub change-outcome-requires-clause-policies : goal.change-outcome-requires-clause-policies
change-outcome-requires-clause-policies g c κs within =
    are_of g.J.Job.script c.self.inside.tracked c.args.self.now c.args.fixed.now c.policies.inside.list c.policies.inside.catalogue c.args.policies.now c.self.view_is
    (ap (λ (p : PoliciesView). p.list) c.policies.view_is) c.requires.fixed c.requires.listed c.policies.invariant

pub invariant_of-self : goal.invariant_of-self
invariant_of-self g c =
    let core = c.self.inside.tracked in
    let is : turn_at core c.task.result ≡ turn.Change =
    pass_says g.J.Job.script core c.args.self.now c.args.pass.now c.task.result turn.Change c.self.view_is c.self.invariant.0 c.task.ensures c.requires.turn c.requires.agrees in
    let within : c.task.result < length g.J.Job.script.tasks = omega (arith, c.task.ensures, c.requires.task) in
    let counts = change_counts g.J.Job.script core c.change-outcome.new.self c.task.result (λ by. c.note.new.self ≡ pass_changed by c.args.pass.now)
    (c.note.new.self ≡ record c.args.pass.now { stopped = true })
    (c.change-outcome.new.list ≡ c.policies.inside.list) (c.change-outcome.new.catalogue ≡ c.policies.inside.catalogue) c.change-outcome.result c.self.inside.done.total c.note.new.done.total c.self.inside.busy.total
    (c.self.invariant.0, c.self.invariant.1, c.self.invariant.2) within is
    c.change-outcome.ensures.outcome c.change-outcome.ensures.progress c.change-outcome.ensures.lines c.note.ensures.ok c.change-outcome.ensures.err c.note.ensures.err in
    (counts.0, counts.1, counts.2, tt)

pub invariant_of-policies : goal.invariant_of-policies
invariant_of-policies g c =
    subst (λ (xs : List Entry). AreHeld (xs ++ c.change-outcome.new.list) c.change-outcome.new.catalogue) c.requires.fixed c.change-outcome.ensures.policies.held

pub returns-clause-ok : goal.returns-clause-ok
returns-clause-ok g c =
    let r = c.change-outcome.result in
    let new = c.change-outcome.new in
    change_made (λ by. Changes c.args.self.now c.args.pass.now.task by new.self)
    (λ by. StaysWhileWaiting by c.args.policies.now.list new.list c.args.policies.now.catalogue new.catalogue)
    (λ by. c.note.new.self ≡ pass_changed by c.args.pass.now) (λ by. c.note.new.done.total ≡ c.self.inside.done.total + lines_changed by)
    (c.args.fixed.now ++ new.list ≡ specs_of new.self) r c.change-outcome.ensures.policies.listed
    (subst (λ (run : CoreView). IfOk r (λ by. Changes run c.args.pass.now.task by new.self)) c.self.view_is
    (subst (λ (t : ℕ). IfOk r (λ by. Changes c.self.inside.tracked t by new.self)) c.task.ensures c.change-outcome.ensures.outcome))
    (subst (λ (p : PoliciesView). IfOk r (λ by. StaysWhileWaiting by p.list new.list p.catalogue new.catalogue)) c.policies.view_is c.change-outcome.ensures.waits)
    c.note.ensures.ok

pub returns-clause-err : goal.returns-clause-err
returns-clause-err g c =
    change_failed (c.note.new.self ≡ record c.args.pass.now { stopped = true }) (c.note.new.done.total ≡ c.self.inside.done.total) c.self.inside.tracked c.args.self.now c.change-outcome.new.self c.policies.inside.list c.change-outcome.new.list c.policies.inside.catalogue c.change-outcome.new.catalogue
    c.args.policies.now c.change-outcome.result c.self.view_is c.policies.view_is c.change-outcome.ensures.err c.note.ensures.err

pub returns-clause-memory : goal.returns-clause-memory
returns-clause-memory g c =
    let r = c.change-outcome.result in
    subst (λ (run : CoreView). (reply : Reply) → next_reply run.script (run_state run) c.args.pass.now.task ≡ Some reply → is_ok reply ≡ false → IsOk r) c.self.view_is
    (subst (λ (t : ℕ). (reply : Reply) → next_reply c.self.inside.tracked.script (run_state c.self.inside.tracked) t ≡ Some reply → is_ok reply ≡ false → IsOk r) c.task.ensures
    c.change-outcome.ensures.memory)
