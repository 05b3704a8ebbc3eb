use Rattle.std.proofs.Common.{◌≡◌, ℕ, false, true, List, Option, ap, subst, ◌∙◌}
use Rattle.std.specs.Prelude.{IfSome}
use Rattle.mf_policy.specs.Registration.{Entry}
use Rattle.mf_perform.specs.Verdict.{verdict_of}
use Rattle.mf_core.specs.CoreView.{run_state}
use Rattle.mf_core.specs.NextFound.{IsNextOutline}
use Rattle.mf_flow.proofs.tracking.TrackedCore.done_by.Goals as goal

-- the outline is still that of the call which was planned last
pub is_plan_current-requires-clause-planned : goal.is_plan_current-requires-clause-planned
is_plan_current-requires-clause-planned g c = λ _ _ yes.
    subst (λ (planned : Option ℕ). IfSome planned (λ task. IsNextOutline c.self.inside.core.script (run_state c.self.inside.core) task c.self.inside.outline))
    (c.was_planned_last-is_planned.ensures.0 yes) c.self.invariant.1

pub reply-requires-clause-plan : goal.reply-requires-clause-plan
reply-requires-clause-plan g c = (c.is_plan_current.ensures.is.0 c.if-not-is_plan_current.false).0

pub reply-requires-clause-found : goal.reply-requires-clause-found
reply-requires-clause-found g c = λ tail. c.is_plan_current.ensures.found tail c.if-not-is_plan_current.false

pub reply-requires-clause-verdict : goal.reply-requires-clause-verdict
reply-requires-clause-verdict g c =
    c.requires.verdict ∙ ap (λ (listed : List Entry). verdict_of listed c.args.plan.now) (c.is_plan_current.ensures.is.0 c.if-not-is_plan_current.false).1

pub commit-requires-clause-outline : goal.commit-requires-clause-outline
commit-requires-clause-outline g c = c.is_plan_current.ensures.outline c.if-not-is_plan_current.false

pub commit-requires-clause-found : goal.commit-requires-clause-found
commit-requires-clause-found g c = λ done. c.is_plan_current.ensures.found (c.in_ok-reply.ensures.done done) c.if-not-is_plan_current.false

pub returns-in_err-commit-clause-memory : goal.returns-in_err-commit-clause-memory
returns-in_err-commit-clause-memory g c = λ refused.
    let no_error : false ≡ true = c.in_err-commit.ensures.memory (c.in_ok-reply.ensures.refused refused) in
    cc
