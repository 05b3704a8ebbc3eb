use Rattle.std.proofs.Common.{◌≤◌, length, sym, ap, ◌∙◌, subst}
use Rattle.mf_calls.specs.declared.limits.TheConstants.{TASK_LIMIT}
use Rattle.mf_steps.specs.StepRun.{kept_at}
use Rattle.mf_calls.specs.declared.script.Script.{Script}
use Rattle.mf_steps.proofs.Sound.{no_plans, none_some, plans_length}
use Rattle.mf_steps.proofs.stepper.Stepper.new.Goals as goal

pub invariant_of-result : goal.invariant_of-result
invariant_of-result g c =
    record {
      same = sym c.in_ok-core.ensures.script;
      few = subst (λ (s : Script). length s.tasks ≤ TASK_LIMIT) (sym c.in_ok-core.ensures.script) c.requires.formed.tasks;
      policies = c.in_ok-core.ensures.policies;
      places = plans_length c.args.script.now.tasks c.in_ok-kept.kept c.in_ok-kept.ensures ∙ ap (λ (s : Script). length s.tasks) (sym c.in_ok-core.ensures.script);
      good = λ t k is. absurd (none_some k (sym (no_plans c.args.script.now.tasks t) ∙ (ap (λ kept. kept_at kept t) (sym c.in_ok-kept.ensures) ∙ is)));
    }
