use Rattle.std.proofs.Common.{Some, Ok, Err, false, ap, sym, subst, ◌∙◌}
use Rattle.mf_errno.specs.declared.module.Module.TheVariants as modules
use Rattle.mf_policy.specs.declared.settings.Change.TheVariants.{RuleAdd, RuleSet, RuleRemove}
use Rattle.mf_calls.specs.declared.script.Call.{Call}
use Rattle.mf_calls.specs.declared.script.Call.TheVariants as call
use Rattle.mf_plan.specs.Plan.{row_for}
use Rattle.mf_audit.specs.Ends.{Goes}
use Rattle.mf_audit.proofs.Through.{at_once, found, missed, setting_there}
use Rattle.mf_audit.proofs.rows.about_policies.on_setting.Goals as goal

pub returns-in-Sysctl : goal.returns-in-Sysctl
returns-in-Sysctl c walk =
    let s = c.args.kernel.now in
    let task = c.args._task.now in
    subst (λ (x : Call). Goes s task c.args.me (row_for s task x c.args.me) walk walk c.sysctl.result) (sym c.in-Sysctl.is) (c.sysctl.ensures task walk)

pub returns-in_err-module-in-UgidfwAdd : goal.returns-in_err-module-in-UgidfwAdd
returns-in_err-module-in-UgidfwAdd c walk =
    missed c.args.kernel.now c.args._task.now c.args.me c.args.call.now (call.UgidfwAdd c.in-UgidfwAdd.rule) _ walk _ _ c.in-UgidfwAdd.is
    (setting_there c.args.kernel.now c.args.me false (Some modules.Bsdextended) (Some (RuleAdd c.in-UgidfwAdd.rule)) (Err _) walk c.in_err-module-in-UgidfwAdd.ensures)
    (c.from_residual-in_err-module-in-UgidfwAdd.ensures.1)

pub returns-in_ok-module-in-UgidfwAdd : goal.returns-in_ok-module-in-UgidfwAdd
returns-in_ok-module-in-UgidfwAdd c walk =
    let m = c.in_ok-module-in-UgidfwAdd.«module» in
    let rule = c.get.result.now in
    found c.args.kernel.now c.args._task.now c.args.me c.args.call.now (call.UgidfwAdd rule) (m, RuleAdd rule) walk _ _ _ (c.in-UgidfwAdd.is ∙ ap call.UgidfwAdd (sym c.get.ensures))
    (setting_there c.args.kernel.now c.args.me false (Some modules.Bsdextended) (Some (RuleAdd rule)) (Ok m) walk c.in_ok-module-in-UgidfwAdd.ensures)
    (c.add.ensures c.args._task.now walk)

pub returns-in_err-module-in-UgidfwSet : goal.returns-in_err-module-in-UgidfwSet
returns-in_err-module-in-UgidfwSet c walk =
    missed c.args.kernel.now c.args._task.now c.args.me c.args.call.now (call.UgidfwSet c.in-UgidfwSet.number c.in-UgidfwSet.rule) _ walk _ _ c.in-UgidfwSet.is
    (setting_there c.args.kernel.now c.args.me false (Some modules.Bsdextended) (Some (RuleSet c.in-UgidfwSet.number c.in-UgidfwSet.rule)) (Err _) walk c.in_err-module-in-UgidfwSet.ensures)
    (c.from_residual-in_err-module-in-UgidfwSet.ensures.1)

pub returns-in_ok-module-in-UgidfwSet : goal.returns-in_ok-module-in-UgidfwSet
returns-in_ok-module-in-UgidfwSet c walk =
    let m = c.in_ok-module-in-UgidfwSet.«module» in
    let rule = c.get-in-UgidfwSet.result.now in
    found c.args.kernel.now c.args._task.now c.args.me c.args.call.now (call.UgidfwSet c.in-UgidfwSet.number rule) (m, RuleSet c.in-UgidfwSet.number rule) walk _ _ _ (c.in-UgidfwSet.is ∙ ap (call.UgidfwSet c.in-UgidfwSet.number) (sym c.get-in-UgidfwSet.ensures))
    (setting_there c.args.kernel.now c.args.me false (Some modules.Bsdextended) (Some (RuleSet c.in-UgidfwSet.number rule)) (Ok m) walk c.in_ok-module-in-UgidfwSet.ensures)
    (c.set.ensures c.args._task.now walk)

pub returns-in_err-module-in-UgidfwRemove : goal.returns-in_err-module-in-UgidfwRemove
returns-in_err-module-in-UgidfwRemove c walk =
    missed c.args.kernel.now c.args._task.now c.args.me c.args.call.now (call.UgidfwRemove c.in-UgidfwRemove.number) _ walk _ _ c.in-UgidfwRemove.is
    (setting_there c.args.kernel.now c.args.me false (Some modules.Bsdextended) (Some (RuleRemove c.in-UgidfwRemove.number)) (Err _) walk c.in_err-module-in-UgidfwRemove.ensures)
    (c.from_residual-in_err-module-in-UgidfwRemove.ensures.1)

pub returns-in_ok-module-in-UgidfwRemove : goal.returns-in_ok-module-in-UgidfwRemove
returns-in_ok-module-in-UgidfwRemove c walk =
    let m = c.in_ok-module-in-UgidfwRemove.«module» in
    found c.args.kernel.now c.args._task.now c.args.me c.args.call.now (call.UgidfwRemove c.in-UgidfwRemove.number) (m, RuleRemove c.in-UgidfwRemove.number) walk _ _ _ c.in-UgidfwRemove.is
    (setting_there c.args.kernel.now c.args.me false (Some modules.Bsdextended) (Some (RuleRemove c.in-UgidfwRemove.number)) (Ok m) walk c.in_ok-module-in-UgidfwRemove.ensures)
    (c.set-in-UgidfwRemove.ensures c.args._task.now walk)

pub returns-in_err-listed-in-UgidfwList : goal.returns-in_err-listed-in-UgidfwList
returns-in_err-listed-in-UgidfwList c walk =
    missed c.args.kernel.now c.args._task.now c.args.me c.args.call.now call.UgidfwList _ walk _ _ c.in-UgidfwList.is
    (at_once c.args.kernel.now c.args.me _ _ walk c.in_err-listed-in-UgidfwList.ensures) (c.from_residual.ensures.1)

pub returns-in_ok-listed-in-UgidfwList : goal.returns-in_ok-listed-in-UgidfwList
returns-in_ok-listed-in-UgidfwList c walk =
    found c.args.kernel.now c.args._task.now c.args.me c.args.call.now call.UgidfwList tt walk _ _ _ c.in-UgidfwList.is
    (at_once c.args.kernel.now c.args.me _ _ walk c.in_ok-listed-in-UgidfwList.ensures)
    (c.just_shown.ensures c.args._task.now walk)
