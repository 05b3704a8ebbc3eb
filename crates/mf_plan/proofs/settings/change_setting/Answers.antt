use Rattle.std.proofs.Common.{◌∙◌}
use Rattle.mf_plan.proofs.Setting.{ends}
use Rattle.mf_plan.proofs.settings.change_setting.Goals as goal

pub returns-clause-row : goal.returns-clause-row
returns-clause-row c =
    c.judge.ensures.row
    ∙ ends c.args.state.now c.args._task.now c.args.caller c.args.call.now c.is_tunable.result c.setting_of-module.result c.requires.setting
    (c.is_tunable.ensures c.args._task.now c.args.caller) (c.setting_of-module.ensures.value c.args._task.now c.args.caller)
