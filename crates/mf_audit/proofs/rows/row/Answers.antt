use Rattle.mf_audit.proofs.rows.row.Goals as goal

pub returns-in-Setting : goal.returns-in-Setting
returns-in-Setting c = c.on_setting.ensures c.args.walk.now
