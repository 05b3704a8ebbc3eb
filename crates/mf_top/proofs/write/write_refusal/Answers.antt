use Rattle.std.proofs.Common.{Err, ◌∙◌}
use Rattle.mf_top.proofs.Told.{told_itself, told_memory}
use Rattle.mf_top.proofs.write.write_refusal.Goals as goal

pub returns-in-Ok : goal.returns-in-Ok
returns-in-Ok g c = told_itself _ (Err c.args.refusal) _ _ _ c.status-status.ensures (c.as_str.ensures.value ∙ c.in-Ok.ensures.text) c.write_text.ensures

pub returns-in-Err : goal.returns-in-Err
returns-in-Err g c = told_memory _ (Err c.args.refusal) _ c.in-Err.ensures.memory c.write_text-in-Err.ensures
