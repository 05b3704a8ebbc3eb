use Rattle.mf_flow.proofs.RowsKept.{kept_itself, kept_more}
use Rattle.mf_flow.proofs.set_list.free_if_gone.Goals as goal

pub returns : goal.returns
returns c =
    kept_more c.args.objects.now c.args.sets.now c.args.sets.now c.clear.new.self c.args.number (kept_itself c.args.objects.now c.args.sets.now)
    (c.is_live.ensures c.if-is_live.false) c.clear.ensures
