use Rattle.mf_flow.proofs.RowsKept.{kept_then}
use Rattle.mf_flow.proofs.set_list.sweep.Goals as goal

pub loop-number-preserved : goal.loop-number-preserved
loop-number-preserved c =
    kept_then c.args.objects.now c.args.sets.now c.loop-number.sets c.free_if_gone.new.sets c.loop-number.invariant c.free_if_gone.ensures
