use Rattle.mf_top.proofs.Whole.{core_slotted}
use Rattle.mf_top.proofs.text.add_further.Goals as goal

pub print_matrix-requires-clause-slots : goal.print_matrix-requires-clause-slots
print_matrix-requires-clause-slots g c κs within =
    core_slotted c.args.core.now c.state.result.now c.state.ensures c.history-history.ensures.formed c.history-history.ensures.legal
