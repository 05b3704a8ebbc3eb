use Rattle.std.proofs.Common.{string_bytes, subst}
use Rattle.mf_core.specs.CoreView.{CoreView}
use Rattle.mf_top.specs.declared.command.Order.TheVariants as order
use Rattle.mf_top.specs.Outcomes.{bytes_of_outcome}
use Rattle.mf_top.specs.Scripts.{IsToldBy}
use Rattle.mf_top.proofs.Whole.{told_of}
use Rattle.mf_top.proofs.text.tell_run.Goals as goal

pub returns : goal.returns
returns g c =
    let core = c.core-core.result.now in
    let told = bytes_of_outcome c.add_further.result in
    subst (λ (k : CoreView). IsToldBy order.Threads c.args.telling k.script told) c.core-core.ensures
    (told_of order.Threads c.args.telling core.script core.history (string_bytes c.in_ok-text.text) told c.in_ok-text.ensures c.add_further.ensures)
