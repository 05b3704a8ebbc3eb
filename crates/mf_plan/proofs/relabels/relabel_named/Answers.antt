use Rattle.std.proofs.Common.{◌∙◌}
use Rattle.mf_plan.specs.Checks.{on}
use Rattle.mf_plan.specs.Ways.{way_to}
use Rattle.mf_plan.specs.Ways.Place.{Named}
use Rattle.mf_plan.proofs.Relabelling.{claimed}
use Rattle.mf_plan.proofs.relabels.relabel_named.Goals as goal

pub returns-clause-row : goal.returns-clause-row
returns-clause-row c =
    c.on_named.ensures.row
    ∙ claimed c.args.state.now.specs c.args.kind _ _ c.claim.new.asked (way_to c.args.state.now c.args.caller (Named c.args.kind c.args.name.now)) (on c.args.caller c.args.op)
    c.as_str.ensures c.claim.ensures.asked c.in_ok-claim.ensures.ok
