use Rattle.std.proofs.Common.{◌∙◌}
use Rattle.mf_item.specs.declared.operation.CheckOp.TheVariants as op
use Rattle.mf_item.specs.declared.view.Kind.TheVariants as kinds
use Rattle.mf_plan.specs.Checks.{on}
use Rattle.mf_plan.specs.Path.{found_at, lookup_along}
use Rattle.mf_plan.specs.Ways.{along}
use Rattle.mf_plan.proofs.Relabelling.{claimed}
use Rattle.mf_plan.proofs.relabels.relabel_file.Goals as goal

pub returns-clause-row : goal.returns-clause-row
returns-clause-row c =
    c.on_file.ensures.row
    ∙ claimed c.args.state.now.specs kinds.Vnode _ _ c.claim.new.asked (along c.args.caller found_at (lookup_along c.args.state.now.objects c.args.path.now)) (on c.args.caller op.VnodeRelabel)
    c.as_str.ensures c.claim.ensures.asked c.in_ok-claim.ensures.ok
