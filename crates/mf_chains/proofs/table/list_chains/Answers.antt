use Rattle.std.proofs.Common.{◌≡◌, ◌<◌, ◌+◌, List, take, arith, sym, subst}
use Rattle.std.specs.List.{flat_map}
use Rattle.mf_flow.specs.declared.table.Row.{Row}
use Rattle.mf_chains.specs.declared.chain.ChainFault.TheVariants.{TooMany}
use Rattle.mf_chains.specs.declared.limits.TheConstants.{CHAIN_LIMIT}
use Rattle.mf_chains.specs.Keepers.{rows_by}
use Rattle.mf_chains.specs.Table.{steps_in}
use Rattle.mf_chains.proofs.Listing.{err_and_also, over_table}
use Rattle.mf_chains.proofs.table.list_chains.Goals as goal

pub returns-in_err-push_chains-clause-fault : goal.returns-in_err-push_chains-clause-fault
returns-in_err-push_chains-clause-fault c =
    let ks = c.args.keepers.now in
    let rows = c.as_slice-row-items.result.now in
    let are : rows ≡ c.args.table.now = c.as_slice-row-items.ensures in
    err_and_also c.from_residual.result _ _ (λ f same is.
    let here : c.in_err-push_chains.field-0.0 ≡ TooMany = cc in
    subst (λ (xs : List Row). CHAIN_LIMIT < steps_in (flat_map (rows_by ks) xs)) are
    (over_table ks rows c.loop-row.row-index c.row-item.result c.row-item.result c.loop-row.most CHAIN_LIMIT (omega arith) c.row-item.is
    (subst (λ (xs : List Row). c.loop-row.most + steps_in (flat_map (rows_by ks) (take c.loop-row.row-index xs)) ≡ CHAIN_LIMIT) (sym are) c.loop-row.invariant.1)
    (c.in_err-push_chains.ensures.fault here))) c.from_residual.ensures.1
