use Rattle.std.proofs.Common.{◌≡◌, ◌+◌, ◌<◌, List, map, take, arith, ap, refl, sym, subst, ◌∙◌}
use Rattle.mf_chains.specs.declared.chain.ChainFault.TheVariants.{TooMany}
use Rattle.mf_chains.specs.declared.marks.Mark.{Mark}
use Rattle.mf_chains.specs.Marks.{kept_in, set_at}
use Rattle.mf_chains.specs.Table.{chain_row, steps_in}
use Rattle.mf_chains.proofs.Listing.{err_and_also, over_rows}
use Rattle.mf_chains.proofs.table.push_kept.Goals as goal

pub returns-in_err-push_chain-clause-fault : goal.returns-in_err-push_chain-clause-fault
returns-in_err-push_chain-clause-fault c =
    let links = c.args.keeper.now.links in
    let row = c.args.row.now in
    let marks = c.at-mark-items.result.now in
    let n = c.loop-mark.mark-index in
    let are : marks ≡ set_at c.args.keeper.now.sets row.id.0 = c.at-mark-items.ensures ∙ ap (set_at c.args.keeper.now.sets) c.number.ensures in
    err_and_also c.from_residual.result _ _ (λ f same is.
    let here : c.in_err-push_chain.field-0.0 ≡ TooMany = cc in
    subst (λ (ms : List Mark). c.args.most.now < steps_in (map (chain_row row) (kept_in links ms))) are
    (over_rows links row marks n _ _ c.loop-mark.most c.args.most.now (omega arith) refl
    (subst (λ (ms : List Mark). c.loop-mark.most + steps_in (map (chain_row row) (kept_in links (take n ms))) ≡ c.args.most.now) (sym are) c.loop-mark.invariant.1)
    (c.in_err-push_chain.ensures.fault here))) c.from_residual.ensures.1
