use Rattle.std.proofs.Common.{◌≡◌, List, sym, subst, ◌∙◌}
use Rattle.std.specs.List.{AllByRecursion, flat_map}
use Rattle.std.proofs.lemmas.Result.{on_ok_weaker}
use Rattle.mf_flow.proofs.Followed.{slots_within}
use Rattle.mf_chains.specs.declared.chain.ChainRow.{ChainRow}
use Rattle.mf_chains.specs.Keepers.{HasLinks, rows_by}
use Rattle.mf_chains.specs.Table.{chain_table}
use Rattle.mf_chains.proofs.Listing.{all_linked, fault_also, few_all, many_steps, whole_rows}
use Rattle.mf_chains.proofs.Receiving.{if_ok_also}
use Rattle.mf_chains.proofs.table.chains.Goals as goal

pub keepers_for-requires-clause-slots : goal.keepers_for-requires-clause-slots
keepers_for-requires-clause-slots c =
    slots_within c.args.script.now c.args.history.now c.deref.result.now c.requires.formed c.requires.legal (c.deref.ensures.value ∙ c.in_ok-booted.ensures)

pub list_chains-requires : goal.list_chains-requires
list_chains-requires c =
    subst (AllByRecursion HasLinks) (sym c.as_slice.ensures) (all_linked c.args.script.now c.args.history.now c.in_ok-keepers.keepers c.in_ok-keepers.ensures.keepers)

pub returns-clause-table : goal.returns-clause-table
returns-clause-table c =
    if_ok_also c.list_chains.result (λ (rows : List ChainRow). rows ≡ flat_map (rows_by c.as_slice.result.now) c.args.table.now) (λ rows. rows ≡ chain_table c.args.script.now c.args.history.now)
    (λ rows is. is ∙ whole_rows c.args.script.now c.args.history.now c.deref.result.now c.in_ok-keepers.keepers c.as_slice.result.now c.args.table.now
    (c.deref.ensures.value ∙ c.in_ok-booted.ensures) c.as_slice.ensures c.in_ok-keepers.ensures.registrations c.in_ok-keepers.ensures.keepers c.requires.table)
    c.list_chains.ensures.rows

pub returns-clause-few : goal.returns-clause-few
returns-clause-few c =
    let booted = c.deref.ensures.value ∙ c.in_ok-booted.ensures in
    on_ok_weaker c.list_chains.result (λ few.
    few_all c.args.script.now c.args.history.now c.deref.result.now _ booted c.in_ok-keepers.ensures.few
    (whole_rows c.args.script.now c.args.history.now c.deref.result.now c.in_ok-keepers.keepers c.as_slice.result.now c.args.table.now
    booted c.as_slice.ensures c.in_ok-keepers.ensures.registrations c.in_ok-keepers.ensures.keepers c.requires.table) few)
    c.list_chains.ensures.few

pub returns-clause-fault : goal.returns-clause-fault
returns-clause-fault c =
    fault_also c.list_chains.result _ _ (λ f over is.
    many_steps c.args.script.now c.args.history.now _
    (whole_rows c.args.script.now c.args.history.now c.deref.result.now c.in_ok-keepers.keepers c.as_slice.result.now c.args.table.now
    (c.deref.ensures.value ∙ c.in_ok-booted.ensures) c.as_slice.ensures c.in_ok-keepers.ensures.registrations c.in_ok-keepers.ensures.keepers c.requires.table)
    (over is)) c.list_chains.ensures.fault
