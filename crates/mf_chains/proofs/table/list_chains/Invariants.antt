use Rattle.std.proofs.Common.{◌≡◌, ◌+◌, take}
use Rattle.std.specs.List.{flat_map}
use Rattle.mf_chains.specs.Keepers.{rows_by}
use Rattle.mf_chains.specs.Table.{steps_in}
use Rattle.mf_chains.specs.declared.limits.TheConstants.{CHAIN_LIMIT}
use Rattle.mf_chains.proofs.table.list_chains.Given as goal

abbrev pub invariant-loop-row : goal.invariant-loop-row
invariant-loop-row l =
    (l.rows ≡ flat_map (rows_by l.keepers) (take l.row-index l.table)) × (l.most + steps_in (flat_map (rows_by l.keepers) (take l.row-index l.table)) ≡ CHAIN_LIMIT)
