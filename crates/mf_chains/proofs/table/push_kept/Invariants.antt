use Rattle.std.proofs.Common.{◌≡◌, ◌++◌, ◌+◌, map, take}
use Rattle.mf_chains.specs.Marks.{kept_in, set_at}
use Rattle.mf_chains.specs.Table.{chain_row, steps_in}
use Rattle.mf_chains.proofs.table.push_kept.Given as goal

abbrev pub invariant-loop-mark : goal.invariant-loop-mark
invariant-loop-mark l =
    (l.rows ≡ l.initial.rows ++ map (chain_row l.row) (kept_in l.keeper.links (take l.mark-index (set_at l.keeper.sets l.row.id.0))))
    × (l.most + steps_in (map (chain_row l.row) (kept_in l.keeper.links (take l.mark-index (set_at l.keeper.sets l.row.id.0)))) ≡ l.initial.most)
