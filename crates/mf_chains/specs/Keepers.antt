-- What is kept of the parties of each policy, and the rows that it gives.
use Rattle.std.specs.Option.{option_map_or}
use Rattle.std.specs.Prelude.{◌≡◌, List, [], find, map}
use Rattle.mf_errno.specs.Same.{same_module}
use Rattle.mf_objects.specs.declared.id.Id.{Id}
use Rattle.mf_calls.specs.declared.script.Script.{Script}
use Rattle.mf_core.specs.declared.history.History.{History}
use Rattle.mf_flow.specs.declared.table.Row.{Row}
use Rattle.mf_chains.specs.declared.chain.ChainRow.{ChainRow}
use Rattle.mf_chains.specs.declared.happening.Occurrence.{Occurrence}
use Rattle.mf_chains.specs.declared.table.Keeper.{Keeper}
use Rattle.mf_chains.specs.Histories.{past_of}
use Rattle.mf_chains.specs.Kept.{kept}
use Rattle.mf_chains.specs.Marks.{AllAreThere, kept_at}
use Rattle.mf_chains.specs.Table.{chain_row}

abbrev pub HasLinks : Keeper → Type 0
HasLinks k = AllAreThere k.links k.sets

-- it has what the parties hold after all that happened, the newest first
abbrev pub KeepsAll : List Occurrence → Keeper → Type 0
KeepsAll past k = HasLinks k × ((p : Id) → kept_at k.links k.sets p ≡ kept past p)

-- it has what the parties hold at the end of the history
abbrev pub IsKeeper : Script → History → Keeper → Type 0
IsKeeper s h k = KeepsAll (past_of s h k.registration) k

abbrev pub rows_of : Row → Keeper → List ChainRow
rows_of row k = map (chain_row row) (kept_at k.links k.sets row.id)

-- the rows of a party, by what is kept for its policy
abbrev pub rows_by : List Keeper → Row → List ChainRow
rows_by keepers row = option_map_or (rows_of row) (find (λ k. same_module row.module k.registration.module) keepers) []
