-- The table of the chains of a history: this model's own.
use Rattle.std.specs.Option.{option_map_or}
use Rattle.std.specs.Prelude.{◌⊎◌, ◌<◌, ℕ, List, [], map, length}
use Rattle.std.specs.List.{flat_map, sum_by}
use Rattle.mf_errno.specs.declared.module.Module.{Module}
use Rattle.mf_objects.specs.declared.id.Id.{Id}
use Rattle.mf_calls.specs.declared.script.Script.{Script}
use Rattle.mf_core.specs.declared.history.History.{History}
use Rattle.mf_flow.specs.declared.table.Row.{Row}
use Rattle.mf_flow.specs.Table.{sourced, table_of}
use Rattle.mf_chains.specs.declared.chain.ChainRow.{ChainRow}
use Rattle.mf_chains.specs.declared.limits.TheConstants.{CHAIN_LIMIT}
use Rattle.mf_chains.specs.Histories.{past_of, policy_of}
use Rattle.mf_chains.specs.Kept.{Kept, additions, kept}

-- what a party holds by the module's policy at the end of the history
abbrev pub kept_by : Script → History → Module → Id → List Kept
kept_by s h m id = option_map_or (λ r. kept (past_of s h r) id) (policy_of h.boots m) []

-- a row of a party of this row of the sources
abbrev pub chain_row : Row → Kept → ChainRow
chain_row row k = record { «module» = row.module; id = row.id; title = row.title; elem = k.element; chain = k.chain }

abbrev pub chain_rows : Script → History → Row → List ChainRow
chain_rows s h row = map (chain_row row) (kept_by s h row.module row.id)

-- the table of a history: the rows for each row of its sources in turn
abbrev pub chain_table : Script → History → List ChainRow
chain_table s h = flat_map (chain_rows s h) (table_of s h)

-- how many elements come into sets, by all policies together, and how many steps some rows have

abbrev pub all_additions : Script → History → ℕ
all_additions s h = sum_by (λ r. additions (past_of s h r)) (sourced h.boots)

abbrev pub steps_in : List ChainRow → ℕ
steps_in rows = sum_by (λ row. length row.chain.steps) rows

abbrev pub AreTooMany : Script → History → Type 0
AreTooMany s h = (CHAIN_LIMIT < all_additions s h) ⊎ (CHAIN_LIMIT < steps_in (chain_table s h))
