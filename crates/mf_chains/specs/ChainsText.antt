-- The text of the chains of a history: a line for each row of the table, by docs/MANUAL.md (CHAINS).
use Rattle.std.specs.Prelude.{ℕ, List, ◌++◌, codes}
use Rattle.std.specs.List.{flat_map}
use Rattle.mf_errno.specs.Names.{policy_text}
use Rattle.std.specs.Fmt.{decimal}
use Rattle.mf_labeltext.specs.Canonical.{elem_text}
use Rattle.mf_objects.specs.declared.id.Id.{Id}
use Rattle.mf_calls.specs.declared.script.Script.{Script}
use Rattle.mf_core.specs.declared.history.History.{History}
use Rattle.mf_chains.specs.declared.chain.Step.{Step}
use Rattle.mf_chains.specs.declared.chain.ChainRow.{ChainRow}
use Rattle.mf_chains.specs.Table.{chain_table}

-- a party and an event
abbrev pub moment_text : Id → ℕ → List ℕ
moment_text id event = decimal id.0 ++ codes "@" ++ decimal event

abbrev pub step_text : Step → List ℕ
step_text step = codes " " ++ moment_text step.party step.event ++ codes "." ++ decimal step.item

abbrev pub chain_row_text : ChainRow → List ℕ
chain_row_text row =
    codes "chain " ++ policy_text row.module ++ codes " " ++ row.title ++ codes " " ++ elem_text row.elem ++ codes " "
    ++ moment_text row.chain.origin row.chain.event ++ flat_map step_text row.chain.steps ++ codes "\n"

abbrev pub chain_rows_text : List ChainRow → List ℕ
chain_rows_text rows = flat_map chain_row_text rows

-- the chains part of a history's text
abbrev pub chains_text : Script → History → List ℕ
chains_text s h = chain_rows_text (chain_table s h)
