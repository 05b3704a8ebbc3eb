-- What the text of a legal history of a well-formed script tells, alone and with that of its sources: this model's own.
use Rattle.std.specs.Prelude.{◌≡◌, List, ◌++◌}
use Rattle.std.specs.List.{AllByRecursion, flat_map}
use Rattle.mf_calls.specs.declared.script.Script.{Script}
use Rattle.mf_calls.specs.WellFormed.{IsWellFormed}
use Rattle.mf_core.specs.declared.history.History.{History}
use Rattle.mf_core.specs.LegalHistory.{IsLegal}
use Rattle.mf_core.specs.declared.history.Event.{Event}
use Rattle.mf_flow.specs.SourcesText.{row_text, sources_text}
use Rattle.mf_flow.specs.declared.table.Row.{Row}
use Rattle.mf_hist.specs.HistoryText.{history_text}
use Rattle.mf_hist.specs.Legal.{HasReply}
use Rattle.mf_hist.specs.Lines.{IsNoLine, IsReadable}

-- In a legal history of a well-formed script each reply fits the fields of its line.
abbrev pub RepliesFit : Type 0
RepliesFit = (s : Script) (h : History) → IsWellFormed s → IsLegal s h → AllByRecursion HasReply h.events.list

-- A legal history of a well-formed script is one that can be read.
abbrev pub LegalHistoriesAreRead : Type 0
LegalHistoriesAreRead = (s : Script) (h : History) → IsWellFormed s → IsLegal s h → IsReadable s h

-- The text of a table of sources begins with no line of a history.
abbrev pub SourcesAreNoLine : Type 0
SourcesAreNoLine = (s : Script) (events : List Event) (rows : List Row) → IsNoLine s events (flat_map row_text rows)

-- Where two legal histories of one well-formed script have the same whole text, their own and that of their sources, they are equal.
abbrev pub WholeTextTellsHistory : Type 0
WholeTextTellsHistory = (s : Script) (h g : History) → IsWellFormed s → IsLegal s h → IsLegal s g
    → history_text s h ++ sources_text s h ≡ history_text s g ++ sources_text s g → (h.boots ≡ g.boots) × (h.events.list ≡ g.events.list)
