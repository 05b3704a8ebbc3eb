-- What the parts of a text are judged as; inner contracts alone cite this.
use Rattle.std.specs.Prelude.{◌≡◌, ◌⊎◌, ℕ, ◌+◌, List, length, Option, Some, None}
use Rattle.mf_calls.specs.declared.script.Script.{Script}
use Rattle.mf_core.specs.declared.history.History.{History}
use Rattle.mf_core.specs.LegalHistory.{IsLegal, IsComplete}
use Rattle.mf_hist.specs.HistoryText.{history_text}
use Rattle.mf_hist.specs.Lines.{IsReadable}
use Rattle.mf_flow.specs.SourcesText.{sources_text}
use Rattle.mf_verdict.specs.Pieces.{pieces, IsFirstDifference}
use Rattle.mf_verdict.specs.Verdict.{history_lines, sources_lines, IsFirstWrong}

-- the text is that of a history that can be read
abbrev pub IsHistoryText : Script → List ℕ → Type 0
IsHistoryText s text = (h : History) × IsReadable s h × (text ≡ history_text s h)

-- how many lines the history has
abbrev pub line_count : History → ℕ
line_count h = length h.boots + length h.events.list

-- the text is that of the history's sources, or this is the first line of the whole that isn't
abbrev pub AreSources : Script → History → List ℕ → Option ℕ → Type 0
AreSources s h rest None = rest ≡ sources_text s h
AreSources s h rest (Some n) = (k : ℕ) × IsFirstDifference (pieces rest) (sources_lines s h) k × (n ≡ line_count h + k)

-- the history is legal and complete, and what stands behind it is the text of its sources; or this is the line at which it fails
abbrev pub IsJudged : Script → History → List ℕ → Option ℕ → Type 0
IsJudged s h rest None = IsLegal s h × IsComplete s h × (rest ≡ sources_text s h)
IsJudged s h rest (Some n) =
    IsFirstWrong s (history_lines s h) n
    ⊎ (IsLegal s h × ¬ IsComplete s h × (n ≡ line_count h + 1))
    ⊎ (IsLegal s h × IsComplete s h × AreSources s h rest (Some n))
