-- The verdict on a text: a run of the script writes it, or it fails at a line. That is this model's own.
use Rattle.std.specs.Prelude.{◌≡◌, ◌⊎◌, ℕ, ◌+◌, ◌-◌, ◌<◌, List, ◌++◌, length, take}
use Rattle.mf_calls.specs.declared.script.Script.{Script}
use Rattle.mf_core.specs.declared.history.History.{History}
use Rattle.mf_core.specs.LegalHistory.{IsLegal, IsComplete}
use Rattle.mf_hist.specs.HistoryText.{history_text}
use Rattle.mf_flow.specs.SourcesText.{sources_text}
use Rattle.mf_verdict.specs.Pieces.{pieces, history_part, sources_part, IsFirstDifference}

-- The text is that of a legal and complete history and of its sources.
abbrev pub IsAccepted : Script → List ℕ → Type 0
IsAccepted s text = (h : History) × IsLegal s h × IsComplete s h × (text ≡ history_text s h ++ sources_text s h)

-- Where a text fails

abbrev pub history_lines : Script → History → List (List ℕ)
history_lines s h = pieces (history_text s h)

abbrev pub sources_lines : Script → History → List (List ℕ)
sources_lines s h = pieces (sources_text s h)

-- A legal history begins with the first n of these lines; for an n above their number, they are all that it has.
abbrev pub TextBegins : Script → List (List ℕ) → ℕ → Type 0
TextBegins s lines n = (h : History) × IsLegal s h × (take n lines ≡ take n (history_lines s h))

-- a legal history begins with the lines before this one, and none with this one too
abbrev pub IsFirstWrong : Script → List (List ℕ) → ℕ → Type 0
IsFirstWrong s lines n = (0 < n) × TextBegins s lines (n - 1) × ¬ TextBegins s lines n

-- it stands behind all lines of a legal history that isn't complete
abbrev pub IsBehindIncomplete : Script → List (List ℕ) → ℕ → Type 0
IsBehindIncomplete s lines n = (h : History) × IsLegal s h × ¬ IsComplete s h × (lines ≡ history_lines s h) × (n ≡ length lines + 1)

-- behind all lines of a legal and complete history, it is the first that differs from those of its sources
abbrev pub IsOtherSource : Script → List (List ℕ) → List (List ℕ) → ℕ → Type 0
IsOtherSource s lines rest n =
    (h : History) × IsLegal s h × IsComplete s h × (lines ≡ history_lines s h)
    × ((k : ℕ) × IsFirstDifference rest (sources_lines s h) k × (n ≡ length lines + k))

-- The text isn't accepted, and it fails at the line of this number, from 1. That may be one more than it has lines.
abbrev pub FailsAt : Script → List ℕ → ℕ → Type 0
FailsAt s text n = IsFirstWrong s (history_part text) n ⊎ IsBehindIncomplete s (history_part text) n ⊎ IsOtherSource s (history_part text) (sources_part text) n
