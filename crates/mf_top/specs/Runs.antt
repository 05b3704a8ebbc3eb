-- The text of a run of a script, by docs/MANUAL.md (OUTPUT).
use Rattle.std.specs.Prelude.{◌≡◌, ℕ, List, ◌++◌}
use Rattle.mf_calls.specs.declared.script.Script.{Script}
use Rattle.mf_core.specs.declared.history.History.{History}
use Rattle.mf_core.specs.LegalHistory.{IsLegal, IsComplete}
use Rattle.mf_flow.specs.Laws.{AreInOrder}
use Rattle.mf_flow.specs.SourcesText.{sources_text}
use Rattle.mf_hist.specs.HistoryText.{history_text}
use Rattle.mf_lifetimes.specs.Once.{AreMadeOnce}
use Rattle.mf_top.specs.Reading.{AreScript}
use Rattle.mf_top.specs.Slots.{AreMarked}

-- The history is legal and complete for the script; in it each label slot is made and ended at most once, and is set where it was made and
-- hasn't ended; and under mac_biba and mac_lomac each source of a party dominates the party's element, as under mac_mls the element dominates each.
pub record IsRun (s : Script) (h : History) : Type 0 where
  pub legal : IsLegal s h
  pub complete : IsComplete s h
  pub once : AreMadeOnce s h
  pub marked : AreMarked s h
  pub order : AreInOrder s h

-- the text of a history, and of its sources
abbrev pub run_text : Script → History → List ℕ
run_text s h = history_text s h ++ sources_text s h

-- The text is that of the history of a run and of its sources, and nothing else.
abbrev pub IsRunOf : Script → List ℕ → Type 0
IsRunOf s text = (h : History) × IsRun s h × (text ≡ run_text s h)

-- the bytes are a script, and the text is that of a legal and complete history of it
abbrev pub IsRunText : List ℕ → List ℕ → Type 0
IsRunText bytes text = (s : Script) × AreScript bytes s × IsRunOf s text
