-- What is told of a history by its words, and in which order its calls came, by docs/MANUAL.md (OUTPUT, STEPS, MATRIX, CHAINS, WHY).
use Rattle.std.specs.Prelude.{◌≡◌, ℕ, List, [], ◌++◌, codes}
use Rattle.mf_calls.specs.declared.script.Script.{Script}
use Rattle.mf_chains.specs.Table.{AreTooMany}
use Rattle.mf_chains.specs.ChainsText.{chains_text}
use Rattle.mf_core.specs.declared.history.History.{History}
use Rattle.mf_core.specs.LegalHistory.{IsLegal}
use Rattle.mf_flow.specs.Laws.{AreInOrder}
use Rattle.mf_flow.specs.SourcesText.{sources_text}
use Rattle.mf_lifetimes.specs.Laws.{state_of}
use Rattle.mf_lifetimes.specs.Once.{AreMadeOnce}
use Rattle.mf_io.specs.Outside.{Seen, Took}
use Rattle.mf_matrix.specs.MatrixText.{matrix_text}
use Rattle.mf_steps.specs.StepText.{IsStepRun, IsFirstRefused}
use Rattle.mf_why.specs.WhyText.{why_text}
use Rattle.mf_top.specs.declared.command.Order.{Order}
use Rattle.mf_top.specs.declared.command.Order.TheVariants as order
use Rattle.mf_top.specs.declared.command.Telling.{Telling}
use Rattle.mf_top.specs.declared.command.Telling.TheVariants as telling
use Rattle.mf_top.specs.Reading.{Held, AreScript}
use Rattle.mf_top.specs.Runs.{IsRun, run_text}
use Rattle.mf_top.specs.Slots.{AreMarked}

-- The text is that of the steps of the script, each of which is taken, and of the sources at their end. Their history is legal; in it each
-- label slot is made and ended at most once, and is set where it was made and hasn't ended; and each source of a party stands in the order of its
-- policy.
pub record IsStepped (s : Script) (h : History) (text : List ℕ) : Type 0 where
  pub steps : List ℕ
  pub taken : IsStepRun s h steps
  pub legal : IsLegal s h
  pub once : AreMadeOnce s h
  pub marked : AreMarked s h
  pub order : AreInOrder s h
  pub whole : text ≡ steps ++ sources_text s h

-- the calls of the history came in that order, and the text is that of the history and of its sources
abbrev pub IsMadeIn : Order → Script → History → List ℕ → Type 0
IsMadeIn order.Threads s h text = IsRun s h × (text ≡ run_text s h)
IsMadeIn order.Steps s h text = IsStepped s h text

-- what stands behind the sources
abbrev pub further_text : Telling → Script → History → List ℕ
further_text telling.Sources s h = []
further_text telling.Matrix s h = matrix_text (state_of s h)
further_text telling.Chains s h = chains_text s h
further_text (telling.Why extent) s h = why_text extent s h

-- there is too much of it: too many chains, and nothing else
abbrev pub IsTooMuch : Telling → Script → History → Type 0
IsTooMuch telling.Chains s h = AreTooMany s h
IsTooMuch other s h = ⊥

-- The text is that of a history whose calls came in that order, of its sources, and of what is told behind them; and nothing else.
abbrev pub IsToldOf : Order → Telling → Script → List ℕ → Type 0
IsToldOf o t s text = (h : History) × (made : List ℕ) × IsMadeIn o s h made × ¬ IsTooMuch t s h × (text ≡ made ++ further_text t s h)

-- the text is that of such a history and of its sources, behind which there is too much to tell
abbrev pub IsTooMuchOf : Order → Telling → Script → List ℕ → Type 0
IsTooMuchOf o t s text = (h : History) × IsMadeIn o s h text × IsTooMuch t s h

-- in the order of the steps, the step of that number is the first that is refused
abbrev pub IsStepRefused : Order → Script → ℕ → Type 0
IsStepRefused order.Steps s number = IsFirstRefused s number
IsStepRefused order.Threads s number = ⊥

-- the bytes are a script, of which the text is told
abbrev pub IsToldText : Order → Telling → List ℕ → List ℕ → Type 0
IsToldText o t bytes text = (s : Script) × AreScript bytes s × IsToldOf o t s text

-- the same where there is too much to tell
abbrev pub IsTooMuchText : Order → Telling → List ℕ → List ℕ → Type 0
IsTooMuchText o t bytes text = (s : Script) × AreScript bytes s × IsTooMuchOf o t s text

-- the bytes are a script, and the step of that number is its first that is refused
abbrev pub RefusesStep : Order → List ℕ → ℕ → Type 0
RefusesStep o bytes number = (s : Script) × AreScript bytes s × IsStepRefused o s number

-- The source held a script to its end, and the sink took what is told of it in that order, and nothing else.
abbrev pub WroteTold : Order → Telling → Seen → Seen → Type 0
WroteTold o t source sink = Held source (λ bytes. (text : List ℕ) × IsToldText o t bytes text × Took sink.before sink.after text)

-- So where there are too many chains, with the line that says it behind the text of the history and its sources.
abbrev pub WroteTooMany : Order → Seen → Seen → Type 0
WroteTooMany o source sink =
    Held source (λ bytes. (text : List ℕ) × IsTooMuchText o telling.Chains bytes text × Took sink.before sink.after (text ++ codes "macsim: too many chains\n"))
