-- That a verdict says one thing of a text, and a header is read in one way.
use Rattle.std.specs.Prelude.{◌≡◌, ℕ, List}
use Rattle.mf_calls.specs.declared.script.Script.{Script}
use Rattle.mf_calls.specs.WellFormed.{IsWellFormed}
use Rattle.mf_verdict.specs.Header.{IsCheckInput}
use Rattle.mf_verdict.specs.Verdict.{FailsAt, IsAccepted}

-- A text that is accepted fails at no line.
abbrev pub AcceptedTextsFailNowhere : Type 0
AcceptedTextsFailNowhere = (s : Script) (text : List ℕ) (n : ℕ) → IsWellFormed s → IsAccepted s text → ¬ FailsAt s text n

-- A text fails at one line at most.
abbrev pub TextsFailAtOneLine : Type 0
TextsFailAtOneLine = (s : Script) (text : List ℕ) (n m : ℕ) → IsWellFormed s → FailsAt s text n → FailsAt s text m → n ≡ m

-- Bytes are a script behind a line with its length, and a text, in one way at most.
abbrev pub InputsAreSplitOnce : Type 0
InputsAreSplitOnce = (bytes script text others other : List ℕ) → IsCheckInput bytes script text → IsCheckInput bytes others other → (script ≡ others) × (text ≡ other)
