-- What the reader of a source's script answers, and what is told of a history of the script, and of a text for it; inner contracts alone cite
-- this.
use Rattle.std.specs.Prelude.{◌≡◌, ℕ, ◌≤◌, List, ◌++◌, Result, Ok, Err, codes, string_bytes}
use Rattle.mf_calls.specs.declared.limits.TheConstants.{LINE_LIMIT, TASK_LIMIT}
use Rattle.mf_calls.specs.declared.script.Script.{Script}
use Rattle.mf_calls.specs.Generated.{generated}
use Rattle.mf_core.specs.declared.history.History.{History}
use Rattle.mf_verdict.specs.Verdict.{FailsAt, IsAccepted}
use Rattle.mf_io.specs.Outside.{Seen, HadNoFault}
use Rattle.mf_top.specs.declared.command.Order.{Order}
use Rattle.mf_top.specs.declared.command.Telling.{Telling}
use Rattle.mf_top.specs.declared.refusal.Refusal.{Refusal}
use Rattle.mf_top.specs.declared.refusal.Refusal.TheVariants as refusal
use Rattle.mf_top.specs.Answers.{IsSourceRefusal}
use Rattle.mf_top.specs.Reading.{Held, AreScript}
use Rattle.mf_top.specs.Tellings.{IsStepRefused, IsToldOf, IsTooMuch, IsTooMuchOf, further_text}

-- the source held that script, to its end
abbrev pub IsSourceRead : Seen → Result Script Refusal → Type 0
IsSourceRead source (Ok s) = HadNoFault source × Held source (λ bytes. AreScript bytes s)
IsSourceRead source (Err refused) = IsSourceRefusal source refused

-- the script is that of the load
abbrev pub IsLoadOf : ℕ → ℕ → Script → Type 0
IsLoadOf lines tasks s = (lines ≤ LINE_LIMIT) × (tasks ≤ TASK_LIMIT) × (s ≡ generated lines tasks)

-- the text is what is told of the script in that order; or a step is the first that is refused; or there is too much to tell; or memory ran out
abbrev pub IsToldBy : Order → Telling → Script → Result (List ℕ) Refusal → Type 0
IsToldBy o t s (Ok text) = IsToldOf o t s text
IsToldBy o t s (Err (refusal.Step number)) = IsStepRefused o s number
IsToldBy o t s (Err (refusal.TooManyChains text)) = IsTooMuchOf o t s (string_bytes text)
IsToldBy o t s (Err refusal.Memory) = Unit {0}
IsToldBy o t s (Err other) = ⊥

-- behind a text stands what is told further of the history; or that is too much, and the text is kept; or memory ran out
abbrev pub IsToldBehind : Telling → Script → History → List ℕ → Result (List ℕ) Refusal → Type 0
IsToldBehind t s h text (Ok told) = ¬ IsTooMuch t s h × (told ≡ text ++ further_text t s h)
IsToldBehind t s h text (Err (refusal.TooManyChains kept)) = IsTooMuch t s h × (string_bytes kept ≡ text)
IsToldBehind t s h text (Err refusal.Memory) = Unit {0}
IsToldBehind t s h text (Err other) = ⊥

-- what is told of a text that is checked for a script: it is accepted; or it fails at a line; or memory ran out
abbrev pub IsJudgment : Script → List ℕ → Result (List ℕ) Refusal → Type 0
IsJudgment s text (Ok told) = IsAccepted s text × (told ≡ codes "yes\n")
IsJudgment s text (Err (refusal.Fails n)) = FailsAt s text n
IsJudgment s text (Err refusal.Memory) = Unit {0}
IsJudgment s text (Err other) = ⊥
