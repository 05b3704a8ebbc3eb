-- Which steps are in turn, and what each of them does and prints, by docs/MANUAL.md (STEPS).
use Rattle.std.specs.Prelude.{◌≡◌, ◌≢◌, ◌⊎◌, ℕ, ◌<◌, List, [], ◌∷◌, ◌++◌, Some, IsSome, codes}
use Rattle.std.specs.Fmt.{decimal}
use Rattle.mf_calls.specs.declared.script.Script.{Script}
use Rattle.mf_calls.specs.declared.script.Step.{Step}
use Rattle.mf_calls.specs.declared.script.StepKind.{StepKind}
use Rattle.mf_calls.specs.declared.script.StepKind.TheVariants as step
use Rattle.mf_calls.specs.Tasks.{name_of, task_named}
use Rattle.mf_plan.specs.Planned.{Plan}
use Rattle.mf_plan.specs.declared.reply.Reply.{Reply}
use Rattle.mf_perform.specs.Verdict.{verdict_of}
use Rattle.mf_core.specs.declared.history.Event.{Event}
use Rattle.mf_core.specs.declared.history.Event.TheVariants as event
use Rattle.mf_core.specs.declared.progress.Turn.TheVariants as turn
use Rattle.mf_core.specs.LegalHistory.{turn_of, next_reply, next_number}
use Rattle.mf_core.specs.Next.{next_plan}
use Rattle.mf_core.specs.Progress.{open_entries}
use Rattle.mf_hist.specs.HistoryText.{event_text}
use Rattle.mf_steps.specs.StepRun.{StepRun, state_in, kept_at, with_plan, without_plan, KeptPlan}

-- Which steps of a task are in turn: its entry and its change where they come next, a plan while its entry is open and the call isn't done,
-- the call besides only where a plan is kept, and the end of the entry where the call is done.
abbrev pub IsInTurn : Script → StepRun → StepKind → ℕ → Type 0
IsInTurn s r step.Enter t = turn_of s (state_in s r).progress t ≡ turn.Entry
IsInTurn s r step.Plan t = turn_of s (state_in s r).progress t ≡ turn.Entered
IsInTurn s r step.Done t = (turn_of s (state_in s r).progress t ≡ turn.Entered) × IsSome (kept_at r.kept t)
IsInTurn s r step.Leave t = turn_of s (state_in s r).progress t ≡ turn.Done
IsInTurn s r step.Change t = turn_of s (state_in s r).progress t ≡ turn.Change

-- What a step does: the text that it prints, and the run after it

-- the call can't be done by the plan that was kept
abbrev pub stale_text : Script → ℕ → List ℕ
stale_text s t = codes "stale " ++ name_of s t ++ codes "\n"

-- the change waits: so many entries are open
abbrev pub waits_text : Script → ℕ → ℕ → List ℕ
waits_text s t n = codes "waits " ++ name_of s t ++ codes " " ++ decimal n ++ codes "\n"

-- the event comes, and its line is printed
abbrev pub Appends : Script → StepRun → Event → List ℕ → StepRun → Type 0
Appends s old e text new = (new ≡ record old { events = old.events ++ e ∷ [] }) × (text ≡ event_text s e)

-- the call of the task's line is done
abbrev pub DoesCall : Script → StepRun → ℕ → List ℕ → StepRun → Type 0
DoesCall s old t text new =
    (reply : Reply) × (next_reply s (state_in s old) t ≡ Some reply) × Appends s old (event.Done t (next_number (state_in s old) t) reply) text new

-- the change of the task's line is made
abbrev pub MakesChange : Script → StepRun → ℕ → List ℕ → StepRun → Type 0
MakesChange s old t text new =
    (reply : Reply) × (next_reply s (state_in s old) t ≡ Some reply) × Appends s old (event.Changed t (next_number (state_in s old) t) reply) text new

-- The plan of the task's call is kept, with the verdict of the listed policies on it, and nothing is printed.
abbrev pub KeepsPlan : Script → StepRun → ℕ → List ℕ → StepRun → Type 0
KeepsPlan s old t text new =
    (plan : Plan) × (next_plan s (state_in s old) t ≡ Some plan)
    × (new ≡ with_plan old t (record { plan = plan; verdict = verdict_of (state_in s old).state.specs plan })) × (text ≡ [])

-- The plan is still that of the task's call, and the call is done; or it isn't, and nothing is. It is kept no longer.
abbrev pub CommitsOrStale : Script → StepRun → ℕ → Plan → List ℕ → StepRun → Type 0
CommitsOrStale s old t plan text new =
    ((next_plan s (state_in s old) t ≡ Some plan) × DoesCall s (without_plan old t) t text new)
    ⊎ ((next_plan s (state_in s old) t ≢ Some plan) × (new ≡ without_plan old t) × (text ≡ stale_text s t))

-- No entry is open, and the change is made; or so many are, and nothing is done.
abbrev pub ChangesOrWaits : Script → StepRun → ℕ → List ℕ → StepRun → Type 0
ChangesOrWaits s old t text new =
    ((open_entries (state_in s old).progress ≡ 0) × MakesChange s old t text new)
    ⊎ ((0 < open_entries (state_in s old).progress) × (new ≡ old) × (text ≡ waits_text s t (open_entries (state_in s old).progress)))

abbrev pub Does : Script → StepRun → StepKind → ℕ → List ℕ → StepRun → Type 0
Does s old step.Enter t text new = Appends s old (event.Enter t) text new
Does s old step.Plan t text new = KeepsPlan s old t text new
Does s old step.Done t text new = (kept : KeptPlan) × (kept_at old.kept t ≡ Some kept) × CommitsOrStale s old t kept.plan text new
Does s old step.Leave t text new = Appends s old (event.Leave t) text new
Does s old step.Change t text new = ChangesOrWaits s old t text new

-- Steps one after another

-- the step is of a task of the script, in turn, and does what such a step does
abbrev pub IsTaken : Script → StepRun → Step → List ℕ → StepRun → Type 0
IsTaken s old x text new = (t : ℕ) × (task_named s x.task ≡ Some t) × IsInTurn s old x.kind t × Does s old x.kind t text new

-- each is, one after another, and this is what they print
abbrev pub AreTaken : Script → StepRun → List Step → List ℕ → StepRun → Type 0
AreTaken s old [] text new = (text ≡ []) × (new ≡ old)
AreTaken s old (x ∷ xs) text new =
    (mid : StepRun) × (front : List ℕ) × (rest : List ℕ) × IsTaken s old x front mid × AreTaken s mid xs rest new × (text ≡ front ++ rest)

-- the step names no task of the script, or isn't in turn
abbrev pub IsRefused : Script → StepRun → Step → Type 0
IsRefused s r x = (t : ℕ) → task_named s x.task ≡ Some t → ¬ IsInTurn s r x.kind t
