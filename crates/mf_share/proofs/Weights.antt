-- What open entries weigh: nothing exactly where none is open, and how that changes with each call of the core.
use Rattle.std.proofs.Common.{◌≡◌, ◌≢◌, ℕ, zero, suc, ◌+◌, ◌^◌, ◌<◌, ◌≤◌, Bool, true, false, ltb, List, [], ◌∷◌, length, refl, ◌∙◌, ap, subst, arith, lit<, below_more, ltb-true, ltb-false, length-set}
use Rattle.std.proofs.Math.Nat.{one-le-pow, pow-le-pow_right}
use Rattle.std.proofs.lemmas.List.{length-map}
use Rattle.std.proofs.lemmas.List.Sums.{sum_by-cons}
use Rattle.std.specs.List.{fold}
use Rattle.mf_calls.specs.declared.limits.TheConstants.{TASK_LIMIT}
use Rattle.mf_calls.specs.declared.script.Script.{Script}
use Rattle.mf_core.specs.declared.progress.Phase.{Phase}
use Rattle.mf_core.specs.declared.progress.Phase.TheVariants as phase
use Rattle.mf_core.specs.declared.progress.Progress.{Progress}
use Rattle.mf_core.specs.declared.progress.ChangeOutcome.{ChangeOutcome}
use Rattle.mf_core.specs.declared.progress.ChangeOutcome.TheVariants as outcome
use Rattle.mf_core.specs.declared.progress.Commit.{Commit}
use Rattle.mf_core.specs.declared.progress.Commit.TheVariants as commit
use Rattle.mf_core.specs.declared.progress.Turn.TheVariants as turn
use Rattle.mf_core.specs.declared.history.Event.{Event}
use Rattle.mf_core.specs.declared.history.Event.TheVariants as event
use Rattle.mf_core.specs.Progress.{first_progress, progress_at, left_at, open_in, open_entries}
use Rattle.mf_core.specs.Advances.{Advances, left}
use Rattle.mf_core.specs.LegalHistory.{RunState, run_after, next_line, opening_run}
use Rattle.mf_core.specs.CoreView.{CoreView, open_of, progress_of, turn_at, AdvancesBy, AdvancesOn}
use Rattle.mf_core.proofs.Consistency.{change_phase, done_phase, entered_phase, entry_phase}
use Rattle.mf_share.specs.Passes.{ticket_turn}
use Rattle.mf_share.specs.Weights.{entry_weight, risen, weight_in, weights, open_weight}

-- a task's entry weighs no more than that of the sixteenth
pub weight_fits : (t : ℕ) → t < TASK_LIMIT → 3 ^ t ≤ 3 ^ 15
weight_fits t lt = let last : t ≤ 15 = omega (arith, lt) in pow-le-pow_right (lit< tt) last

-- An entry has a weight exactly where it is open

unit_weighs : (t : ℕ) → 0 < 3 ^ t
unit_weighs t = one-le-pow t 3 (lit< tt)

weighs : (t : ℕ) (committed : Bool) → 0 < entry_weight t committed
weighs t true = omega (arith, unit_weighs t)
weighs t false = unit_weighs t

closed_in : (t : ℕ) (p : Phase) → weight_in t p ≡ 0 → open_in p ≡ 0
closed_in t phase.Idle none = refl
closed_in t phase.Entered none = absurd (omega (arith, none, weighs t false))
closed_in t phase.Done none = absurd (omega (arith, none, weighs t true))
closed_in t phase.Stopped none = refl

weightless_in : (t : ℕ) (p : Phase) → open_in p ≡ 0 → weight_in t p ≡ 0
weightless_in t phase.Idle none = refl
weightless_in t phase.Entered none = absurd (omega (arith, none))
weightless_in t phase.Done none = absurd (omega (arith, none))
weightless_in t phase.Stopped none = refl

-- where no entry is open nothing has a weight, and the other way round

closed_at : (list : List Progress) (t : ℕ) → open_entries list ≡ 0 → open_in (progress_at list t).phase ≡ 0
closed_at [] t none = refl
closed_at (p ∷ rest) zero none = omega (arith, none, sum_by-cons (λ (p : Progress). open_in p.phase) p rest)
closed_at (p ∷ rest) (suc t) none =
    closed_at rest t (omega (arith, none, sum_by-cons (λ (p : Progress). open_in p.phase) p rest))

weightless : (list : List Progress) (n : ℕ) → open_entries list ≡ 0 → weights list n ≡ 0
weightless list zero none = refl
weightless list (suc n) none =
    omega (arith, weightless list n none, weightless_in n (progress_at list n).phase (closed_at list n none))

weightless_at : (list : List Progress) (n : ℕ) → weights list n ≡ 0 → (t : ℕ) → t < n → weight_in t (progress_at list t).phase ≡ 0
weightless_at list zero none = λ t lt. absurd (omega (arith, lt))
weightless_at list (suc n) none = λ t lt.
    below_more (λ t. weight_in t (progress_at list t).phase ≡ 0) n (weightless_at list n (omega (arith, none))) (omega (arith, none)) t (omega (arith, lt))

all_closed : (list : List Progress) → ((t : ℕ) → t < length list → open_in (progress_at list t).phase ≡ 0) → open_entries list ≡ 0
all_closed [] each = refl
all_closed (p ∷ rest) each =
    omega (arith, each zero (omega arith), all_closed rest (λ t lt. each (suc t) (omega arith)), sum_by-cons (λ (p : Progress). open_in p.phase) p rest)

closed : (list : List Progress) (n : ℕ) → length list ≤ n → weights list n ≡ 0 → open_entries list ≡ 0
closed list n within none =
    all_closed list (λ t lt. closed_in t (progress_at list t).phase (weightless_at list n none t (omega (arith, lt, within))))

-- Where one task moves, its weight alone changes

module _ (old new : List Progress) (t : ℕ) (p : Progress) (advances : Advances old new t p) where
  stays_at : (n : ℕ) → n ≢ t → weight_in n (progress_at new n).phase ≡ weight_in n (progress_at old n).phase
  stays_at n other = ap (λ (p : Progress). weight_in n p.phase) (advances.others n other)

  stays_before : (n : ℕ) → n ≤ t → weights new n ≡ weights old n
  stays_before zero le = refl
  stays_before (suc n) le = omega (arith, stays_before n (omega (arith, le)), stays_at n (λ same. absurd (omega (arith, same, le))))

  abbrev Moves : ℕ → Type 0
  Moves n = weights new n + weight_in t (progress_at old t).phase ≡ weights old n + weight_in t p.phase

  last : (n : ℕ) → t < suc n → n ≤ t → t ≡ n
  last n lt le = omega arith

  moves_at : weights new (suc t) + weight_in t (progress_at old t).phase ≡ weights old (suc t) + weight_in t p.phase
  moves_at = omega (arith, stays_before t (omega arith), ap (λ (p : Progress). weight_in t p.phase) advances.at)

  pub moves : (n : ℕ) → t < n → Moves n
  moves zero lt = absurd (omega (arith, lt))
  moves (suc n) lt =
      elim (ltb t n) as (λ b. ltb t n ≡ b → Moves (suc n)) [
        | true ↦ λ is. omega (arith, moves n (ltb-true t n is), stays_at n (λ same. absurd (omega (arith, same, ltb-true t n is))))
        | false ↦ λ is. subst (λ n. Moves (suc n)) (last n lt (ltb-false t n is)) moves_at
      ] refl

-- The core has a place for each task

length_after : (s : Script) (r : RunState) (e : Event) → length (run_after s r e).progress ≡ length r.progress
length_after s r (event.Enter t) = length-set r.progress t _
length_after s r (event.Done t line reply) = length-set r.progress t _
length_after s r (event.Leave t) = length-set r.progress t _
length_after s r (event.Changed t line reply) = length-set r.progress t _

places_after : (s : Script) (r : RunState) (es : List Event) → length (fold (run_after s) r es).progress ≡ length r.progress
places_after s r [] = refl
places_after s r (e ∷ es) = places_after s (run_after s r e) es ∙ length_after s r e

places : (run : CoreView) → length (progress_of run) ≡ length run.script.tasks
places run = places_after run.script (opening_run run.script) run.history.events.list ∙ length-map run.script.tasks (λ t. first_progress)

pub none_open : (s : Script) (run : CoreView) → run.script ≡ s → open_weight s run ≡ 0 → open_of run ≡ 0
none_open s run script none =
    closed (progress_of run) (length s.tasks) (omega (arith, places run, ap (λ (s : Script). length s.tasks) script)) none

positive : (n : ℕ) → (n ≡ 0 → ⊥) → 0 < n
positive n absent = omega arith

some_open : (s : Script) (run : CoreView) → 0 < open_weight s run → 0 < open_of run
some_open s run some = positive (open_of run) (λ none. absurd (omega (arith, some, weightless (progress_of run) (length s.tasks) none)))

-- where the weight of an entry is a part of the whole, an entry is open
pub ticket_open : (s : Script) (run : CoreView) (t : ℕ) (committed : Bool) → entry_weight t committed ≤ open_weight s run → 0 < open_of run
ticket_open s run t committed part = some_open s run (omega (arith, weighs t committed, part))

-- the same, said of the book of open entries: the entry is in its total
pub counted_open : (s : Script) (run : CoreView) (t : ℕ) (committed : Bool) (amount total : ℕ) → amount ≤ total → amount ≡ entry_weight t committed → total ≡ open_weight s run → 0 < open_of run
counted_open s run t committed amount total within weighed counted = ticket_open s run t committed (omega (arith, within, weighed, counted))

pub weighs_nothing : (s : Script) (run : CoreView) → open_of run ≡ 0 → open_weight s run ≡ 0
weighs_nothing s run none = weightless (progress_of run) (length s.tasks) none

-- After each call of the core

module _ (s : Script) (old new : CoreView) (t : ℕ) (lt : t < length s.tasks) where
  moved : (p : Progress) (before : Phase) → (progress_at (progress_of old) t).phase ≡ before → Advances (progress_of old) (progress_of new) t p
      → open_weight s new + weight_in t before ≡ open_weight s old + weight_in t p.phase
  moved p before here advances =
      omega (arith, moves (progress_of old) (progress_of new) t p advances (length s.tasks) lt, ap (weight_in t) here)

  pub entered : turn_at old t ≡ turn.Entry → Advances (progress_of old) (progress_of new) t (record (progress_at (progress_of old) t) { phase = phase.Entered })
      → open_weight s new ≡ open_weight s old + entry_weight t false
  entered is advances =
      let same : open_weight s new + 0 ≡ open_weight s old + entry_weight t false = moved _ phase.Idle (entry_phase _ (next_line old.script (progress_of old) t) is) advances in
      omega (arith, same)

  pub committed : (by : Commit) → turn_at old t ≡ turn.Entered → AdvancesOn by (progress_of old) t (progress_of new)
      → open_weight s new ≡ open_weight s old + risen by t
  committed commit.Done is advances =
      let same : open_weight s new + entry_weight t false ≡ open_weight s old + entry_weight t true =
      moved _ phase.Entered (entered_phase _ (next_line old.script (progress_of old) t) is) advances in
      omega (arith, same)
  committed commit.Stale is same = omega (arith, ap (λ list. weights list (length s.tasks)) same)

  left_from : (before : Phase) → (progress_at (progress_of old) t).phase ≡ before → ((n : ℕ) → weight_in t (left_at n before).phase ≡ 0)
      → Advances (progress_of old) (progress_of new) t (left (progress_at (progress_of old) t)) → open_weight s new + weight_in t before ≡ open_weight s old
  left_from before here closes advances =
      let lines = (progress_at (progress_of old) t).lines in
      let none = ap (λ before. weight_in t (left_at lines before).phase) here ∙ closes lines in
      omega (arith, moved _ before here advances, none)

  pub left_by : (committed : Bool) → turn_at old t ≡ ticket_turn committed → Advances (progress_of old) (progress_of new) t (left (progress_at (progress_of old) t))
      → open_weight s new + entry_weight t committed ≡ open_weight s old
  left_by true is = left_from phase.Done (done_phase _ (next_line old.script (progress_of old) t) is) (λ n. refl)
  left_by false is = left_from phase.Entered (entered_phase _ (next_line old.script (progress_of old) t) is) (λ n. refl)

  pub changed : (by : ChangeOutcome) → turn_at old t ≡ turn.Change → AdvancesBy by (progress_of old) t (progress_of new) → open_weight s new ≡ open_weight s old
  changed outcome.Done is advances =
      let same : open_weight s new + 0 ≡ open_weight s old + 0 = moved _ phase.Idle (change_phase _ (next_line old.script (progress_of old) t) is) advances in
      omega (arith, same)
  changed (outcome.Waits n) is same = ap (λ list. weights list (length s.tasks)) same
