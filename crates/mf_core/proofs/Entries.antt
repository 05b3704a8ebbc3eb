-- What stays while an entry of a task is open.
use Rattle.std.proofs.Common.{◌≡◌, ◌≢◌, ℕ, ◌*◌, ◌<◌, List, [], ◌∷◌, ◌++◌, length, get_or, set, refl, sym, ◌∙◌, ap, subst, arith, get_or-set_same}
use Rattle.std.specs.Prelude.{All}
use Rattle.std.specs.List.{sum_by, fold}
use Rattle.std.proofs.lemmas.List.Elements.{All-head, All-tail}
use Rattle.std.proofs.lemmas.List.Sums.{get_or-le-sum_by, fold-append}
use Rattle.mf_calls.specs.declared.script.Script.{Script}
use Rattle.mf_calls.specs.WellFormed.{IsWellFormed, line_count}
use Rattle.mf_core.specs.declared.progress.Phase.TheVariants as phases
use Rattle.mf_core.specs.declared.progress.Progress.{Progress}
use Rattle.mf_core.specs.declared.history.Event.{Event}
use Rattle.mf_core.specs.declared.history.Event.TheVariants as events
use Rattle.mf_core.specs.declared.history.History.{History}
use Rattle.mf_core.specs.Opening.{boots_of}
use Rattle.mf_core.specs.Progress.{progress_at, first_progress, open_in, open_entries}
use Rattle.mf_core.specs.LegalHistory.{RunState, MayCome, AllMayCome, run_after, opening_run}
use Rattle.mf_core.specs.WithEvent.{with_event}
use Rattle.mf_core.specs.Consistency.{IsConsistent}
use Rattle.mf_core.specs.Laws.{PoliciesStayInEntries}
use Rattle.mf_core.proofs.Calls.{entry_specs}
use Rattle.mf_core.proofs.Consistency.{consistent_first, consistent_next, each-set, task_of, task_within}

-- events one after the other

pub may_come-split : (s : Script) (r : RunState) (xs ys : List Event) → AllMayCome s r (xs ++ ys) → AllMayCome s r xs × AllMayCome s (fold (run_after s) r xs) ys
may_come-split s r [] ys all = (tt, all)
may_come-split s r (x ∷ xs) ys all =
    let rest = may_come-split s (run_after s r x) xs ys all.1 in ((all.0, rest.0), rest.1)

-- Some history is consistent with this state of the run.
record IsMet (s : Script) (r : RunState) : Type 0 where
  history : History
  consistent : IsConsistent s history r

met_first : (s : Script) → IsWellFormed s → IsMet s (opening_run s)
met_first s formed =
    let h : History = record { boots = boots_of s; events = record { list = []; room = 3 * sum_by line_count s.tasks } } in
    record { history = h; consistent = consistent_first s h (sum_by line_count s.tasks) formed refl refl refl }

met_next : (s : Script) (r : RunState) (e : Event) → IsMet s r → MayCome s r e → IsMet s (run_after s r e)
met_next s r e met may = record { history = with_event met.history e; consistent = consistent_next s met.history r met.consistent e may }

met_after : (s : Script) (r : RunState) (es : List Event) → IsMet s r → AllMayCome s r es → IsMet s (fold (run_after s) r es)
met_after s r [] met all = met
met_after s r (e ∷ es) met all = met_after s (run_after s r e) es (met_next s r e met all.0) all.1

module _ (s : Script) (t : ℕ) (lt : t < length s.tasks) where
  -- an entry of the task is open
  abbrev IsIn : RunState → Type 0
  IsIn r = open_in (progress_at r.progress t).phase ≡ 1

  -- where it is this task's progress, an entry is open
  abbrev IsInAt : ℕ → Progress → Type 0
  IsInAt k x = k ≡ t → open_in x.phase ≡ 1

  module _ (r : RunState) (met : IsMet s r) (inside : IsIn r) where
    stays_in : (u : ℕ) (y : Progress) → u < length s.tasks → IsInAt u y → open_in (get_or (set r.progress u y) t first_progress).phase ≡ 1
    stays_in u y within here =
        let all : (k : ℕ) → k < length s.tasks → IsInAt k (get_or r.progress k first_progress) =
        λ k below same. subst (λ (j : ℕ). open_in (get_or r.progress j first_progress).phase ≡ 1) (sym same) inside in
        each-set IsInAt r.progress u y (length s.tasks) (omega (arith, within, met.consistent.places)) all here t lt refl

    within : (e : Event) → MayCome s r e → task_of e < length s.tasks
    within e may = task_within s met.history r met.consistent e may

    some_open : open_entries r.progress ≢ 0
    some_open none =
        let place : t < length r.progress = omega (arith, lt, met.consistent.places) in
        omega (arith, inside, none, get_or-le-sum_by (λ (p : Progress). open_in p.phase) r.progress t first_progress place)

    -- no event but the task's Leave ends the entry
    in_next : (e : Event) → MayCome s r e → e ≢ events.Leave t → IsIn (run_after s r e)
    in_next (events.Enter u) may other = stays_in u _ (within (events.Enter u) may) (λ same. refl)
    in_next (events.Done u n reply) may other = stays_in u _ (within (events.Done u n reply) may) (λ same. refl)
    in_next (events.Leave u) may other = stays_in u _ (within (events.Leave u) may) (λ same. absurd (other (ap events.Leave same)))
    in_next (events.Changed u n reply) may other = absurd (some_open may.0)

    -- and none changes the policies
    same_next : (e : Event) → MayCome s r e → (run_after s r e).state.specs ≡ r.state.specs
    same_next (events.Enter u) may = refl
    same_next (events.Done u n reply) may = entry_specs s met.history r u met.consistent may.0
    same_next (events.Leave u) may = refl
    same_next (events.Changed u n reply) may = absurd (some_open may.0)

  same_after : (r : RunState) (es : List Event) → IsMet s r → IsIn r → AllMayCome s r es → All (λ e. e ≢ events.Leave t) es
      → (fold (run_after s) r es).state.specs ≡ r.state.specs
  same_after r [] met inside all others = refl
  same_after r (e ∷ es) met inside all others =
      let other = All-head (λ (x : Event). x ≢ events.Leave t) e es others in
      same_after (run_after s r e) es (met_next s r e met all.0) (in_next r met inside e all.0 other) all.1 (All-tail (λ (x : Event). x ≢ events.Leave t) e es others)
      ∙ same_next r met inside e all.0

-- from a task's Enter on
since_enter : (s : Script) (t : ℕ) (r : RunState) (since later : List Event) → IsMet s r → AllMayCome s r (events.Enter t ∷ (since ++ later))
    → All (λ e. e ≢ events.Leave t) since → (fold (run_after s) r (events.Enter t ∷ since)).state.specs ≡ r.state.specs
since_enter s t r since later met all others =
    let enter : Event = events.Enter t in
    let lt : t < length s.tasks = task_within s met.history r met.consistent enter all.0 in
    let place : t < length r.progress = omega (arith, lt, met.consistent.places) in
    let entered : Progress = record (progress_at r.progress t) { phase = phases.Entered } in
    let inside : open_in (get_or (set r.progress t entered) t first_progress).phase ≡ 1 =
    ap (λ (p : Progress). open_in p.phase) (get_or-set_same r.progress t entered first_progress place) in
    let first = may_come-split s (run_after s r enter) since later all.1 in
    same_after s t lt (run_after s r enter) since (met_next s r enter met all.0) inside first.0 others

pub policies_stay : PoliciesStayInEntries
policies_stay s h t before since later formed legal is others =
    let all = may_come-split s (opening_run s) before (events.Enter t ∷ (since ++ later)) (subst (λ (es : List Event). AllMayCome s (opening_run s) es) is legal.events) in
    let r : RunState = fold (run_after s) (opening_run s) before in
    ap (λ (r : RunState). r.state.specs) (fold-append (run_after s) (opening_run s) before (events.Enter t ∷ since))
    ∙ since_enter s t r since later (met_after s (opening_run s) before (met_first s formed) all.0) all.1 others
