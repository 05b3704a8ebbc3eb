-- A script has few lines, and a legal history few events.
use Rattle.std.proofs.Common.{ℕ, ◌*◌, ◌≤◌, suc, List, [], ◌∷◌, ◌++◌, length, unwrap_or, option_map, slice_get, refl, sym, subst, arith, append_assoc, append-nil}
use Rattle.std.specs.List.{fold, sum_by}
use Rattle.std.proofs.lemmas.List.Sums.{sum_by-cons}
use Rattle.mf_calls.specs.declared.limits.TheConstants.{LINE_LIMIT}
use Rattle.mf_calls.specs.declared.script.Line.{Line}
use Rattle.mf_calls.specs.declared.script.Task.{Task}
use Rattle.mf_calls.specs.declared.script.Script.{Script}
use Rattle.mf_calls.specs.WellFormed.{IsWellFormed, line_count}
use Rattle.mf_calls.proofs.TaskLaws.{task_lines}
use Rattle.mf_core.specs.declared.limits.TheConstants.{MOST_EVENTS}
use Rattle.mf_core.specs.declared.history.Event.{Event}
use Rattle.mf_core.specs.declared.history.History.{History}
use Rattle.mf_core.specs.Consistency.{IsConsistent}
use Rattle.mf_core.specs.LegalHistory.{AllMayCome, RunState, opening_run, run_after}
use Rattle.mf_core.specs.Opening.{boots_of}
use Rattle.mf_core.proofs.Consistency.{consistent_first, consistent_next}

unfoldable pub lines_in : List Task → ℕ → List Line
lines_in ts t = unwrap_or (option_map (λ (task : Task). task.lines) (slice_get ts t)) []

pub few_lines : (ts : List Task) → ((t : ℕ) → length (lines_in ts t) ≤ LINE_LIMIT) → sum_by line_count ts ≤ LINE_LIMIT * length ts
unfolding lines_in
few_lines [] few = omega arith
few_lines (task ∷ ts) few =
    let first : length task.lines ≤ LINE_LIMIT = few 0 in
    let rest : sum_by line_count ts ≤ LINE_LIMIT * length ts = few_lines ts (λ t. few (suc t)) in
    omega (arith, first, rest, sum_by-cons line_count task ts)

-- the history of these events, with room for all that may come
abbrev of_events : Script → List Event → History
of_events s es = record { boots = boots_of s; events = record { list = es; room = 3 * sum_by line_count s.tasks } }

consistent_after : (s : Script) (es more : List Event) (r : RunState) → IsConsistent s (of_events s es) r → AllMayCome s r more
    → IsConsistent s (of_events s (es ++ more)) (fold (run_after s) r more)
consistent_after s es [] r consistent all = subst (λ xs. IsConsistent s (of_events s xs) r) (sym (append-nil es)) consistent
consistent_after s es (e ∷ more) r consistent all =
    subst (λ xs. IsConsistent s (of_events s xs) (fold (run_after s) (run_after s r e) more)) (append_assoc es (e ∷ []) more)
    (consistent_after s (es ++ e ∷ []) more (run_after s r e) (consistent_next s (of_events s es) r consistent e all.0) all.1)

pub few_events : (s : Script) (es : List Event) → IsWellFormed s → AllMayCome s (opening_run s) es → length es ≤ MOST_EVENTS
unfolding lines_in
few_events s es formed all =
    let consistent = consistent_after s [] es (opening_run s) (consistent_first s (of_events s []) (sum_by line_count s.tasks) formed refl refl refl) all in
    let few : sum_by line_count s.tasks ≤ LINE_LIMIT * length s.tasks = few_lines s.tasks (task_lines s formed) in
    omega (arith, consistent.room, few, formed.tasks)
