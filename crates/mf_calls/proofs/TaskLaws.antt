-- What a well-formed script says of its tasks by their numbers.
use Rattle.std.proofs.Common.{◌≡◌, ℕ, get_or, ◌<◌, ◌≤◌, Bool, true, false, List, [], ◌∷◌, length, Some, None, refl, ap, sym, ◌∙◌, ◌⊎◌, inl, inr, arith}
use Rattle.std.proofs.lemmas.Bool.{ltb-true, ltb-false}
use Rattle.std.proofs.lemmas.Option.{slice_get_cases, slice_get-get_or}
use Rattle.std.specs.Prelude.{nat_lt, slice_get, option_map, unwrap_or}
use Rattle.mf_calls.specs.declared.limits.TheConstants.{LINE_LIMIT}
use Rattle.mf_calls.specs.declared.script.Task.{Task}
use Rattle.mf_calls.specs.declared.script.Script.{Script}
use Rattle.mf_calls.specs.Names.{is_name}
use Rattle.mf_calls.specs.Tasks.{lines_of, name_of}
use Rattle.mf_calls.specs.WellFormed.{IsWellFormed}

-- the first task, where there is one of some number
some_task : (tasks : List Task) (t : ℕ) → t < length tasks → Task
some_task [] t t_in = absurd (omega (arith, t_in))
some_task (task ∷ tasks) t t_in = task

name_at : (tasks : List Task) (t : ℕ) (other : Task) → t < length tasks → unwrap_or (option_map (λ (task : Task). task.name) (slice_get tasks t)) [] ≡ (get_or tasks t other).name
name_at tasks t other t_in = ap (λ found. unwrap_or (option_map (λ (task : Task). task.name) found) []) (slice_get-get_or tasks t other t_in)

pub task_named : (s : Script) → IsWellFormed s → (t : ℕ) → t < length s.tasks → is_name (name_of s t) ≡ true
task_named s formed t t_in =
    let other = some_task s.tasks t t_in in
    let is : name_of s t ≡ (get_or s.tasks t other).name = name_at s.tasks t other t_in in
    ap is_name is ∙ (formed.each_task t other t_in).name

pub task_lines : (s : Script) → IsWellFormed s → (t : ℕ) → length (lines_of s t) ≤ LINE_LIMIT
task_lines s formed t = by_place (slice_get_cases s.tasks t).1 where
  by_place : ((task : Task) × (t < length s.tasks) × (slice_get s.tasks t ≡ Some task) × (get_or s.tasks t task ≡ task)) ⊎ ((length s.tasks ≤ t) × (slice_get s.tasks t ≡ None)) → length (lines_of s t) ≤ LINE_LIMIT
  by_place (inl found) =
      let few : length (get_or s.tasks t found.0).lines ≤ LINE_LIMIT = (formed.each_task t found.0 found.1).few in
      let same : length (lines_of s t) ≡ length (get_or s.tasks t found.0).lines = ap (λ f. length (unwrap_or (option_map (λ (task : Task). task.lines) f) [])) found.2 ∙ ap (λ (task : Task). length task.lines) (sym found.3) in
      omega (arith, few, same)
  by_place (inr none) = let same : length (lines_of s t) ≡ 0 = ap (λ f. length (unwrap_or (option_map (λ (task : Task). task.lines) f) [])) none.1 in omega (arith, same)

pub task_of_name : (s : Script) → IsWellFormed s → (t u : ℕ) → t < length s.tasks → u < length s.tasks → name_of s t ≡ name_of s u → t ≡ u
task_of_name s formed t u t_in u_in e = by_order (nat_lt t u) (nat_lt u t) refl refl where
  same : (get_or s.tasks t (some_task s.tasks t t_in)).name ≡ (get_or s.tasks u (some_task s.tasks t t_in)).name
  same = sym (name_at s.tasks t (some_task s.tasks t t_in) t_in) ∙ (e ∙ name_at s.tasks u (some_task s.tasks t t_in) u_in)

  by_order : (below above : Bool) → nat_lt t u ≡ below → nat_lt u t ≡ above → t ≡ u
  by_order true above b a = absurd (formed.names t u (some_task s.tasks t t_in) (ltb-true _ _ b) u_in same)
  by_order false true b a = absurd (formed.names u t (some_task s.tasks t t_in) (ltb-true _ _ a) t_in (sym same))
  by_order false false b a = omega (arith, ltb-false _ _ b, ltb-false _ _ a)
