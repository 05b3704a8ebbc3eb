-- Turns of tasks that a script doesn't have.
use Rattle.std.proofs.Common.{◌≡◌, ◌≢◌, ℕ, ◌<◌, ◌≤◌, List, [], length, Option, None, IsSome, is_some, option_map, slice_get, unwrap_or, ap, sym, ◌∙◌, subst, arith}
use Rattle.std.proofs.Math.ListN.{get_or-eq_default}
use Rattle.std.proofs.lemmas.Option.{slice_get_past}
use Rattle.mf_objects.specs.declared.limits.TheConstants.{ID_LIMIT}
use Rattle.mf_calls.specs.declared.script.Line.{Line}
use Rattle.mf_calls.specs.declared.script.Task.{Task}
use Rattle.mf_calls.specs.declared.script.Script.{Script}
use Rattle.mf_calls.specs.Tasks.{lines_of}
use Rattle.mf_core.specs.declared.progress.Phase.TheVariants as phases
use Rattle.mf_core.specs.declared.progress.Progress.{Progress}
use Rattle.mf_core.specs.declared.progress.Turn.{Turn}
use Rattle.mf_core.specs.declared.progress.Turn.TheVariants as turns
use Rattle.mf_core.specs.LegalHistory.{RunState, next_line, turn_in, turn_of}
use Rattle.mf_core.specs.RunView.{RunView, IsReached}
use Rattle.mf_core.specs.Progress.{first_progress, progress_at}
use Rattle.mf_core.proofs.Consistency.{change_line, entered_line, not_past}

pub past_turn : (s : Script) (progress : List Progress) (t : ℕ) → length progress ≡ length s.tasks → length s.tasks ≤ t → turn_of s progress t ≡ turns.Finished
past_turn s progress t places past =
    let far : length progress ≤ t = omega arith in
    let first : progress_at progress t ≡ first_progress = get_or-eq_default progress first_progress far in
    let none : slice_get s.tasks t ≡ None = slice_get_past s.tasks t past in
    ap (λ (x : Progress). turn_in x.phase (slice_get (lines_of s t) x.lines)) first
    ∙ ap (λ (o : Option Task). turn_in phases.Idle (slice_get (unwrap_or (option_map (λ (task : Task). task.lines) o) []) 0)) none

-- a task that is at something is one of the script
pub present : (s : Script) (progress : List Progress) (t : ℕ) (turn : Turn) → length progress ≡ length s.tasks → turn_of s progress t ≡ turn → turn ≢ turns.Finished
    → t < length s.tasks
present s progress t turn places is other = not_past t (length s.tasks) (λ past. other (sym is ∙ past_turn s progress t places past))

-- What a player has at hand where a call comes next

module _ (k : RunView) (s : Script) (r : RunState) (is : record { script = s; run = r } ≡ k) (reached : IsReached s r) where
  here : IsReached k.script k.run
  here = subst (λ (v : RunView). IsReached v.script v.run) is reached

  pub entered_within : (t : ℕ) → turn_of k.script k.run.progress t ≡ turns.Entered → t < length k.script.tasks
  entered_within t own = present k.script k.run.progress t turns.Entered here.consistent.places own (λ same. cc)

  pub entered_has : (t : ℕ) → turn_of k.script k.run.progress t ≡ turns.Entered → IsSome (next_line k.script k.run.progress t)
  entered_has t own =
      let line = entered_line k.script here.history k.run here.consistent t own in
      ap (λ (next : Option Line). is_some next) line.1

  pub change_within : (t : ℕ) → turn_of k.script k.run.progress t ≡ turns.Change → t < length k.script.tasks
  change_within t own = present k.script k.run.progress t turns.Change here.consistent.places own (λ same. cc)

  pub change_has : (t : ℕ) → turn_of k.script k.run.progress t ≡ turns.Change → IsSome (next_line k.script k.run.progress t)
  change_has t own =
      let line = change_line k.script here.history k.run here.consistent t own in
      ap (λ (next : Option Line). is_some next) line.1

  pub few_ids : r.state.objects.next < ID_LIMIT
  few_ids = omega (arith, reached.ids, reached.consistent.room, reached.most)
