-- Laws of legal histories: what one more event makes of the state of a run, and what turns say.
use Rattle.std.proofs.Common.{◌≡◌, ℕ, zero, suc, Bool, true, false, List, [], ◌∷◌, ◌++◌, map, Option, Some, None, refl}
use Rattle.std.specs.Prelude.{if◌then◌else◌}
use Rattle.std.specs.List.{fold}
use Rattle.mf_calls.specs.declared.script.Line.{Line}
use Rattle.mf_calls.specs.declared.script.Task.{Task}
use Rattle.mf_calls.specs.declared.script.Script.{Script}
use Rattle.mf_calls.specs.Tasks.{is_change}
use Rattle.mf_core.specs.declared.progress.Turn.TheVariants as turn
use Rattle.mf_core.specs.declared.history.Event.{Event}
use Rattle.mf_core.specs.Progress.{progress_at, first_progress}
use Rattle.mf_core.specs.LegalHistory.{RunState, MayCome, AllMayCome, run_after, turn_at_line}

pub AllMayCome-append : (s : Script) (r : RunState) (es : List Event) (e : Event) → AllMayCome s r es → MayCome s (fold (run_after s) r es) e → AllMayCome s r (es ++ e ∷ [])
AllMayCome-append s r [] e all may = (may, tt)
AllMayCome-append s r (x ∷ es) e all may = (all.0, AllMayCome-append s (run_after s r x) es e all.1 may)

-- at the opening each task is before its first line
pub progress_at-first : (ts : List Task) (t : ℕ) → progress_at (map (λ (x : Task). first_progress) ts) t ≡ first_progress
progress_at-first [] t = refl
progress_at-first (x ∷ ts) zero = refl
progress_at-first (x ∷ ts) (suc t) = progress_at-first ts t

-- What a turn says of the next line

no_change_by : (b : Bool) → (if b then turn.Change else turn.Entry) ≡ turn.Entry → b ≡ false
no_change_by true e = cc
no_change_by false e = refl

change_by : (b : Bool) → (if b then turn.Change else turn.Entry) ≡ turn.Change → b ≡ true
change_by true e = refl
change_by false e = cc

-- the call of a line whose turn is an entry is no change, and that of one whose turn is a change is one

pub entry_call : (line : Line) → turn_at_line (Some line) ≡ turn.Entry → is_change line.call ≡ false
entry_call line e = no_change_by (is_change line.call) e

pub change_call : (line : Line) → turn_at_line (Some line) ≡ turn.Change → is_change line.call ≡ true
change_call line e = change_by (is_change line.call) e

-- a task whose turn is an entry has a next line, whose call is no change
pub line_at_entry : (next : Option Line) → turn_at_line next ≡ turn.Entry → (line : Line) × (next ≡ Some line) × (is_change line.call ≡ false)
line_at_entry None e = cc
line_at_entry (Some line) e = (line, refl, entry_call line e)

-- a task whose turn is a change has a next line, whose call is a change
pub line_at_change : (next : Option Line) → turn_at_line next ≡ turn.Change → (line : Line) × (next ≡ Some line) × (is_change line.call ≡ true)
line_at_change None e = cc
line_at_change (Some line) e = (line, refl, change_call line e)
