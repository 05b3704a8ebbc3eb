-- A history stays consistent with the state of its run, with each event that may come.
use Rattle.std.proofs.Common.{◌≡◌, ◌≢◌, ℕ, zero, suc, ◌+◌, ◌*◌, ◌-◌, ◌<◌, ◌≤◌, ◌⊎◌, inl, inr, Bool, true, false, List, [], ◌∷◌, length, map, get_or, set, Option, Some, None, unwrap_or, slice_get, option_map, refl, sym, ◌∙◌, ap, subst, arith, length-append, length-set}
use Rattle.std.specs.Prelude.{if◌then◌else◌}
use Rattle.std.specs.List.{sum_by}
use Rattle.std.proofs.Math.ListN.{get_or-eq_default}
use Rattle.std.proofs.lemmas.List.Sums.{sum_by-cons, fold-append}
use Rattle.std.proofs.lemmas.Option.{slice_get_past, slice_get_within}
use Rattle.mf_calls.specs.declared.script.Line.{Line}
use Rattle.mf_calls.specs.declared.script.Task.{Task}
use Rattle.mf_calls.specs.declared.script.Script.{Script}
use Rattle.mf_calls.specs.Tasks.{is_change, lines_of}
use Rattle.mf_calls.specs.WellFormed.{line_count, IsWellFormed}
use Rattle.mf_core.specs.declared.progress.Phase.{Phase}
use Rattle.mf_core.specs.declared.progress.Phase.TheVariants as phases
use Rattle.mf_core.specs.declared.progress.Progress.{Progress}
use Rattle.mf_core.specs.declared.progress.Turn.{Turn}
use Rattle.mf_core.specs.declared.progress.Turn.TheVariants as turns
use Rattle.mf_core.specs.declared.history.Event.{Event}
use Rattle.mf_core.specs.declared.history.Event.TheVariants as events
use Rattle.mf_core.specs.declared.history.History.{History}
use Rattle.mf_core.specs.Log.{Log}
use Rattle.mf_core.specs.Opening.{boots_of}
use Rattle.mf_core.specs.Advances.{left}
use Rattle.mf_core.specs.Progress.{progress_at, first_progress, left_at}
use Rattle.mf_core.specs.LegalHistory.{RunState, MayCome, AllMayCome, run_after, run_state_of, opening_run, turn_at_line, turn_in, turn_of, next_line}
use Rattle.mf_core.specs.WithEvent.{with_event}
use Rattle.mf_core.specs.Consistency.{IsAtEntry, IsConsistent, HasLine, events_left, events_by}
use Rattle.mf_core.proofs.Laws.{AllMayCome-append, progress_at-first, line_at_entry, line_at_change}

-- one event less is left where at least one more came at a task
pub events_left-set : (ts : List Task) (xs : List Progress) (t : ℕ) (y : Progress) → t < length ts → length xs ≡ length ts
    → events_by (get_or xs t first_progress) + 1 ≤ events_by y
    → events_by y ≤ 3 * length (unwrap_or (option_map (λ (task : Task). task.lines) (slice_get ts t)) [])
    → events_left ts (set xs t y) + 1 ≤ events_left ts xs
events_left-set [] xs t y lt len more fits = absurd (omega arith)
events_left-set (task ∷ ts) [] t y lt len more fits = absurd (omega arith)
events_left-set (task ∷ ts) (x ∷ xs) zero y lt len more fits = omega arith
events_left-set (task ∷ ts) (x ∷ xs) (suc t) y lt len more fits =
    let below : t < length ts = omega arith in
    let same : length xs ≡ length ts = omega arith in
    omega (arith, events_left-set ts xs t y below same more fits)

-- what holds of the progress of each task holds after one was set
pub each-set : (P : ℕ → Progress → Type 0) (xs : List Progress) (t : ℕ) (y : Progress) (n : ℕ) → t < length xs
    → ((k : ℕ) → k < n → P k (get_or xs k first_progress)) → P t y
    → (k : ℕ) → k < n → P k (get_or (set xs t y) k first_progress)
each-set P [] t y n lt all here k below = absurd (omega arith)
each-set P (x ∷ xs) zero y n lt all here zero below = here
each-set P (x ∷ xs) zero y n lt all here (suc k) below = all (suc k) below
each-set P (x ∷ xs) (suc t) y n lt all here zero below = all zero below
each-set P (x ∷ xs) (suc t) y n lt all here (suc k) below =
    let Q : ℕ → Progress → Type 0 = λ j z. P (suc j) z in
    each-set Q xs t y (n - 1) (omega arith) (λ j b. all (suc j) (omega arith)) here k (omega arith)

-- the progress of a task goes on from the first to the second, within the lines of the task
pub record GoesOn (s : Script) (t : ℕ) (old new : Progress) : Type 0 where
  pub more : events_by old + 1 ≤ events_by new
  pub fits : events_by new ≤ 3 * length (lines_of s t)
  pub has : HasLine new.phase new.lines (length (lines_of s t))
  pub at : IsAtEntry new.phase (slice_get (lines_of s t) new.lines)

-- What a turn says of a phase

idle_entered : (line : Line) (b : Bool) → (if b then turns.Change else turns.Entry) ≡ turns.Entered → phases.Idle ≡ phases.Entered
idle_entered line true e = cc
idle_entered line false e = cc

idle_done : (line : Line) (b : Bool) → (if b then turns.Change else turns.Entry) ≡ turns.Done → phases.Idle ≡ phases.Done
idle_done line true e = cc
idle_done line false e = cc

pub entry_phase : (p : Phase) (next : Option Line) → turn_in p next ≡ turns.Entry → p ≡ phases.Idle
entry_phase phases.Idle next e = refl
entry_phase phases.Entered next e = cc
entry_phase phases.Done next e = cc
entry_phase phases.Stopped next e = cc

pub change_phase : (p : Phase) (next : Option Line) → turn_in p next ≡ turns.Change → p ≡ phases.Idle
change_phase phases.Idle next e = refl
change_phase phases.Entered next e = cc
change_phase phases.Done next e = cc
change_phase phases.Stopped next e = cc

pub entered_phase : (p : Phase) (next : Option Line) → turn_in p next ≡ turns.Entered → p ≡ phases.Entered
entered_phase phases.Idle None e = cc
entered_phase phases.Idle (Some line) e = idle_entered line (is_change line.call) e
entered_phase phases.Entered next e = refl
entered_phase phases.Done next e = cc
entered_phase phases.Stopped next e = cc

pub done_phase : (p : Phase) (next : Option Line) → turn_in p next ≡ turns.Done → p ≡ phases.Done
done_phase phases.Idle None e = cc
done_phase phases.Idle (Some line) e = idle_done line (is_change line.call) e
done_phase phases.Entered next e = cc
done_phase phases.Done next e = refl
done_phase phases.Stopped next e = cc

-- A task of another number has no turn

past_turn : (s : Script) (progress : List Progress) (t : ℕ) → length progress ≡ length s.tasks → length s.tasks ≤ t → turn_of s progress t ≡ turns.Finished
past_turn s progress t places past =
    let far : length progress ≤ t = omega arith in
    let first : progress_at progress t ≡ first_progress = get_or-eq_default progress first_progress far in
    let none : slice_get s.tasks t ≡ None = slice_get_past s.tasks t past in
    ap (λ (x : Progress). turn_in x.phase (slice_get (lines_of s t) x.lines)) first
    ∙ ap (λ (o : Option Task). turn_in phases.Idle (slice_get (unwrap_or (option_map (λ (task : Task). task.lines) o) []) 0)) none

pub not_past : (t n : ℕ) → (n ≤ t → ⊥) → t < n
not_past t n absent = omega arith

-- the task of an event
abbrev pub task_of : Event → ℕ
task_of (events.Enter t) = t
task_of (events.Done t n reply) = t
task_of (events.Leave t) = t
task_of (events.Changed t n reply) = t

-- The progress of the event's task, which is one of the script, goes on to this.
record Goes (s : Script) (r : RunState) (e : Event) : Type 0 where
  within : task_of e < length s.tasks
  progress : Progress
  next : (run_after s r e).progress ≡ set r.progress (task_of e) progress
  on : GoesOn s (task_of e) (progress_at r.progress (task_of e)) progress

module _ (s : Script) (h : History) (r : RunState) (consistent : IsConsistent s h r) where
  within : (t : ℕ) (u : Turn) → turn_of s r.progress t ≡ u → u ≢ turns.Finished → t < length s.tasks
  within t u turn other = not_past t (length s.tasks) (λ past. other (sym turn ∙ past_turn s r.progress t consistent.places past))

  -- A task whose turn is an entry has a next line, whose call is no change, and so has one that has entered. One whose turn is a change has a
  -- next line whose call is a change.

  entry_turn : (t : ℕ) → turn_of s r.progress t ≡ turns.Entry → turn_at_line (next_line s r.progress t) ≡ turns.Entry
  entry_turn t turn =
      let P : Phase → Type 0 = λ p. turn_in p (next_line s r.progress t) ≡ turns.Entry in
      subst P (entry_phase _ (next_line s r.progress t) turn) turn

  change_turn : (t : ℕ) → turn_of s r.progress t ≡ turns.Change → turn_at_line (next_line s r.progress t) ≡ turns.Change
  change_turn t turn =
      let P : Phase → Type 0 = λ p. turn_in p (next_line s r.progress t) ≡ turns.Change in
      subst P (change_phase _ (next_line s r.progress t) turn) turn

  entered_turn : (t : ℕ) → turn_of s r.progress t ≡ turns.Entered → turn_at_line (next_line s r.progress t) ≡ turns.Entry
  entered_turn t turn =
      let P : Phase → Type 0 = λ p. IsAtEntry p (next_line s r.progress t) in
      subst P (entered_phase _ (next_line s r.progress t) turn) (consistent.entries t (within t turns.Entered turn (λ same. cc)))

  pub entered_line : (t : ℕ) → turn_of s r.progress t ≡ turns.Entered → (line : Line) × (next_line s r.progress t ≡ Some line) × (is_change line.call ≡ false)
  entered_line t turn = line_at_entry (next_line s r.progress t) (entered_turn t turn)

  pub change_line : (t : ℕ) → turn_of s r.progress t ≡ turns.Change → (line : Line) × (next_line s r.progress t ≡ Some line) × (is_change line.call ≡ true)
  change_line t turn = line_at_change (next_line s r.progress t) (change_turn t turn)

  below : (t : ℕ) → ((line : Line) × (next_line s r.progress t ≡ Some line)) → (progress_at r.progress t).lines < length (lines_of s t)
  below t line = slice_get_within (lines_of s t) (progress_at r.progress t).lines line.0 line.1

  entry_below : (t : ℕ) → turn_of s r.progress t ≡ turns.Entry → (progress_at r.progress t).lines < length (lines_of s t)
  entry_below t turn = let line = line_at_entry (next_line s r.progress t) (entry_turn t turn) in below t (line.0, line.1)

  change_below : (t : ℕ) → turn_of s r.progress t ≡ turns.Change → (progress_at r.progress t).lines < length (lines_of s t)
  change_below t turn = let line = change_line t turn in below t (line.0, line.1)

  entered_below : (t : ℕ) → turn_of s r.progress t ≡ turns.Entered → (progress_at r.progress t).lines < length (lines_of s t)
  entered_below t turn = let line = entered_line t turn in below t (line.0, line.1)

  done_below : (t : ℕ) → turn_of s r.progress t ≡ turns.Done → (progress_at r.progress t).lines < length (lines_of s t)
  done_below t turn =
      let P : Phase → Type 0 = λ p. HasLine p (progress_at r.progress t).lines (length (lines_of s t)) in
      subst P (done_phase _ (next_line s r.progress t) turn) (consistent.lines t (within t turns.Done turn (λ same. cc)))

  -- What each event makes of the task's progress

  left_by : (t : ℕ) (p : Phase) → (progress_at r.progress t).phase ≡ p → GoesOn s t (progress_at r.progress t) (left_at (progress_at r.progress t).lines p)
      → GoesOn s t (progress_at r.progress t) (left (progress_at r.progress t))
  left_by t p is goes =
      let P : Phase → Type 0 = λ p. GoesOn s t (progress_at r.progress t) (left_at (progress_at r.progress t).lines p) in
      subst P (sym is) goes

  goes_left : (t : ℕ) → (turn_of s r.progress t ≡ turns.Done) ⊎ (turn_of s r.progress t ≡ turns.Entered) → GoesOn s t (progress_at r.progress t) (left (progress_at r.progress t))
  goes_left t (inl turn) =
      let done : (progress_at r.progress t).phase ≡ phases.Done = done_phase _ (next_line s r.progress t) turn in
      let fits = done_below t turn in
      left_by t phases.Done done (record { more = rw done (omega arith); fits = omega arith; has = omega arith; at = tt })
  goes_left t (inr turn) =
      let entered : (progress_at r.progress t).phase ≡ phases.Entered = entered_phase _ (next_line s r.progress t) turn in
      let fits = entered_below t turn in
      left_by t phases.Entered entered (record { more = rw entered (omega arith); fits = omega arith; has = fits; at = tt })

  left_within : (t : ℕ) → (turn_of s r.progress t ≡ turns.Done) ⊎ (turn_of s r.progress t ≡ turns.Entered) → t < length s.tasks
  left_within t (inl turn) = within t turns.Done turn (λ same. cc)
  left_within t (inr turn) = within t turns.Entered turn (λ same. cc)

  goes : (e : Event) → MayCome s r e → Goes s r e
  goes (events.Enter t) may =
      let idle : (progress_at r.progress t).phase ≡ phases.Idle = entry_phase _ (next_line s r.progress t) may in
      let fits = entry_below t may in
      record {
        within = within t turns.Entry may (λ same. cc);
        progress = _;
        next = refl;
        on = record { more = rw idle (omega arith); fits = omega arith; has = fits; at = entry_turn t may };
      }
  goes (events.Done t n reply) may =
      let entered : (progress_at r.progress t).phase ≡ phases.Entered = entered_phase _ (next_line s r.progress t) may.0 in
      let fits = entered_below t may.0 in
      record {
        within = within t turns.Entered may.0 (λ same. cc);
        progress = _;
        next = refl;
        on = record { more = rw entered (omega arith); fits = omega arith; has = fits; at = entered_turn t may.0 };
      }
  goes (events.Leave t) may = record { within = left_within t may; progress = _; next = refl; on = goes_left t may }
  goes (events.Changed t n reply) may =
      let idle : (progress_at r.progress t).phase ≡ phases.Idle = change_phase _ (next_line s r.progress t) may.1 in
      let fits = change_below t may.1 in
      record {
        within = within t turns.Change may.1 (λ same. cc);
        progress = _;
        next = refl;
        on = record { more = rw idle (omega arith); fits = omega arith; has = omega arith; at = tt };
      }

  -- there is room for an event that may come
  pub room_for : (e : Event) → MayCome s r e → length h.events.list < h.events.room
  room_for e may =
      let goes_on = goes e may in
      omega (arith, events_left-set s.tasks r.progress (task_of e) goes_on.progress goes_on.within consistent.places goes_on.on.more goes_on.on.fits, consistent.room)

  pub task_within : (e : Event) → MayCome s r e → task_of e < length s.tasks
  task_within e may = (goes e may).within

  -- after an event that may come, the history with it and the state after it are consistent
  pub consistent_next : (e : Event) → MayCome s r e → IsConsistent s (with_event h e) (run_after s r e)
  consistent_next e may =
      let goes_on = goes e may in
      let t = task_of e in
      let y = goes_on.progress in
      let P : ℕ → Progress → Type 0 = λ k x. HasLine x.phase x.lines (length (lines_of s k)) in
      let Q : ℕ → Progress → Type 0 = λ k x. IsAtEntry x.phase (slice_get (lines_of s k) x.lines) in
      let M : RunState → Type 0 = λ m. MayCome s m e in
      let Each : (ℕ → Progress → Type 0) → List Progress → Type 0 = λ P xs. (k : ℕ) → k < length s.tasks → P k (progress_at xs k) in
      let places : t < length r.progress = omega (arith, consistent.places, goes_on.within) in
      let fewer : events_left s.tasks (set r.progress t y) + 1 ≤ events_left s.tasks r.progress =
      events_left-set s.tasks r.progress t y goes_on.within consistent.places goes_on.on.more goes_on.on.fits in
      let longer = length-append h.events.list (e ∷ []) in
      record {
        formed = consistent.formed;
        legal = record { boots = consistent.legal.boots; events = AllMayCome-append s (opening_run s) h.events.list e consistent.legal.events (subst M (sym consistent.here) may) };
        here = fold-append (run_after s) (opening_run s) h.events.list (e ∷ []) ∙ ap (λ m. run_after s m e) consistent.here;
        places = ap length goes_on.next ∙ (length-set r.progress t y ∙ consistent.places);
        lines = subst (Each P) (sym goes_on.next) (each-set P r.progress t y (length s.tasks) places consistent.lines goes_on.on.has);
        entries = subst (Each Q) (sym goes_on.next) (each-set Q r.progress t y (length s.tasks) places consistent.entries goes_on.on.at);
        room = omega (arith, fewer, consistent.room, longer, ap (events_left s.tasks) goes_on.next);
      }

-- At the opening

pub places_first : (ts : List Task) → length (map (λ (x : Task). first_progress) ts) ≡ length ts
places_first [] = refl
places_first (x ∷ ts) = ap suc (places_first ts)

events_first : (ts : List Task) → events_left ts (map (λ (x : Task). first_progress) ts) ≡ 3 * sum_by line_count ts
events_first [] = refl
events_first (x ∷ ts) = omega (arith, events_first ts, sum_by-cons line_count x ts)

pub consistent_first : (s : Script) (h : History) (n : ℕ) → IsWellFormed s → h.boots ≡ boots_of s → h.events ≡ record { list = []; room = 3 * n }
    → n ≡ sum_by line_count s.tasks → IsConsistent s h (opening_run s)
consistent_first s h n formed boots events count =
    let list : h.events.list ≡ [] = ap (λ (l : Log). l.list) events in
    let room : h.events.room ≡ 3 * n = ap (λ (l : Log). l.room) events in
    let A : List Event → Type 0 = λ es. AllMayCome s (opening_run s) es in
    let H : Progress → ℕ → Type 0 = λ x t. HasLine x.phase x.lines (length (lines_of s t)) in
    let E : Progress → ℕ → Type 0 = λ x t. IsAtEntry x.phase (slice_get (lines_of s t) x.lines) in
    record {
      formed = formed;
      legal = record { boots = boots; events = subst A (sym list) tt };
      here = ap (λ es. run_state_of s es) list;
      places = places_first s.tasks;
      lines = λ t lt. subst (λ (x : Progress). H x t) (sym (progress_at-first s.tasks t)) (omega arith);
      entries = λ t lt. subst (λ (x : Progress). E x t) (sym (progress_at-first s.tasks t)) tt;
      room = omega (arith, ap length list, room, count, events_first s.tasks);
    }
