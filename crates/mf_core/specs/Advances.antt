-- How far a task gets.
use Rattle.std.specs.Prelude.{◌≡◌, ◌≢◌, ℕ, List}
use Rattle.std.specs.List.{sum_by}
use Rattle.mf_core.specs.declared.progress.Progress.{Progress}
use Rattle.mf_core.specs.Progress.{progress_at, left_at}

-- that task has that progress now, and the others have what they had
pub record Advances (old new : List Progress) (t : ℕ) (progress : Progress) : Type 0 where
  pub at : progress_at new t ≡ progress
  pub others : (u : ℕ) → u ≢ t → progress_at new u ≡ progress_at old u

-- a task's progress after it has left its entry
abbrev pub left : Progress → Progress
left progress = left_at progress.lines progress.phase

-- how many lines are done
abbrev pub lines_done : List Progress → ℕ
lines_done list = sum_by (λ progress. progress.lines) list
