-- What the book of open entries tells of a core: this model's own.
use Rattle.std.specs.Prelude.{◌≡◌, ℕ, ◌<◌, Bool, true, false, length, Option, Some, None}
use Rattle.mf_calls.specs.declared.script.Script.{Script}
use Rattle.mf_core.specs.declared.progress.Phase.{Phase}
use Rattle.mf_core.specs.declared.progress.Phase.TheVariants as phase
use Rattle.mf_core.specs.Progress.{progress_at}
use Rattle.mf_core.specs.CoreView.{CoreView, progress_of}
use Rattle.mf_share.specs.Weights.{open_weight}

-- the entry of a task in that phase, if it is open: whether its call is done
abbrev pub entry_in : Phase → Option Bool
entry_in phase.Entered = Some false
entry_in phase.Done = Some true
entry_in other = None

-- Where the open entries of two cores weigh the same together, the same tasks have an entry open, with their calls as far.
abbrev pub WeightTellsEntries : Type 0
WeightTellsEntries = (s : Script) (a b : CoreView) → open_weight s a ≡ open_weight s b
    → (t : ℕ) → t < length s.tasks → entry_in (progress_at (progress_of a) t).phase ≡ entry_in (progress_at (progress_of b) t).phase
