-- The label text that is kept, so that it isn't read again.
use Rattle.std.specs.Prelude.{ℕ, if◌then◌else◌, nat_le, List, length}
use Rattle.mf_plan.specs.declared.last_label.TheConstants.{MOST_KEPT}
use Rattle.mf_plan.specs.Ways.{Place}
use Rattle.mf_plan.specs.Ways.Place.{Asking}

-- the kept text once this one is to be kept: a text that is too long isn't
abbrev pub kept_with : List ℕ → List ℕ → List ℕ
kept_with last text = if nat_le (length text) MOST_KEPT then text else last

-- the kept text after a call about this place
abbrev pub kept_after : List ℕ → Place → List ℕ
kept_after last (Asking kind text place) = kept_with last text
kept_after last other = last
