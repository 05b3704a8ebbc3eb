-- What is found as the lines of a history are gone through; inner contracts alone cite this.
use Rattle.std.specs.Prelude.{◌≡◌, ◌≢◌, ◌↔◌, ℕ, ◌+◌, ◌<◌, ◌≤◌, List, length, take, Some, slice_get, IsTrue}
use Rattle.mf_policy.specs.declared.registration.Registration.{Registration}
use Rattle.mf_calls.specs.declared.script.Script.{Script}
use Rattle.mf_core.specs.declared.history.Event.{Event}
use Rattle.mf_core.specs.declared.progress.Turn.TheVariants as turn
use Rattle.mf_core.specs.LegalHistory.{AllMayCome, MayCome, opening_run, run_state_of, turn_of}
use Rattle.mf_audit.specs.declared.audit.Audit.{Audit}
use Rattle.mf_audit.specs.declared.audit.Audit.TheVariants.{Legal, Wrong}

-- so many registrations are the same in both, and the next, where both have one, are not
pub record Agree (ours theirs : List Registration) (n : ℕ) : Type 0 where
  pub within : n ≤ length ours
  pub also : n ≤ length theirs
  pub same : take n ours ≡ take n theirs
  pub differ : n < length ours → n < length theirs → slice_get ours n ≢ slice_get theirs n

-- so many events may come, one after another, and then the next may not
pub record StopsAt (s : Script) (es : List Event) (n : ℕ) : Type 0 where
  pub before : AllMayCome s (opening_run s) (take n es)
  pub event : Event
  pub there : slice_get es n ≡ Some event
  pub not : ¬ MayCome s (run_state_of s (take n es)) event

-- The events behind so many registrations are legal, and complete or not; or they stop being so with a line.
abbrev pub IsEventAudit : Script → ℕ → List Event → Audit → Type 0
IsEventAudit s boots es (Legal complete) =
    AllMayCome s (opening_run s) es × (IsTrue complete ↔ ((t : ℕ) → t < length s.tasks → turn_of s (run_state_of s es).progress t ≡ turn.Finished))
IsEventAudit s boots es (Wrong line) = (n : ℕ) × StopsAt s es n × (line ≡ boots + n + 1)
