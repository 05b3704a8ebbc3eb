-- What is true of every legal history of a well-formed script.
use Rattle.std.specs.Prelude.{◌≡◌, ◌≢◌, ℕ, List, ◌∷◌, ◌++◌, All}
use Rattle.mf_policy.specs.Registration.{Entry}
use Rattle.mf_calls.specs.declared.script.Script.{Script}
use Rattle.mf_calls.specs.WellFormed.{IsWellFormed}
use Rattle.mf_core.specs.declared.history.Event.{Event}
use Rattle.mf_core.specs.declared.history.Event.TheVariants.{Enter, Leave}
use Rattle.mf_core.specs.declared.history.History.{History}
use Rattle.mf_core.specs.LegalHistory.{run_state_of, IsLegal}

-- the listed policies with their specs after these events
abbrev pub specs_after : Script → List Event → List Entry
specs_after s es = (run_state_of s es).state.specs

-- From a task's Enter to its Leave the listed policies with their specs stay as they were before: after any events since the Enter of which
-- none is the task's Leave, they are the same.
abbrev pub PoliciesStayInEntries : Type 0
PoliciesStayInEntries = (s : Script) (h : History) (t : ℕ) (before since later : List Event) → IsWellFormed s → IsLegal s h
    → h.events.list ≡ before ++ Enter t ∷ (since ++ later) → All (λ e. e ≢ Leave t) since
    → specs_after s (before ++ Enter t ∷ since) ≡ specs_after s before
