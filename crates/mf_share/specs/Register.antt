-- The rule of the register of plans, and what its step tells.
use Rattle.std.specs.Prelude.{ℕ, ◌≡◌, ◌==◌, true, List, [], ◌∷◌, ◌++◌, length, slice_get, MatchBool, Some}
use Rattle.logbook.specs.Pages.{Cell, Step, View, Book, Named}
use Rattle.mf_plan.specs.Planned.{Plan}
use Rattle.mf_core.specs.CoreView.{CoreView, run_state}
use Rattle.mf_core.specs.Next.{next_plan}

-- The first word is the number of plans. A book has two words, of which this one leaves the second at 0.
abbrev pub IsKept : List Cell → List Plan → Type 0
IsKept cells plans = cells ≡ (length plans, true) ∷ (0, true) ∷ []

-- the register that stands for none
abbrev pub no_register : Book
no_register = record { number = 0; log_name = 0; cells_name = 0 }

-- the word of a register
abbrev pub word_of : Book → Named
word_of b = record { tracked = true; key = 0; book = b }

-- the plan was added to all that had been seen; or there were more, and they were seen
abbrev pub Adds : Step Plan → View Plan ℕ → ℕ → View Plan ℕ → Type 0
Adds s v found w = MatchBool (found == s.old) (w.0 ≡ v.0 ++ s.ask ∷ []) (length w.0 ≡ found)

-- the plan of the task's next call is the one with that number
pub record IsNoted (run : CoreView) (plans : List Plan) (task number : ℕ) : Type 0 where
  pub plan : Plan
  pub numbered : slice_get plans number ≡ Some plan
  pub next : next_plan run.script (run_state run) task ≡ Some plan
