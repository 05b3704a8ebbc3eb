-- How a plan ends; inner contracts alone cite this.
use Rattle.std.specs.Prelude.{ℕ, List, [], Result, Ok, Err}
use Rattle.mf_errno.specs.declared.errno.Errno.{Errno}
use Rattle.mf_objects.specs.declared.id.Id.{Id}
use Rattle.mf_calls.specs.declared.script.Call.{Call}
use Rattle.mf_plan.specs.declared.outline.Check.{Check}
use Rattle.mf_plan.specs.declared.plan.Tail.{Tail}
use Rattle.mf_plan.specs.declared.plan.Tail.TheVariants.{Do, Refuse}
use Rattle.mf_plan.specs.declared.state.State.{State}
use Rattle.mf_plan.specs.Row.{Row}
use Rattle.mf_plan.specs.Rows.{about_of}

-- the checks of a call, and its end
pub record Ended : Type 0 where
  pub checks : List Check
  pub tail : Tail

abbrev pub tail_of : {A : Type 0} → Result A Errno → Tail
tail_of (Ok place) = Do
tail_of (Err e) = Refuse e

-- with these checks, and this end
abbrev pub ended_by : {A : Type 0} → List Check → Result A Errno → Ended
ended_by checks end = record { checks = checks; tail = tail_of end }

abbrev pub end_in : Row → Ended
end_in row = record { checks = row.checks; tail = row.tail }

-- the checks and the end of a call of this process of the task, as its row has them
abbrev pub end_by : State → List ℕ → Id → Call → Ended
end_by s task me c = end_in (about_of s task me c).whole

-- of a call that goes by no name of its task: of any but `fork`
abbrev pub end_for : State → Id → Call → Ended
end_for s me c = end_by s [] me c
