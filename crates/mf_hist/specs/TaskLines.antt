-- What the lines of a task's events have in common, by its name: this model's own.
use Rattle.std.specs.Prelude.{ℕ, List, ◌++◌, codes}
use Rattle.mf_core.specs.declared.history.Event.{Event}
use Rattle.mf_core.specs.declared.history.Event.TheVariants as event

-- the lines that begin and end an entry, and what stands in front of the number of a line that is done
pub record TaskLines : Type 0 where
  pub enter : List ℕ
  pub done : List ℕ
  pub leave : List ℕ

abbrev pub task_lines : List ℕ → TaskLines
task_lines name = record { enter = codes "enter " ++ name ++ codes "\n"; done = codes "done " ++ name ++ codes " "; leave = codes "leave " ++ name ++ codes "\n" }

abbrev pub task_of : Event → ℕ
task_of (event.Enter t) = t
task_of (event.Done t line reply) = t
task_of (event.Leave t) = t
task_of (event.Changed t line reply) = t
