-- Names of processes, which are this model's own.
use Rattle.std.specs.Prelude.{ℕ, List, ◌++◌, Option, Some, None, codes}

-- the full name of a task's child
abbrev pub child_name : List ℕ → List ℕ → List ℕ
child_name task child = task ++ codes "." ++ child

-- the full name of the process that makes a call: the task's own, or a child of it
abbrev pub caller_name : List ℕ → Option (List ℕ) → List ℕ
caller_name task None = task
caller_name task (Some child) = child_name task child
