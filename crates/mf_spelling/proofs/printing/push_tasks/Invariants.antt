use Rattle.std.proofs.Common.{◌≡◌, ◌++◌, take, string_bytes}
use Rattle.std.specs.List.{flat_map}
use Rattle.mf_spelling.specs.Canonical.{task_text}
use Rattle.mf_spelling.proofs.printing.push_tasks.Given as goal

abbrev pub invariant-loop-task : goal.invariant-loop-task
invariant-loop-task l = string_bytes l.out ≡ string_bytes l.fn.out ++ flat_map task_text (take l.task-index l.tasks)
