use Rattle.std.proofs.Common.{◌≡◌, map, take}
use Rattle.mf_calls.specs.declared.script.Task.{Task}
use Rattle.mf_hist.specs.TaskLines.{task_lines}
use Rattle.mf_hist.proofs.task_lines.lines_of_tasks.Given as goal

abbrev pub invariant-loop-task : goal.invariant-loop-task
invariant-loop-task l = l.lines.items ≡ map (λ (task : Task). task_lines task.name) (take l.task-index l.script.tasks)
