use Rattle.std.proofs.Common.{sym, ◌∙◌}
use Rattle.mf_calls.proofs.LoadSteps.{no_tasks, tasks_next}
use Rattle.mf_calls.proofs.generated.load_tasks.Goals as goal

pub loop-task-init : goal.loop-task-init
loop-task-init c = record { so_far = c.new-list.ensures ∙ sym (no_tasks c.args.lines) }

pub loop-task-preserved : goal.loop-task-preserved
loop-task-preserved c = record { so_far = cc (tasks_next c.args.lines c.loop-task.task, c.in_ok-push.ensures.ok, c.in_ok-next.ensures) }
