use Rattle.std.proofs.Common.{List, ℕ, take, string_bytes}
use Rattle.std.specs.List.{flat_map}
use Rattle.mf_text.proofs.Appending.{extends_behind, on_err}
use Rattle.mf_spelling.specs.Canonical.{task_text}
use Rattle.mf_spelling.proofs.printing.push_tasks.Goals as goal

pub returns-in_err-push_whole_task-clause-err : goal.returns-in_err-push_whole_task-clause-err
returns-in_err-push_whole_task-clause-err c =
    let front : List ℕ = string_bytes c.args.out.now in
    let so_far : List ℕ = flat_map task_text (take c.loop-task.task-index c.args.tasks.now) in
    on_err c.from_residual.result
    (extends_behind front so_far (string_bytes c.loop-task.out) (string_bytes c.push_whole_task.new.out) c.loop-task.invariant c.in_err-push_whole_task.ensures.err)
