use Rattle.std.proofs.Common.{sym, ◌∙◌}
use Rattle.mf_calls.proofs.LoadSteps.{no_files, files_next}
use Rattle.mf_calls.proofs.generated.load_files.Goals as goal

pub loop-task-init : goal.loop-task-init
loop-task-init c = record { so_far = c.new-files.ensures ∙ sym no_files }

pub loop-task-preserved : goal.loop-task-preserved
loop-task-preserved c =
    record { so_far = cc (files_next c.loop-task.task, c.in_ok-push-2.ensures.ok, c.in_ok-push.ensures.ok, c.in_ok-file.ensures, c.in_ok-directory.ensures) }
