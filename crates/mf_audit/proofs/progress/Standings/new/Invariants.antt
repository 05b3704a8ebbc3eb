use Rattle.std.proofs.Common.{◌≡◌, map, take}
use Rattle.mf_core.specs.Progress.{first_progress}
use Rattle.mf_audit.proofs.progress.Standings.new.Given as goal

abbrev pub invariant-loop-task : goal.invariant-loop-task
invariant-loop-task l = l.items.items ≡ map (λ t. first_progress) (take l._task-index l._task-items)
