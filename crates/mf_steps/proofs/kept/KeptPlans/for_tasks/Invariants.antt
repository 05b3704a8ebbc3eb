use Rattle.std.proofs.Common.{◌≡◌, map, take, None}
use Rattle.mf_steps.specs.PlanRoom.{kept_in}
use Rattle.mf_steps.proofs.kept.KeptPlans.for_tasks.Given as goal

abbrev pub invariant-loop-task : goal.invariant-loop-task
invariant-loop-task l = map kept_in l.rooms.items ≡ map (λ task. None) (take l._task-index l._task-items)
