use Rattle.std.proofs.Common.{◌≡◌}
use Rattle.mf_calls.specs.Generated.{load_tasks}
use Rattle.mf_calls.proofs.generated.load_tasks.Given as goal

abbrev pub invariant-loop-task : goal.invariant-loop-task
invariant-loop-task l = record { so_far : l.list ≡ load_tasks l.lines l.task }
