use Rattle.std.proofs.Common.{◌≡◌, ◌+◌, ◌≤◌, take}
use Rattle.std.specs.Prelude.{fold}
use Rattle.mf_calls.specs.declared.limits.TheConstants.{FILE_LIMIT}
use Rattle.mf_core.specs.Opening.{with_task}
use Rattle.mf_audit.proofs.opening.add_tasks.Given as goal

abbrev pub invariant-loop-task : goal.invariant-loop-task
invariant-loop-task l = record {
  value : l.parties ≡ fold (with_task l.listed) l.fn.parties (take l.task-index l.task-items);
  ids : l.parties.next ≤ 1 + FILE_LIMIT + l.task-index;
}
