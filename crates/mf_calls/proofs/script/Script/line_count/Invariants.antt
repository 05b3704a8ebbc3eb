use Rattle.std.proofs.Common.{◌≡◌, ◌≤◌, ◌*◌, take}
use Rattle.std.specs.List.{sum_by}
use Rattle.mf_calls.specs.WellFormed.{line_count}
use Rattle.mf_calls.proofs.script.Script.line_count.Given as goal

abbrev pub invariant-loop-task : goal.invariant-loop-task
invariant-loop-task l = record {
  value : l.count ≡ sum_by line_count (take l.task-index l.task-items);
  most : l.count ≤ 4096 * l.task-index;
}
