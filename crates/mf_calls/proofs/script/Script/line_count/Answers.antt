use Rattle.std.proofs.Common.{◌≤◌, ap, subst, refl, length, arith, slice_get, List, option_map, unwrap_or, Option, [], sym}
use Rattle.std.proofs.lemmas.List.Sums.{sum_by_more}
use Rattle.std.proofs.lemmas.Option.{slice_get_read}
use Rattle.mf_calls.specs.declared.script.Task.{Task}
use Rattle.mf_calls.specs.WellFormed.{line_count}
use Rattle.mf_calls.proofs.TaskLaws.{task_lines}
use Rattle.mf_calls.proofs.script.Script.line_count.Goals as goal

pub loop-task-preserved : goal.loop-task-preserved
loop-task-preserved c =
    let xs = c.as_slice-task-items.result.now in
    let more = sum_by_more line_count xs c.loop-task.task-index c.task-item.result (omega arith) in
    let here = slice_get_read xs (length xs) c.loop-task.task-index c.task-item.result refl (omega arith) c.task-item.is in
    let P : List Task → Type 0 = λ tasks. length (unwrap_or (option_map (λ (task : Task). task.lines) (slice_get tasks c.loop-task.task-index)) []) ≤ 4096 in
    let Q : Option Task → Type 0 = λ task. length (unwrap_or (option_map (λ (task : Task). task.lines) task) []) ≤ 4096 in
    let few : length c.task-item.result.lines ≤ 4096 = subst Q here (subst P (sym c.as_slice-task-items.ensures) (task_lines _ c.requires c.loop-task.task-index)) in
    record {
      value = omega (arith, more, c.loop-task.invariant.value, c.len-count.ensures, ap line_count c.task-item.is);
      most = omega (arith, few, c.len-count.ensures, c.loop-task.invariant.most);
    }
