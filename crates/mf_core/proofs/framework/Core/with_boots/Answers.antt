use Rattle.mf_core.proofs.Laws.{progress_at-first}
use Rattle.mf_core.proofs.Consistency.{consistent_first}
use Rattle.mf_core.proofs.Counts.{none_done, none_opened}
use Rattle.mf_core.proofs.framework.Core.with_boots.Goals as goal

pub invariant_of-result : goal.invariant_of-result
invariant_of-result c =
    rw c.in_ok-run.ensures (consistent_first c.args.script.now _ c.line_count.result c.requires.formed c.requires.boots c.in_ok-events.ensures c.line_count.ensures.value)

pub returns-clause-progress : goal.returns-clause-progress
returns-clause-progress c = λ t. rw (c.in_ok-events.ensures, c.in_ok-run.ensures) (progress_at-first c.args.script.now.tasks t)

pub returns-clause-entries : goal.returns-clause-entries
returns-clause-entries c = rw (c.in_ok-events.ensures, c.in_ok-run.ensures) (none_opened c.args.script.now.tasks)

pub returns-clause-lines : goal.returns-clause-lines
returns-clause-lines c = rw (c.in_ok-events.ensures, c.in_ok-run.ensures) (none_done c.args.script.now.tasks)
