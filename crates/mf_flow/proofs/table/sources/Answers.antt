use Rattle.mf_flow.proofs.Dominating.{in_order}
use Rattle.mf_flow.proofs.Followed.{where_ok}
use Rattle.mf_flow.proofs.table.sources.Goals as goal

pub returns-then-is_empty-clause-order : goal.returns-then-is_empty-clause-order
returns-then-is_empty-clause-order c = in_order c.args.script.now c.args.history.now c.requires.formed c.requires.legal

pub returns-clause-order : goal.returns-clause-order
returns-clause-order c = where_ok c.sources_along.result (in_order c.args.script.now c.args.history.now c.requires.formed c.requires.legal)
