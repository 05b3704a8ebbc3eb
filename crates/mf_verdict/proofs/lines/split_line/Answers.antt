use Rattle.mf_verdict.proofs.Walks.{split_some}
use Rattle.mf_verdict.proofs.lines.split_line.Goals as goal

pub returns-in-Some-clause-first : goal.returns-in-Some-clause-first
returns-in-Some-clause-first c =
    split_some c.args.text.now c.in-Some.front.now c.in-Some._after.now c.split_at.result.0.now c.split_at.result.1.now c.in-Some.ensures.0 c.in-Some.ensures.1 c.split_at.ensures.front c.split_at.ensures.by_index.0
