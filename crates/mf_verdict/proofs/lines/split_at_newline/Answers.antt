use Rattle.mf_hist.proofs.ReadLines.{lacks_more}
use Rattle.mf_verdict.proofs.lines.split_at_newline.Goals as goal

pub loop-i-preserved : goal.loop-i-preserved
loop-i-preserved c = lacks_more c.args.text.now c.loop-i.i c.loop-i-test.true c.loop-i.invariant c.if-byte-eq10.false
