use Rattle.mf_hist.proofs.Semicolons.{begins, fewer}
use Rattle.mf_hist.proofs.rules.rules.Goals as goal

pub loop-more-init : goal.loop-more-init
loop-more-init c = begins c.next.result c.is_some-more.result c.in_ok-rules.rules c.args.words.now c.next.new.self c.next.ensures.words c.is_some-more.ensures c.in_ok-rules.ensures

pub loop-more-smaller : goal.loop-more-smaller
loop-more-smaller c = fewer c.loop-more.more c.in-Ok.semicolon c.loop-more.words c.add_next.new.words c.loop-more-test.true c.in-Ok.ensures.less
