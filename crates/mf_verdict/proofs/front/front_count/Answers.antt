use Rattle.std.proofs.Common.{◌≢◌, [], length, ap, arith}
use Rattle.mf_hist.proofs.ReadLines.{nonempty}
use Rattle.mf_verdict.proofs.Pieces.{first_of_some}
use Rattle.mf_verdict.proofs.front.front_count.Goals as goal

pub loop-rest-preserved : goal.loop-rest-preserved
loop-rest-preserved c =
    let some : c.loop-rest.rest.now ≢ [] = nonempty c.loop-rest.rest.now c.loop-rest-test.ensures in
    let first = first_of_some c.loop-rest.rest.now c.split_line.result.0.now c.split_line.result.1.now some c.split_line.ensures.first in
    record {
      counted = omega (arith, c.loop-rest.invariant.counted, ap length first.lines);
      lists = omega (arith, c.loop-rest.invariant.lists, c.rule_lists-lists.ensures);
    }
