use Rattle.std.proofs.Common.{◌≢◌, ◌<◌, ◌∙◌, [], length, take, arith}
use Rattle.mf_verdict.specs.Pieces.{pieces}
use Rattle.mf_verdict.proofs.Pieces.{first_of_some}
use Rattle.mf_verdict.proofs.Walks.{at_more, at_more_front, front_more, left_some, next_is}
use Rattle.mf_verdict.proofs.lines.first_lines.Goals as goal

pub loop-line-preserved : goal.loop-line-preserved
loop-line-preserved c =
    let within : c.loop-line._line < length (pieces c.args.text.now) = omega (arith, c.loop-line-test.true, c.requires) in
    let some : c.loop-line.rest.now ≢ [] = left_some (pieces c.args.text.now) c.loop-line._line c.loop-line.rest.now within c.loop-line.invariant.left in
    let first = first_of_some c.loop-line.rest.now c.split_line.result.0.now c.split_line.result.1.now some c.split_line.ensures.first in
    let next = next_is (pieces c.args.text.now) c.loop-line._line c.loop-line.rest.now c.split_line.result.0.now c.split_line.result.1.now c.loop-line.invariant.left c.split_line.ensures.first in
    record {
      place = at_more c.args.text.now c.loop-line.rest.now c.split_line.result.0.now c.split_line.result.1.now c.loop-line.len c.loop-line.invariant.place first.parts;
      passed = at_more_front c.args.text.now c.loop-line.rest.now c.split_line.result.0.now c.split_line.result.1.now c.loop-line.len c.loop-line.invariant.place first.parts
          ∙ front_more (pieces c.args.text.now) c.loop-line._line (take c.loop-line.len c.args.text.now) c.split_line.result.0.now c.split_line.result.1.now within c.loop-line.invariant.passed next;
      left = next.left;
    }
