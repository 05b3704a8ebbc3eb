use Rattle.std.proofs.Common.{◌≢◌, [], take, sym, subst}
use Rattle.mf_hist.proofs.ReadLines.{nonempty}
use Rattle.mf_verdict.proofs.Pieces.{ArePassed, first_of_some, passed_more, source_next, rest_is}
use Rattle.mf_verdict.proofs.Walks.{at_more, at_more_front}
use Rattle.mf_verdict.proofs.lines.split_sources.Goals as goal

pub returns-then-starts_with-clause-history : goal.returns-then-starts_with-clause-history
returns-then-starts_with-clause-history c =
    let some : c.loop-rest.rest.now ≢ [] = nonempty c.loop-rest.rest.now c.loop-rest-test.ensures in
    let first = first_of_some c.loop-rest.rest.now c.split_line.result.0.now c.split_line.result.1.now some c.split_line.ensures.first in
    sym (source_next c.args.text.now (take c.loop-rest.len c.args.text.now) c.loop-rest.rest.now c.split_line.result.0.now c.split_line.result.1.now c.loop-rest.invariant.passed some first
    (sym c.if-starts_with.ensures.value))

pub returns-then-starts_with-clause-sources : goal.returns-then-starts_with-clause-sources
returns-then-starts_with-clause-sources c =
    let some : c.loop-rest.rest.now ≢ [] = nonempty c.loop-rest.rest.now c.loop-rest-test.ensures in
    let first = first_of_some c.loop-rest.rest.now c.split_line.result.0.now c.split_line.result.1.now some c.split_line.ensures.first in
    sym (rest_is c.args.text.now (take c.loop-rest.len c.args.text.now) c.loop-rest.rest.now c.loop-rest.invariant.passed.lines
    (source_next c.args.text.now (take c.loop-rest.len c.args.text.now) c.loop-rest.rest.now c.split_line.result.0.now c.split_line.result.1.now c.loop-rest.invariant.passed some first
    (sym c.if-starts_with.ensures.value)))

pub loop-rest-preserved : goal.loop-rest-preserved
loop-rest-preserved c =
    let some : c.loop-rest.rest.now ≢ [] = nonempty c.loop-rest.rest.now c.loop-rest-test.ensures in
    let first = first_of_some c.loop-rest.rest.now c.split_line.result.0.now c.split_line.result.1.now some c.split_line.ensures.first in
    record {
      place = at_more c.args.text.now c.loop-rest.rest.now c.split_line.result.0.now c.split_line.result.1.now c.loop-rest.len c.loop-rest.invariant.place first.parts;
      passed = subst (λ front. ArePassed c.args.text.now front c.split_line.result.1.now)
          (sym (at_more_front c.args.text.now c.loop-rest.rest.now c.split_line.result.0.now c.split_line.result.1.now c.loop-rest.len c.loop-rest.invariant.place first.parts))
          (passed_more c.args.text.now (take c.loop-rest.len c.args.text.now) c.loop-rest.rest.now c.split_line.result.0.now c.split_line.result.1.now c.loop-rest.invariant.passed some first
          (sym c.if-starts_with.ensures.value));
    }
