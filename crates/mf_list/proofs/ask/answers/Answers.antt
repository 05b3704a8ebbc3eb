use Rattle.std.proofs.Common.{length-set, arith, ap, ◌∙◌}
use Rattle.mf_list.specs.Asked.{answer_of}
use Rattle.mf_list.proofs.Steps.{filled_more}
use Rattle.mf_list.proofs.ask.answers.Goals as goal

pub loop-place-preserved : goal.loop-place-preserved
loop-place-preserved g c =
    let place = c.loop-place.place in
    let policy = c.policy.result.now in
    record {
      room = length-set c.loop-place.answers place c.check.result ∙ c.loop-place.invariant.room;
      few = c.loop-place.invariant.few;
      so_far = filled_more (answer_of c.args.item.now) c.args.listed.now c.loop-place.answers place policy c.check.result
          (omega (arith, c.loop-place-test.true, c.len-place-end.ensures.value))
          (omega (arith, c.loop-place-test.true, c.len-place-end.ensures.value, c.loop-place.invariant.few, c.loop-place.invariant.room))
          c.loop-place.invariant.so_far
          (c.check.ensures ∙ ap (answer_of c.args.item.now) (c.policy.ensures policy));
    }
