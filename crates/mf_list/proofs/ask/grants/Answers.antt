use Rattle.std.proofs.Common.{length-set, arith, ap, ◌∙◌}
use Rattle.mf_list.specs.Asked.{grant_of}
use Rattle.mf_list.proofs.Steps.{filled_more}
use Rattle.mf_list.proofs.ask.grants.Goals as goal

pub loop-place-preserved : goal.loop-place-preserved
loop-place-preserved g c =
    let place = c.loop-place.place in
    let policy = c.policy.result.now in
    record {
      room = length-set c.loop-place.grants place c.grants.result ∙ c.loop-place.invariant.room;
      few = c.loop-place.invariant.few;
      so_far = filled_more (grant_of c.args.item.now.privilege c.args.item.now.subject.cred) c.args.listed.now c.loop-place.grants place policy c.grants.result
          (omega (arith, c.loop-place-test.true, c.len-place-end.ensures.value))
          (omega (arith, c.loop-place-test.true, c.len-place-end.ensures.value, c.loop-place.invariant.few, c.loop-place.invariant.room))
          c.loop-place.invariant.so_far
          (c.grants.ensures ∙ ap (grant_of c.args.item.now.privilege c.args.item.now.subject.cred) (c.policy.ensures policy));
    }
