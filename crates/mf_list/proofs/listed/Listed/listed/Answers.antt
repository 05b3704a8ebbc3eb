use Rattle.std.proofs.Common.{arith, ap, ◌∙◌}
use Rattle.mf_policy.specs.Registration.{Entry}
use Rattle.mf_list.proofs.Steps.{pushed_more}
use Rattle.mf_list.proofs.listed.Listed.listed.Goals as goal

pub loop-place-preserved : goal.loop-place-preserved
loop-place-preserved g c =
    let policy = c.policy.result.now in
    record {
      few = c.loop-place.invariant.few;
      so_far = c.push.ensures
          ∙ pushed_more (λ (e : Entry). e.0) c.args.self.now c.loop-place.registrations c.loop-place.place policy c.registration.result
          (omega (arith, c.loop-place-test.true, c.len-place-end.ensures.value))
          c.loop-place.invariant.so_far
          (c.registration.ensures.value ∙ ap (λ (e : Entry). e.0) (c.policy.ensures policy));
    }
