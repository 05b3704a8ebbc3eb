use Rattle.std.proofs.Common.{arith}
use Rattle.mf_chains.specs.Happenings.{opening_happenings}
use Rattle.mf_chains.specs.Pasts.{with_more}
use Rattle.mf_chains.proofs.Walking.{one_more}
use Rattle.mf_chains.proofs.pasts.begin_each.Goals as goal

pub loop-place-preserved : goal.loop-place-preserved
loop-place-preserved c =
    one_more (with_more (λ r. opening_happenings r c.args.objects.now)) c.args.pasts.now.items c.loop-place.pasts.items c.loop-place.place c.index_mut.result.now c.begin.new.self
    (omega (arith, c.len-place-end.ensures)) c.loop-place.invariant c.index_mut.ensures.value c.in_ok-begin.ensures
