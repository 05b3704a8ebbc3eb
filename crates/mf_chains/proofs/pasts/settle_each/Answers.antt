use Rattle.std.proofs.Common.{◌++◌, arith}
use Rattle.mf_chains.specs.Happenings.{coming_at, relabelling}
use Rattle.mf_chains.specs.Pasts.{with_more}
use Rattle.mf_chains.proofs.Walking.{one_more}
use Rattle.mf_chains.proofs.pasts.settle_each.Goals as goal

pub loop-place-preserved : goal.loop-place-preserved
loop-place-preserved c =
    one_more (with_more (λ r. coming_at r c.args.objects.now c.args.event c.args.maker c.args.next ++ relabelling r c.args.objects.now c.args.event c.args.asked.now))
    c.args.pasts.now.items c.loop-place.pasts.items c.loop-place.place c.index_mut.result.now c.settle.new.self
    (omega (arith, c.len-place-end.ensures)) c.loop-place.invariant c.index_mut.ensures.value c.in_ok-settle.ensures
