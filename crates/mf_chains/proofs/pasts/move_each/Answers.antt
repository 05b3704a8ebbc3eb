use Rattle.std.proofs.Common.{arith, map}
use Rattle.std.specs.Option.{option_copied}
use Rattle.mf_objects.specs.declared.descriptors.Fd.{Fd}
use Rattle.mf_plan.specs.Outline.{item_of}
use Rattle.mf_chains.specs.Happenings.{moving_from}
use Rattle.mf_chains.specs.Pasts.{with_more}
use Rattle.mf_chains.proofs.Walking.{one_more}
use Rattle.mf_chains.proofs.pasts.move_each.Goals as goal

pub loop-place-preserved : goal.loop-place-preserved
loop-place-preserved c =
    one_more (with_more (λ r. moving_from r c.args.state.now (option_copied {T = Fd} c.args.fd) c.args.event 1 (map (item_of c.args.state.now.objects) c.args.checks.now)))
    c.args.pasts.now.items c.loop-place.pasts.items c.loop-place.place c.index_mut.result.now c.move_by.new.self
    (omega (arith, c.len-place-end.ensures)) c.loop-place.invariant c.index_mut.ensures.value c.in_ok-move_by.ensures
