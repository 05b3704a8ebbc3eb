use Rattle.std.proofs.Common.{◌≡◌, ◌++◌}
use Rattle.mf_chains.specs.Happenings.{coming_at, relabelling}
use Rattle.mf_chains.specs.Pasts.{with_more}
use Rattle.mf_chains.proofs.Walking.{so_far}
use Rattle.mf_chains.proofs.pasts.settle_each.Given as goal

abbrev pub invariant-loop-place : goal.invariant-loop-place
invariant-loop-place l =
    l.pasts.items ≡ so_far (with_more (λ r. coming_at r l.objects l.event l.maker l.next ++ relabelling r l.objects l.event l.asked)) l.initial.pasts.items l.place
