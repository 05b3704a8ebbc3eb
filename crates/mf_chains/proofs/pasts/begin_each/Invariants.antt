use Rattle.std.proofs.Common.{◌≡◌}
use Rattle.mf_chains.specs.Happenings.{opening_happenings}
use Rattle.mf_chains.specs.Pasts.{with_more}
use Rattle.mf_chains.proofs.Walking.{so_far}
use Rattle.mf_chains.proofs.pasts.begin_each.Given as goal

abbrev pub invariant-loop-place : goal.invariant-loop-place
invariant-loop-place l = l.pasts.items ≡ so_far (with_more (λ r. opening_happenings r l.objects)) l.initial.pasts.items l.place
