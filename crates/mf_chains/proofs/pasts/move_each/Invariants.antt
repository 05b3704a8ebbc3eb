use Rattle.std.proofs.Common.{◌≡◌, map}
use Rattle.std.specs.Option.{option_copied}
use Rattle.mf_objects.specs.declared.descriptors.Fd.{Fd}
use Rattle.mf_plan.specs.Outline.{item_of}
use Rattle.mf_chains.specs.Happenings.{moving_from}
use Rattle.mf_chains.specs.Pasts.{with_more}
use Rattle.mf_chains.proofs.Walking.{so_far}
use Rattle.mf_chains.proofs.pasts.move_each.Given as goal

abbrev pub invariant-loop-place : goal.invariant-loop-place
invariant-loop-place l =
    l.pasts.items ≡ so_far (with_more (λ r. moving_from r l.state (option_copied {T = Fd} l.fd) l.event 1 (map (item_of l.state.objects) l.checks))) l.initial.pasts.items l.place
