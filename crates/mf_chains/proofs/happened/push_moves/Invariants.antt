use Rattle.std.proofs.Common.{◌≡◌, ◌++◌, map, take}
use Rattle.std.specs.Option.{option_copied}
use Rattle.mf_objects.specs.declared.descriptors.Fd.{Fd}
use Rattle.mf_plan.specs.Outline.{item_of}
use Rattle.mf_chains.specs.Happenings.{moving_from}
use Rattle.mf_chains.proofs.happened.push_moves.Given as goal

abbrev pub invariant-loop-place : goal.invariant-loop-place
invariant-loop-place l =
    l.past ≡ l.initial.past ++ moving_from l.registration l.state (option_copied {T = Fd} l.fd) l.event 1 (map (item_of l.state.objects) (take l.place l.checks))
