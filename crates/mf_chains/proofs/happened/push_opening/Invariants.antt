use Rattle.std.proofs.Common.{◌≡◌, ◌++◌, None}
use Rattle.std.specs.List.{flat_map, range_with_len}
use Rattle.mf_chains.specs.Happenings.{coming_at}
use Rattle.mf_chains.proofs.happened.push_opening.Given as goal

abbrev pub invariant-loop-number : goal.invariant-loop-number
invariant-loop-number l = l.past ≡ l.initial.past ++ flat_map (coming_at l.registration l.objects 0 None) (range_with_len 0 l.number)
