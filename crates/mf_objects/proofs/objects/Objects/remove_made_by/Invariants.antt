use Rattle.std.proofs.Common.{◌-◌}
use Rattle.mf_objects.proofs.Removing.{IsRemoving}
use Rattle.mf_objects.proofs.objects.Objects.remove_made_by.Given as goal

abbrev pub decreases-loop-place : goal.decreases-loop-place
decreases-loop-place l = l.len - l.place

abbrev pub invariant-loop-place : goal.invariant-loop-place
invariant-loop-place l = IsRemoving l.initial.self l.maker l.self l.place l.len
