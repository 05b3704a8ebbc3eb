use Rattle.std.proofs.Common.{◌≡◌, ◌+◌, ◌++◌, map, take, drop}
use Rattle.mf_objects.specs.Sound.{open_count}
use Rattle.mf_objects.proofs.Closing.{closing}
use Rattle.mf_objects.proofs.objects.descriptors.close_on.Given as goal

abbrev pub invariant-loop-entity : goal.invariant-loop-entity
invariant-loop-entity l =
    (l.entities ≡ map (closing l.file) (take l.entity-index l.initial.entities) ++ drop l.entity-index l.initial.entities)
    × (open_count l.entities + l.closed ≡ open_count l.initial.entities)
