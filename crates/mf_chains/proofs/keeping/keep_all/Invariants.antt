use Rattle.std.proofs.Common.{◌≡◌, ◌≤◌, length, reverse, take}
use Rattle.mf_objects.specs.declared.id.Id.{Id}
use Rattle.mf_chains.specs.Kept.{additions, kept}
use Rattle.mf_chains.specs.Marks.{AllAreThere, kept_at}
use Rattle.mf_chains.proofs.keeping.keep_all.Given as goal

abbrev pub invariant-loop-occurrence : goal.invariant-loop-occurrence
invariant-loop-occurrence l =
    AllAreThere l.links l.sets
    × ((p : Id) → kept_at l.links l.sets p ≡ kept (reverse (take l.occurrence-index l.past)) p)
    × (length l.links ≡ additions (reverse (take l.occurrence-index l.past)))
    × (length l.links ≤ l.most)
