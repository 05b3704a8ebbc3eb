use Rattle.std.proofs.Common.{◌≡◌, ℕ, ◌<◌, ◌≤◌, List, length, get_or, map, true, Bor}
use Rattle.mf_objects.specs.Names.{comes_first}
use Rattle.mf_objects.proofs.FirstNames.{texts}
use Rattle.mf_objects.proofs.objects.naming.place_of_name.Given as goal

abbrev pub invariant-loop-place : goal.invariant-loop-place
invariant-loop-place l =
    record {
      within : l.place ≤ length l.names;
      behind : (d : List ℕ) → l.place < length l.names → comes_first l.name (get_or (texts l.names) l.place d) ≡ true;
    }

abbrev pub decreases-loop-place : goal.decreases-loop-place
decreases-loop-place l = l.place
