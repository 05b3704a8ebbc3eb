use Rattle.std.proofs.Common.{◌≡◌, ℕ, List, map, take, Bor}
use Rattle.mf_objects.specs.declared.limits.TheConstants.{MOST_NAMES}
use Rattle.mf_objects.specs.Titles.{in_byte_order}
use Rattle.mf_objects.proofs.Naming.{raw_names}
use Rattle.mf_objects.proofs.objects.naming.entry_names.Given as goal

abbrev pub invariant-loop-entity : goal.invariant-loop-entity
invariant-loop-entity l =
    map (λ (name : Bor (List ℕ)). name.now) l.names.items ≡ take MOST_NAMES (in_byte_order (raw_names l.dir (take l.entity-index l.entities)))
