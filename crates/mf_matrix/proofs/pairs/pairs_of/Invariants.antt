use Rattle.std.proofs.Common.{◌≡◌, map, take}
use Rattle.std.specs.Prelude.{filter}
use Rattle.std.specs.List.{flat_map}
use Rattle.mf_matrix.specs.Matrix.{is_process, pair}
use Rattle.mf_matrix.proofs.pairs.pairs_of.Given as goal

abbrev pub invariant-loop-subject : goal.invariant-loop-subject
invariant-loop-subject l = l.pairs.items ≡ flat_map (λ p. map (pair p) l.parties) (filter is_process (take l.subject-index l.parties))
