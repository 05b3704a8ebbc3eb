use Rattle.std.proofs.Common.{◌≡◌, ◌++◌, map, take}
use Rattle.mf_matrix.specs.Matrix.{pair}
use Rattle.mf_matrix.proofs.pairs.push_pairs.Given as goal

abbrev pub invariant-loop-object : goal.invariant-loop-object
invariant-loop-object l = l.pairs.items ≡ l.fn.pairs.items ++ map (pair l.subject) (take l.object-index l.parties)
