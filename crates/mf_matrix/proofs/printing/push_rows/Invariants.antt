use Rattle.std.proofs.Common.{◌≡◌, ◌++◌, List, ℕ, map, take, string_bytes}
use Rattle.std.specs.List.{flat_map}
use Rattle.mf_policy.specs.Registration.{Entry}
use Rattle.mf_matrix.specs.Matrix.{row_of}
use Rattle.mf_matrix.specs.MatrixText.{row_text}
use Rattle.mf_matrix.proofs.printing.push_rows.Given as goal

abbrev pub invariant-loop-place : goal.invariant-loop-place
invariant-loop-place l =
    ((listed : List Entry) → l.rows ≡ map (row_of listed) l.pairs → string_bytes l.text ≡ string_bytes l.fn.text ++ flat_map (row_text listed) (take l.place l.pairs))
    × ((more : List ℕ) × (string_bytes l.text ≡ string_bytes l.fn.text ++ more))
