use Rattle.std.proofs.Common.{◌≡◌, true, take}
use Rattle.std.specs.List.{list_all}
use Rattle.mf_matrix.specs.Passing.{lets_pass}
use Rattle.mf_matrix.proofs.passing.all_let_pass.Given as goal

abbrev pub invariant-loop-place : goal.invariant-loop-place
invariant-loop-place l = list_all (lets_pass l.item) (take l.place l.listed) ≡ true
