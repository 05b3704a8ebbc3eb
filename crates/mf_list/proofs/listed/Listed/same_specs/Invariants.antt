use Rattle.std.proofs.Common.{◌≡◌, take, length}
use Rattle.mf_list.proofs.listed.Listed.same_specs.Given as goal

abbrev pub invariant-loop-place : goal.invariant-loop-place
invariant-loop-place g l = (take l.place l.self ≡ take l.place l.specs) × (length l.self ≡ length l.specs)
