use Rattle.std.proofs.Common.{◌≡◌, ℕ, List, map, take, Bor}
use Rattle.mf_objects.proofs.objects.naming.listed.Given as goal

abbrev pub invariant-loop-name : goal.invariant-loop-name
invariant-loop-name l = l.list ≡ map (λ (name : Bor (List ℕ)). name.now) (take l.name-index l.names)
