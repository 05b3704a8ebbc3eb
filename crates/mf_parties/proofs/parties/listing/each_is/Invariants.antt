use Rattle.std.proofs.Common.{◌≡◌, ℕ, List, map, take, Bor}
use Rattle.mf_parties.proofs.parties.listing.each_is.Given as goal

abbrev pub invariant-loop-place : goal.invariant-loop-place
invariant-loop-place l = take l.place l.given ≡ map (λ (name : Bor (List ℕ)). name.now) (take l.place l.names)
