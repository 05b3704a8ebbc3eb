use Rattle.std.proofs.Common.{◌≡◌, ℕ, List, map, take, Bor}
use Rattle.mf_objects.specs.Titles.{entry_names}
use Rattle.mf_parties.proofs.parties.listing.entry_names.Given as goal

abbrev pub invariant-loop-party : goal.invariant-loop-party
invariant-loop-party l = map (λ (name : Bor (List ℕ)). name.now) l.names.items ≡ entry_names l.dir (take l.party-index l.list)
