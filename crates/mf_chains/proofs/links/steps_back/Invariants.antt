use Rattle.std.proofs.Common.{◌≡◌, ◌<◌, length, get_or}
use Rattle.mf_chains.specs.Links.{chains_of, no_chain}
use Rattle.mf_chains.proofs.Linking.{going_on}
use Rattle.mf_chains.proofs.links.steps_back.Given as goal

abbrev pub invariant-loop-at : goal.invariant-loop-at
invariant-loop-at l =
    (l.at < length l.links) × (going_on (get_or (chains_of l.links) l.at no_chain) l.steps.items ≡ get_or (chains_of l.links) l.place no_chain)

abbrev pub decreases-loop-at : goal.decreases-loop-at
decreases-loop-at l = l.at
