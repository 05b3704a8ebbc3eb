-- Chains as they are kept: by links, each of which names the link before it.
use Rattle.std.specs.Prelude.{◌<◌, ◌+◌, ℕ, List, [], ◌∷◌, ◌++◌, Option, Some, None, fold, slice_index_or}
use Rattle.mf_chains.specs.declared.chain.Chain.{Chain}
use Rattle.mf_chains.specs.declared.links.Link.{Link}
use Rattle.mf_chains.specs.Chains.{from_origin, with_step}

-- the chain of no link
abbrev pub no_chain : Chain
no_chain = from_origin (record { 0 = 0 }) 0

-- the chain that ends with this link, where those before it end with these
abbrev pub chain_on : List Chain → Link → Option ℕ → Chain
chain_on chains link None = from_origin link.step.party link.step.event
chain_on chains link (Some place) = with_step link.step (slice_index_or chains place no_chain)

abbrev pub with_link : List Chain → Link → List Chain
with_link chains link = chains ++ chain_on chains link link.before ∷ []

-- the chain that ends with each link
abbrev pub chains_of : List Link → List Chain
chains_of links = fold with_link [] links

-- each names one before it, where so many stand in front of all
abbrev pub NamesBefore : ℕ → Option ℕ → Type 0
NamesBefore n None = Unit {0}
NamesBefore n (Some place) = place < n

abbrev pub AreLinked : ℕ → List Link → Type 0
AreLinked n [] = Unit {0}
AreLinked n (link ∷ links) = NamesBefore n link.before × AreLinked (n + 1) links
