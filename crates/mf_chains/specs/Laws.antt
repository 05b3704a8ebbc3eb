-- What is true of the chains of every history.
use Rattle.std.specs.Prelude.{◌≡◌, true, Contains, IsSome, map, Some}
use Rattle.mf_errno.specs.declared.module.Module.{Module}
use Rattle.mf_elem.specs.declared.elem.Elem.{Elem}
use Rattle.mf_policy.specs.declared.registration.Registration.{Registration}
use Rattle.mf_objects.specs.declared.id.Id.{Id}
use Rattle.mf_objects.specs.Live.{live_at}
use Rattle.mf_calls.specs.declared.script.Script.{Script}
use Rattle.mf_calls.specs.WellFormed.{IsWellFormed}
use Rattle.mf_core.specs.declared.history.History.{History}
use Rattle.mf_core.specs.LegalHistory.{IsLegal, run_state_of}
use Rattle.mf_flow.specs.Order.{is_same_element}
use Rattle.mf_flow.specs.Sources.{sources_of}
use Rattle.mf_chains.specs.declared.chain.Chain.{Chain}
use Rattle.mf_chains.specs.declared.chain.ChainRow.{ChainRow}
use Rattle.mf_chains.specs.Histories.{IsChain, past_of, policy_of}
use Rattle.mf_chains.specs.Kept.{kept}
use Rattle.mf_chains.specs.Table.{chain_table}

-- Over a legal history the elements whose chains are kept for a live party are its sources, in order: so some chain leads to the party with
-- each of them. And whatever chain leads to the party, the element that it leads with is among them.
abbrev pub ChainsTellSources : Type 0
ChainsTellSources =
    (s : Script) (h : History) (m : Module) (r : Registration) (p : Id) → IsWellFormed s → IsLegal s h → policy_of h.boots m ≡ Some r
    → IsSome (live_at (run_state_of s h.events.list).state.objects p)
    → (map (λ k. k.element) (kept (past_of s h r) p) ≡ sources_of s r h.events.list p)
    × ((e : Elem) → Contains (sources_of s r h.events.list p) e → (c : Chain) × IsChain s h m p e c)
    × ((e : Elem) (c : Chain) → IsChain s h m p e c → (same : Elem) × Contains (sources_of s r h.events.list p) same × (is_same_element same e ≡ true))

-- the chain of each row of the table is one
abbrev pub KeptChainsAreChains : Type 0
KeptChainsAreChains =
    (s : Script) (h : History) (row : ChainRow) → Contains (chain_table s h) row → IsChain s h row.module row.id row.elem row.chain
