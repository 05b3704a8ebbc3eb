-- Which chains a history has: this model's own (docs/MANUAL.md, CHAINS).
use Rattle.std.specs.Prelude.{◌≡◌, List, Option, Some, find, reverse, IsSome}
use Rattle.mf_errno.specs.Same.{same_module}
use Rattle.mf_errno.specs.declared.module.Module.{Module}
use Rattle.mf_elem.specs.declared.elem.Elem.{Elem}
use Rattle.mf_policy.specs.declared.registration.Registration.{Registration}
use Rattle.mf_objects.specs.declared.id.Id.{Id}
use Rattle.mf_objects.specs.Live.{live_at}
use Rattle.mf_calls.specs.declared.script.Script.{Script}
use Rattle.mf_core.specs.declared.history.History.{History}
use Rattle.mf_core.specs.LegalHistory.{run_state_of}
use Rattle.mf_flow.specs.Table.{sourced}
use Rattle.mf_chains.specs.declared.happening.Occurrence.{Occurrence}
use Rattle.mf_chains.specs.declared.chain.Chain.{Chain}
use Rattle.mf_chains.specs.Chains.{Leads}
use Rattle.mf_chains.specs.Happenings.{happenings_of}

-- the registration at boot of a module whose policy bounds what may move
abbrev pub policy_of : List Registration → Module → Option Registration
policy_of boots m = find (λ r. same_module m r.module) (sourced boots)

-- what happened to the parties of a policy over a history, the newest first
abbrev pub past_of : Script → History → Registration → List Occurrence
past_of s h r = reverse (happenings_of s r h.events.list)

-- By the module's policy the chain leads to the party, which lives at the end of the history. No party of a chain is gone before it hands
-- on: what is gone is in no check, and makes nothing; and its id isn't given again.
abbrev pub IsChain : Script → History → Module → Id → Elem → Chain → Type 0
IsChain s h m p e c =
    IsSome (live_at (run_state_of s h.events.list).state.objects p)
    × (r : Registration) × (policy_of h.boots m ≡ Some r) × Leads (past_of s h r) p e c
