-- A chain is one where it leads to its party by the policy of the module.
use Rattle.std.proofs.Common.{◌≡◌, Bool, true, List, Some, reverse, refl, ap, sym, ◌∙◌, subst}
use Rattle.std.specs.Prelude.{◌↔◌, find, IsSome, IsTrue}
use Rattle.mf_errno.specs.Same.{same_module}
use Rattle.mf_errno.specs.declared.module.Module.{Module}
use Rattle.mf_elem.specs.declared.elem.Elem.{Elem}
use Rattle.mf_policy.specs.declared.registration.Registration.{Registration}
use Rattle.mf_objects.specs.declared.id.Id.{Id}
use Rattle.mf_objects.specs.Live.{live_at}
use Rattle.mf_calls.specs.declared.script.Script.{Script}
use Rattle.mf_plan.specs.declared.state.State.{State}
use Rattle.mf_core.specs.declared.history.History.{History}
use Rattle.mf_core.specs.LegalHistory.{run_state_of}
use Rattle.mf_flow.specs.Table.{sourced}
use Rattle.mf_chains.specs.declared.happening.Occurrence.{Occurrence}
use Rattle.mf_chains.specs.declared.chain.Chain.{Chain}
use Rattle.mf_chains.specs.Chains.{Leads}
use Rattle.mf_chains.specs.Happenings.{happenings_of}
use Rattle.mf_chains.specs.Histories.{IsChain, past_of, policy_of}

pub policy_is : (boots booted : List Registration) (m : Module) (r : Registration) → booted ≡ sourced boots → find (λ r. same_module m r.module) booted ≡ Some r → policy_of boots m ≡ Some r
policy_is boots booted m r are found = sym (ap (λ (rs : List Registration). find (λ r. same_module m r.module) rs) are) ∙ found

pub judged : (s : Script) (h : History) (m : Module) (r : Registration) (p : Id) (e : Elem) (c : Chain) (lives leads : Bool) (past : List Occurrence) (state : State) → policy_of h.boots m ≡ Some r
    → past ≡ happenings_of s r h.events.list → state ≡ (run_state_of s h.events.list).state → lives ≡ true → IsTrue lives ↔ IsSome (live_at state.objects p)
    → IsTrue leads ↔ Leads (reverse past) p e c → IsTrue leads ↔ IsChain s h m p e c
judged s h m r p e c lives leads past state policy past_is state_is living lives_is leads_is = (
  λ yes_leads. (
    subst (λ (x : State). IsSome (live_at x.objects p)) state_is (lives_is.0 (subst IsTrue (sym living) refl)),
    r,
    policy,
    subst (λ (xs : List Occurrence). Leads (reverse xs) p e c) past_is (leads_is.0 yes_leads),
  ),
  λ chain.
      let same : chain.1 ≡ r = cc in
      leads_is.1
      (subst (λ (xs : List Occurrence). Leads (reverse xs) p e c) (sym past_is) (subst (λ (x : Registration). Leads (past_of s h x) p e c) same chain.3)),
)
