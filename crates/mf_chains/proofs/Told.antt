-- Chains tell the sources of parties.
use Rattle.std.proofs.Common.{◌≡◌, zero, suc, Bool, true, List, [], ◌∷◌, map, Option, Some, None, inl, inr, refl, ap, sym, ◌∙◌, subst, arith}
use Rattle.std.specs.Prelude.{◌⊎◌, Contains, IsSome}
use Rattle.std.specs.List.{AllByRecursion}
use Rattle.std.specs.Ordering.{match_ordering, is_eq}
use Rattle.std.specs.declared.cmp.Ordering.{Ordering}
use Rattle.std.specs.declared.cmp.Ordering.TheVariants.{Less, Equal, Greater}
use Rattle.std.specs.Cmp.Lexicographic.{nat_list_cmp_total}
use Rattle.mf_errno.specs.Same.{same_module}
use Rattle.mf_errno.specs.declared.module.Module.{Module}
use Rattle.mf_elem.specs.declared.elem.Elem.{Elem}
use Rattle.mf_policy.specs.declared.registration.Registration.{Registration}
use Rattle.mf_objects.specs.declared.id.Id.{Id}
use Rattle.mf_objects.specs.Live.{LiveEntity, live_at}
use Rattle.mf_calls.specs.declared.script.Script.{Script}
use Rattle.mf_calls.specs.WellFormed.{IsWellFormed}
use Rattle.mf_core.specs.declared.history.History.{History}
use Rattle.mf_core.specs.LegalHistory.{IsLegal, opening_run, run_state_of}
use Rattle.mf_core.specs.Opening.{opening_state, spec_at_boot}
use Rattle.mf_flow.specs.Order.{elem_cmp, is_same_element, place_of}
use Rattle.mf_flow.specs.Sources.{sources_of}
use Rattle.mf_flow.specs.Table.{sourced}
use Rattle.mf_flow.proofs.Across.{opening_sets}
use Rattle.mf_flow.proofs.Dominating.{IsSourced, all_sourced}
use Rattle.mf_flow.proofs.Flowing.{IsFlowing, opening_flowing}
use Rattle.mf_chains.specs.declared.happening.Occurrence.{Occurrence}
use Rattle.mf_chains.specs.declared.chain.Step.{Step}
use Rattle.mf_chains.specs.declared.chain.Chain.{Chain}
use Rattle.mf_chains.specs.Chains.{Leads, giver_of, loses, own_of, step_at}
use Rattle.mf_chains.specs.Happenings.{opening_happenings}
use Rattle.mf_chains.specs.Histories.{past_of, policy_of}
use Rattle.mf_chains.specs.Kept.{Kept, handed_on, kept, kept_cmp, own_kept, still_kept, stepped, with_lacking}
use Rattle.mf_chains.specs.Laws.{ChainsTellSources}
use Rattle.mf_chains.proofs.Elements.{elements, held, same_place}
use Rattle.mf_chains.proofs.Leading.{kept_lead}
use Rattle.mf_chains.proofs.Listing.{found_at}
use Rattle.mf_chains.proofs.Sourcing.{opening_tied, run_tied}

-- one of a set is the same element
abbrev Has : List Kept → Elem → Type 0
Has [] e = ⊥
Has (k ∷ set) e = (elem_cmp k.element e ≡ Equal) ⊎ Has set e

has_with : (x : Kept) (set : List Kept) (e : Elem) → ((ys : List Kept) → Has set e ⊎ Has ys e → Has (with_lacking set ys) e) → (ys : List Kept) → Has (x ∷ set) e ⊎ Has ys e
    → Has (with_lacking (x ∷ set) ys) e
has_with x set e rest [] (inl has) = has
has_with x set e rest [] (inr has) = absurd has
has_with x set e rest (y ∷ ys) has = one (kept_cmp x y) refl has (has_with x set e rest ys)
  where
    one : (o : Ordering) → kept_cmp x y ≡ o → Has (x ∷ set) e ⊎ Has (y ∷ ys) e → (Has (x ∷ set) e ⊎ Has ys e → Has (with_lacking (x ∷ set) ys) e)
        → Has (match_ordering o (x ∷ with_lacking set (y ∷ ys)) (x ∷ with_lacking set ys) (y ∷ with_lacking (x ∷ set) ys)) e
    one Less is (inl (inl same)) again = inl same
    one Less is (inl (inr has)) again = inr (rest (y ∷ ys) (inl has))
    one Less is (inr has) again = inr (rest (y ∷ ys) (inr has))
    one Equal is (inl (inl same)) again = inl same
    one Equal is (inl (inr has)) again = inr (rest ys (inl has))
    one Equal is (inr (inl same)) again = inl (nat_list_cmp_total.congr (place_of x.element) (place_of y.element) (place_of e) is ∙ same)
    one Equal is (inr (inr has)) again = inr (rest ys (inr has))
    one Greater is (inl has) again = inr (again (inl has))
    one Greater is (inr (inl same)) again = inl same
    one Greater is (inr (inr has)) again = inr (again (inr has))

has_joined : (set others : List Kept) (e : Elem) → Has set e ⊎ Has others e → Has (with_lacking set others) e
has_joined [] others e (inl has) = absurd has
has_joined [] others e (inr has) = has
has_joined (x ∷ set) others e has = has_with x set e (λ ys has. has_joined set ys e has) others has

has_stepped : (step : Step) (set : List Kept) (e : Elem) → Has set e → Has (map (stepped step) set) e
has_stepped step [] e has = has
has_stepped step (k ∷ set) e (inl same) = inl same
has_stepped step (k ∷ set) e (inr has) = inr (has_stepped step set e has)

-- a chain leads to what is kept
leads_kept : (xs : List Occurrence) (p : Id) (e : Elem) (c : Chain) → Leads xs p e c → Has (kept xs p) e
leads_kept [] p e c leads = leads
leads_kept (x ∷ older) p e c leads =
    has_joined (with_lacking (own_kept (own_of x.what p) p x.event) (still_kept (loses x.what p) (kept older p))) (handed_on (giver_of x.what p) (kept older) (step_at x p)) e
    (one (λ q before. leads_kept older q e before) leads)
  where
    one : ((q : Id) (before : Chain) → Leads older q e before → Has (kept older q) e) → Leads (x ∷ older) p e c
        → Has (with_lacking (own_kept (own_of x.what p) p x.event) (still_kept (loses x.what p) (kept older p))) e ⊎ Has (handed_on (giver_of x.what p) (kept older) (step_at x p)) e
    one rest (inl is) =
        inl (has_joined (own_kept (own_of x.what p) p x.event) (still_kept (loses x.what p) (kept older p)) e
        (inl (subst (λ (o : Option Elem). Has (own_kept o p x.event) e) (sym is.0) (inl (same_place e)))))
    one rest (inr (inl from)) =
        inr (subst (λ (g : Option Id). Has (handed_on g (kept older) (step_at x p)) e) (sym from.1) (has_stepped (step_at x p) (kept older from.0) e (rest from.0 from.2 from.3)))
    one rest (inr (inr still)) =
        inl (has_joined (own_kept (own_of x.what p) p x.event) (still_kept (loses x.what p) (kept older p)) e
        (inr (subst (λ (lost : Bool). Has (still_kept lost (kept older p)) e) (sym still.0) (rest p c still.1))))

-- each element that is kept comes by its chain
element_led : (xs : List Occurrence) (p : Id) (e : Elem) (set : List Kept) → AllByRecursion (λ (k : Kept). Leads xs p k.element k.chain) set → Contains (elements set) e
    → (c : Chain) × Leads xs p e c
element_led xs p e [] all there = absurd (omega (arith, there.1))
element_led xs p e (k ∷ set) all (zero, within, is) = (k.chain, subst (λ (x : Elem). Leads xs p x k.chain) is all.0)
element_led xs p e (k ∷ set) all (suc i, within, is) = element_led xs p e set all.1 (i, omega (arith, within), is)

has_same : (set : List Kept) (e : Elem) → Has set e → (same : Elem) × Contains (elements set) same × (is_same_element same e ≡ true)
has_same [] e has = absurd has
has_same (k ∷ set) e (inl equal) = (k.element, (0, omega arith, refl), ap is_eq equal)
has_same (k ∷ set) e (inr has) =
    let rest = has_same set e has in
    (rest.0, (suc rest.1.0, omega (arith, rest.1.1), rest.1.2), rest.2)

-- The sources

living : (found : Option LiveEntity) → IsSome found → (e : LiveEntity) × (found ≡ Some e)
living None some = cc
living (Some e) some = (e, refl)

tied_at : (s : Script) (h : History) (m : Module) (r : Registration) (p : Id) → IsWellFormed s → IsLegal s h → policy_of h.boots m ≡ Some r
    → IsSome (live_at (run_state_of s h.events.list).state.objects p) → held (past_of s h r) p ≡ sources_of s r h.events.list p
tied_at s h m r p formed legal policy lives =
    let sourced_by : IsSourced s r = found_at (IsSourced s) (sourced h.boots) (λ r. same_module m r.module) r policy (all_sourced s h formed legal) in
    let flowing : IsFlowing sourced_by.policy r (spec_at_boot s r.module) (opening_state s) (opening_sets s r) =
    opening_flowing sourced_by.policy r (spec_at_boot s r.module) s formed sourced_by.booted.of sourced_by.booted.pinned in
    let here = living (live_at (run_state_of s h.events.list).state.objects p) lives in
    run_tied sourced_by.policy r (spec_at_boot s r.module) s (opening_run s) 1 h.events.list (opening_sets s r) (opening_happenings r (opening_state s).objects) sourced_by.booted.of legal.events flowing
    (opening_tied s r flowing.held.kept.rooted.rising) p here.0 here.1

pub told : ChainsTellSources
told s h m r p formed legal policy lives =
    let tied : held (past_of s h r) p ≡ sources_of s r h.events.list p = tied_at s h m r p formed legal policy lives in (
      tied,
      λ e there.
          let led = element_led (past_of s h r) p e (kept (past_of s h r) p) (kept_lead (past_of s h r) p) (subst (λ (es : List Elem). Contains es e) (sym tied) there) in
          (led.0, (lives, r, policy, led.1)),
      λ e c chain.
          let same : chain.1 ≡ r = cc in
          let found = has_same (kept (past_of s h r) p) e (leads_kept (past_of s h r) p e c (subst (λ (x : Registration). Leads (past_of s h x) p e c) same chain.3)) in
          (found.0, subst (λ (es : List Elem). Contains es found.0) tied found.1, found.2),
    )
