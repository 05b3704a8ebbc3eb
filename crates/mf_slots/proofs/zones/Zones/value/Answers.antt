use Rattle.std.proofs.Common.{◌≡◌, ℕ, Option, Some, ap, sym, ◌∙◌, subst, rules}
use Rattle.mf_slots.specs.Zones.{Handles, handle, IsHeldAt}
use Rattle.mf_slots.proofs.zones.Zones.value.Goals as goal

pub returns-in-Some-clause-unset : goal.returns-in-Some-clause-unset
returns-in-Some-clause-unset c =
    let key : ℕ = c.in-Some.key in
    let named : handle c.args.label.now c.args.slot ≡ Some key = ap (λ (l : Handles). handle l c.args.slot) (sym c.label.view_is) ∙ c.in-Some.is in
    let held : IsHeldAt c.args.self.now c.args.slot (Some key) = subst (λ (k : Option ℕ). IsHeldAt c.args.self.now c.args.slot k) named c.requires.held in
    (λ unset. absurd (c.under.ensures.set held unset), λ none. absurd (cc (sym none ∙ named)))

pub returns-in-None-clause-value : goal.returns-in-None-clause-value
returns-in-None-clause-value c = search rules

pub returns-in-None-clause-unset : goal.returns-in-None-clause-unset
returns-in-None-clause-unset c = search rules
