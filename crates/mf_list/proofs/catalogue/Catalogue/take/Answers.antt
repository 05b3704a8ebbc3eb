use Rattle.std.proofs.Common.{List, All, ◌<◌, subst, ◌∙◌, ap, sym, get_or, length, map, arith}
use Rattle.std.specs.List.{remove}
use Rattle.std.proofs.Math.ListN.{get_or-map}
use Rattle.std.proofs.lemmas.List.{length-map}
use Rattle.mf_policy.specs.Modules.{fresh_of, module_of}
use Rattle.mf_errno.specs.declared.module.Module.{Module}
use Rattle.mf_list.specs.Fresh.{IsFresh}
use Rattle.mf_list.specs.Places.{IsModulePlace}
use Rattle.mf_list.specs.Once.{AreDistinct}
use Rattle.mf_list.proofs.Counts.{distinct-remove}
use Rattle.mf_list.proofs.Kept.{all_removed}
use Rattle.mf_list.proofs.Maps.{map-remove}
use Rattle.mf_list.proofs.catalogue.Catalogue.take.Goals as goal

pub returns-in-Some-clause-value : goal.returns-in-Some-clause-value
returns-in-Some-clause-value g c =
    let at : IsModulePlace c.args.wanted c.args.self.now c.in-Some.place = c.in-Some.ensures in
    let within : c.in-Some.place < length c.self.inside.policies.items =
    omega (arith, at.within, length-map c.self.inside.policies.items (λ p. module_of (g.P.Policy.spec p)), ap (λ (v : List Module). length v) c.self.view_is) in
    let fresh : IsFresh (g.P.Policy.spec (get_or c.self.inside.policies.items c.in-Some.place c.remove.result)) =
    c.self.invariant.0 c.in-Some.place c.remove.result within in
    let is_module =
    sym (get_or-map (λ p. module_of (g.P.Policy.spec p)) c.self.inside.policies.items c.in-Some.place c.remove.result)
    ∙ ap (λ (v : List Module). get_or v c.in-Some.place (module_of (g.P.Policy.spec c.remove.result))) c.self.view_is
    ∙ at.here (module_of (g.P.Policy.spec c.remove.result)) in
    ap (λ p. g.P.Policy.spec p) c.remove.ensures.value ∙ fresh ∙ ap fresh_of is_module

pub returns-in-Some-clause-modules : goal.returns-in-Some-clause-modules
returns-in-Some-clause-modules g c =
    let at : IsModulePlace c.args.wanted c.args.self.now c.in-Some.place = c.in-Some.ensures in
    ap (map (λ p. module_of (g.P.Policy.spec p))) c.remove.ensures.items
    ∙ map-remove (λ p. module_of (g.P.Policy.spec p)) c.self.inside.policies.items c.in-Some.place
    ∙ ap (λ (v : List Module). remove v c.in-Some.place) c.self.view_is
    ∙ at.rest

pub returns-in-Some-clause-of : goal.returns-in-Some-clause-of
returns-in-Some-clause-of g c =
    let at : IsModulePlace c.args.wanted c.args.self.now c.in-Some.place = c.in-Some.ensures in
    ap (λ p. module_of (g.P.Policy.spec p)) c.remove.ensures.value
    ∙ sym (get_or-map (λ p. module_of (g.P.Policy.spec p)) c.self.inside.policies.items c.in-Some.place c.remove.result)
    ∙ ap (λ (v : List Module). get_or v c.in-Some.place (module_of (g.P.Policy.spec c.remove.result))) c.self.view_is
    ∙ at.here (module_of (g.P.Policy.spec c.remove.result))

pub invariant_of-self : goal.invariant_of-self
invariant_of-self g c =
    let items = c.self.inside.policies.items in
    let place = c.in-Some.place in (
      subst (λ (ps : List _). All (λ p. IsFresh (g.P.Policy.spec p)) ps) (sym c.remove.ensures.items) (all_removed (λ p. IsFresh (g.P.Policy.spec p)) items place c.self.invariant.0),
      subst (λ (ms : List Module). AreDistinct ms)
          (sym (ap (map (λ p. module_of (g.P.Policy.spec p))) c.remove.ensures.items ∙ map-remove (λ p. module_of (g.P.Policy.spec p)) items place))
          (distinct-remove (map (λ p. module_of (g.P.Policy.spec p)) items) place c.self.invariant.1),
      omega (arith, c.self.invariant.2, c.remove.ensures.capacity),
    )
