use Rattle.std.proofs.Common.{◌≡◌, ◌++◌, ◌∷◌, [], List, All, map, length-append, sym, subst, ap, ◌∙◌, false, arith}
use Rattle.std.proofs.lemmas.List.{length-map, map-append}
use Rattle.std.proofs.lemmas.List.Elements.{All-append, All-cons, All-nil}
use Rattle.mf_errno.specs.declared.module.Module.{Module}
use Rattle.mf_policy.specs.Modules.{module_of}
use Rattle.mf_list.specs.Fresh.{IsFresh}
use Rattle.mf_list.specs.Lists.{in_catalogue}
use Rattle.mf_list.specs.Once.{AreDistinct}
use Rattle.mf_list.proofs.Counts.{distinct-push, distinct_few}
use Rattle.mf_list.proofs.catalogue.Catalogue.put.Goals as goal

pub unreachable-requires : goal.unreachable-requires
unreachable-requires g c =
    let modules = map (λ p. module_of (g.P.Policy.spec p)) c.self.inside.policies.items in
    let here = module_of (g.P.Policy.spec c.args.policy) in
    let absent : in_catalogue here modules ≡ false =
    subst (λ (ms : List Module). in_catalogue here ms ≡ false) (sym c.self.view_is) c.requires.absent in
    let room = distinct_few (modules ++ here ∷ []) (distinct-push modules here c.self.invariant.1 absent) in
    let more = length-append modules (here ∷ []) in
    let lengths = length-map c.self.inside.policies.items (λ p. module_of (g.P.Policy.spec p)) in
    omega (arith, room, more, lengths, c.self.invariant.2, c.self.inside.policies.ok.0, c.in-Err.ensures.full)

pub invariant_of-self : goal.invariant_of-self
invariant_of-self g c =
    let items = c.self.inside.policies.items in
    let modules = map (λ p. module_of (g.P.Policy.spec p)) items in
    let here = module_of (g.P.Policy.spec c.args.policy) in
    let absent : in_catalogue here modules ≡ false =
    subst (λ (ms : List Module). in_catalogue here ms ≡ false) (sym c.self.view_is) c.requires.absent in (
      subst (λ (ps : List _). All (λ p. IsFresh (g.P.Policy.spec p)) ps) (sym c.in-Ok.ensures.items)
          (All-append (λ p. IsFresh (g.P.Policy.spec p)) items (c.args.policy ∷ []) c.self.invariant.0 (All-cons (λ p. IsFresh (g.P.Policy.spec p)) c.args.policy [] c.requires.fresh (All-nil (λ p. IsFresh (g.P.Policy.spec p))))),
      subst (λ (ms : List Module). AreDistinct ms)
          (sym (ap (map (λ p. module_of (g.P.Policy.spec p))) c.in-Ok.ensures.items ∙ map-append (λ p. module_of (g.P.Policy.spec p)) items (c.args.policy ∷ [])))
          (distinct-push modules here c.self.invariant.1 absent),
      omega (arith, c.self.invariant.2, c.in-Ok.ensures.capacity),
    )
