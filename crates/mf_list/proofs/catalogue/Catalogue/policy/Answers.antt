use Rattle.std.proofs.Common.{List, ◌∙◌, ap, sym, get_or}
use Rattle.std.proofs.Math.ListN.{get_or-map}
use Rattle.mf_policy.specs.Modules.{module_of}
use Rattle.mf_errno.specs.declared.module.Module.{Module}
use Rattle.mf_list.specs.Places.{IsModulePlace}
use Rattle.mf_list.proofs.catalogue.Catalogue.policy.Goals as goal

pub returns-clause-value : goal.returns-clause-value
returns-clause-value g c =
    let at : IsModulePlace c.args.wanted c.args.self.now c.in_ok-place.place = c.in_ok-place.ensures in
    ap (λ p. module_of (g.P.Policy.spec p)) c.index.ensures
    ∙ sym (get_or-map (λ p. module_of (g.P.Policy.spec p)) c.self.inside.policies.items c.in_ok-place.place c.index.result.now)
    ∙ ap (λ (v : List Module). get_or v c.in_ok-place.place (module_of (g.P.Policy.spec c.index.result.now))) c.self.view_is
    ∙ at.here (module_of (g.P.Policy.spec c.index.result.now))
