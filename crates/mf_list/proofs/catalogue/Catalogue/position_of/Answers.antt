use Rattle.std.proofs.Common.{List, ◌∙◌, ap, sym}
use Rattle.std.specs.List.{position}
use Rattle.mf_errno.specs.Same.{same_module}
use Rattle.mf_policy.specs.Modules.{module_of}
use Rattle.mf_errno.specs.declared.module.Module.{Module}
use Rattle.mf_list.proofs.Maps.{map-position}
use Rattle.mf_list.proofs.catalogue.Catalogue.position_of.Goals as goal

pub returns : goal.returns
returns g c =
    c.first_of.ensures
    ∙ ap (position (λ p. same_module c.args.wanted (module_of (g.P.Policy.spec p)))) c.as_slice.ensures.value
    ∙ sym (map-position (λ p. module_of (g.P.Policy.spec p)) (same_module c.args.wanted) c.self.inside.policies.items)
    ∙ ap (λ (v : List Module). position (same_module c.args.wanted) v) c.self.view_is
