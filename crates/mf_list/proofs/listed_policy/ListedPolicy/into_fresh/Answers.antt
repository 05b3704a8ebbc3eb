use Rattle.std.proofs.Common.{◌∙◌, ap}
use Rattle.mf_policy.specs.Modules.{module_of}
use Rattle.mf_policy.specs.Registration.{Entry}
use Rattle.mf_list.proofs.Fresh.{fresh_module}
use Rattle.mf_list.proofs.listed_policy.ListedPolicy.into_fresh.Goals as goal

pub returns-clause-of : goal.returns-clause-of
returns-clause-of g c =
    ap module_of c.reset.ensures ∙ fresh_module (g.P.Policy.spec c.self.inside.policy) ∙ c.self.invariant.module_is
    ∙ ap (λ (entry : Entry). entry.0.module) c.self.view_is
