use Rattle.std.proofs.Common.{List, All, sym, subst}
use Rattle.mf_policy.specs.Registration.{Entry}
use Rattle.mf_list.specs.Lists.{MayLeave}
use Rattle.mf_list.proofs.Kept.{all_removed}
use Rattle.mf_list.proofs.policy_list.PolicyList.take.Goals as goal

pub invariant_of-self : goal.invariant_of-self
invariant_of-self g c =
    subst (λ (es : List Entry). All MayLeave es) (sym c.take.ensures.entries) (all_removed MayLeave c.self.inside.entries c.args.place c.self.invariant)
