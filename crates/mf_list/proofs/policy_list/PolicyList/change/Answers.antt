use Rattle.mf_list.specs.Lists.{MayLeave}
use Rattle.mf_list.proofs.Kept.{kept_after_change}
use Rattle.mf_list.proofs.policy_list.PolicyList.change.Goals as goal

pub invariant_of-self : goal.invariant_of-self
invariant_of-self g c =
    kept_after_change MayLeave (λ x spec leaves. leaves) c.args.module c.args.change.now c.self.inside.entries c.change.new.self c.change.result
    c.change.ensures.ok c.change.ensures.err c.self.invariant
