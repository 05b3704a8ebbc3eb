use Rattle.mf_list.specs.Lists.{IsPinned}
use Rattle.mf_list.proofs.Kept.{kept_after_change}
use Rattle.mf_list.proofs.fixed.Fixed.set.Goals as goal

pub invariant_of-self : goal.invariant_of-self
invariant_of-self g c =
    kept_after_change IsPinned (λ x spec pinned. pinned) c.args.module c.args.change.now c.self.inside.entries c.change.new.self c.change.result
    c.change.ensures.ok c.change.ensures.err c.self.invariant
