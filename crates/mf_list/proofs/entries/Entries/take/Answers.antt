use Rattle.std.proofs.Common.{List, sym, subst, arith}
use Rattle.mf_policy.specs.Registration.{Entry}
use Rattle.mf_list.specs.Once.{IsListedOnce}
use Rattle.mf_list.proofs.Counts.{listed_once-remove}
use Rattle.mf_list.proofs.entries.Entries.take.Goals as goal

pub invariant_of-self : goal.invariant_of-self
invariant_of-self g c = (
  subst (λ (es : List Entry). IsListedOnce es) (sym c.remove.ensures.items) (listed_once-remove c.self.inside.policies.items c.args.place c.self.invariant.0),
  omega (arith, c.self.invariant.1, c.remove.ensures.capacity),
)
