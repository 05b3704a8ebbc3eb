use Rattle.std.proofs.Common.{List, arith, map, sym, subst, All}
use Rattle.mf_policy.specs.Modules.{module_of}
use Rattle.mf_list.specs.Fresh.{IsFresh}
use Rattle.mf_list.specs.Once.{AreDistinct}
use Rattle.mf_list.proofs.Counts.{once_if_distinct}
use Rattle.mf_list.proofs.catalogue.Catalogue.new.Goals as goal

pub invariant_of-result : goal.invariant_of-result
invariant_of-result g c = (
  subst (λ (ps : List _). All (λ p. IsFresh (g.P.Policy.spec p)) ps) (sym c.in_ok-reserve.ensures.items) c.requires.fresh,
  subst (λ (ps : List _). AreDistinct (map (λ p. module_of (g.P.Policy.spec p)) ps)) (sym c.in_ok-reserve.ensures.items) (once_if_distinct _ c.requires.distinct),
  omega (arith, c.in_ok-reserve.ensures.ok),
)
