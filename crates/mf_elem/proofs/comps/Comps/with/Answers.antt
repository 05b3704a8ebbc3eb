use Rattle.std.proofs.Common.{◌≡◌, ◌+◌, ◌-◌, ap, sym, ◌∙◌, arith}
use Rattle.mf_elem.specs.Comps.{with_compartment}
use Rattle.mf_elem.proofs.comps.Comps.with.Goals as goal

pub returns-clause-value : goal.returns-clause-value
returns-clause-value c =
    let next : c.args.n - 1 + 1 ≡ c.args.n = omega arith in
    sym c.set_bit.ensures.value ∙ ap (with_compartment c.args.self) next
