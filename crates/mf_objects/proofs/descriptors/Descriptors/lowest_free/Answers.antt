use Rattle.std.proofs.Common.{arith, sym, ◌∙◌}
use Rattle.mf_objects.proofs.Numbers.{number_found, copied_none}
use Rattle.mf_objects.proofs.descriptors.Descriptors.lowest_free.Goals as goal

pub returns-else-is_some : goal.returns-else-is_some
returns-else-is_some c =
    number_found c.args.self.now c.loop-number.number c.loop-number.invariant.0 c.loop-number.invariant.1
    (λ _. copied_none c.find.result c.find.ensures (sym c.is_some.ensures ∙ c.if-is_some.false))

pub returns-after-loop-number : goal.returns-after-loop-number
returns-after-loop-number c =
    number_found c.args.self.now c.loop-number.number c.loop-number.invariant.0 c.loop-number.invariant.1 (λ below. absurd (omega (arith, below, c.loop-number-test.false)))
