use Rattle.std.proofs.Common.{◌≡◌, ◌≤◌, ◌-◌, length, ap, sym, ◌∙◌, arith}
use Rattle.mf_rule.proofs.Stretches.{join_changes_nothing, joined_rise}
use Rattle.mf_rule.proofs.Bits.{same_bits}
use Rattle.mf_rule.specs.UidIndex.{rules_before}
use Rattle.mf_rule.proofs.uid_index.UidIndex.join.Goals as goal

pub invariant_of-self : goal.invariant_of-self
invariant_of-self c =
    let within : c.end-end.result ≤ length c.self.inside.stretches.items = rw (c.self.view_is) c.end-end.ensures.within in
    rw (c.remove.ensures.items) (joined_rise _ _ c.self.invariant (omega (arith, within, c.if-end-gt0.true)))

pub returns-then-eq : goal.returns-then-eq
returns-then-eq c = λ other.
    let within : c.end-end.result ≤ length c.self.inside.stretches.items = rw (c.self.view_is) c.end-end.ensures.within in
    let same : c.index.result.now.rules ≡ rules_before c.self.inside.stretches.items (c.end-end.result - 1) = same_bits _ _ c.if-eq.ensures ∙ rw (c.self.view_is) c.rules_before.ensures in
    rw (c.remove.ensures.items, ← c.self.view_is) (join_changes_nothing (c.end-end.result - 1) other _ c.index.result.now c.self.invariant (omega (arith, within, c.if-end-gt0.true)) (ap (λ stretch. stretch.rules) (sym c.index.ensures) ∙ same))
