use Rattle.std.proofs.Common.{◌≡◌, suc, false, ltb, sym, ◌∙◌, arith}
use Rattle.std.proofs.lemmas.Bool.{lt-leb}
use Rattle.mf_rule.proofs.Bits.{has_number, no_number}
use Rattle.mf_rule.proofs.rule_bits.RuleBits.has.Goals as goal

pub returns-then-number-lt-MAX_RULES : goal.returns-then-number-lt-MAX_RULES
returns-then-number-lt-MAX_RULES c =
    rw (← c.self.view_is) (c.has.ensures ∙ sym (has_number c.self.inside.bits c.args.number c.if-number-lt-MAX_RULES.true))

pub returns-else-number-lt-MAX_RULES : goal.returns-else-number-lt-MAX_RULES
returns-else-number-lt-MAX_RULES c =
    let beyond = c.if-number-lt-MAX_RULES.false in
    let out : ltb c.args.number 250 ≡ false = lt-leb (suc c.args.number) 250 (omega (arith, beyond)) in
    rw (← c.self.view_is) (out ∙ sym (no_number c.self.inside.bits c.args.number beyond))
