use Rattle.mf_rule.proofs.Bits.{bits_less}
use Rattle.mf_rule.proofs.rule_bits.Bits.take_least.Goals as goal

pub returns : goal.returns
returns c =
    let least = c.in_ok-number.ensures in
    (least, c.put.ensures, rw (c.put.ensures) (bits_less _ _ least.within least.there))
