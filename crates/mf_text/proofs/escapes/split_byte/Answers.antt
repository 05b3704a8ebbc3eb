use Rattle.std.proofs.Common.{◌≡◌, ◌∷◌, ◌+◌, ◌-◌, length, ap, ◌∙◌, arith}
use Rattle.mf_text.specs.Escape.{bytes_from, with_first}
use Rattle.mf_text.proofs.Unescaping.{plain_read}
use Rattle.mf_text.proofs.escapes.split_byte.Goals as goal

pub returns-clause-reads : goal.returns-clause-reads
returns-clause-reads c = λ place.
    let first = c.in_ok-first.first.now in
    let rest = c.in_ok-first.rest.now in
    let split = c.in_ok-first.ensures in
    let whole : c.args.text.now ≡ first ∷ rest = split.cases.0 in
    let one : 1 ≡ length c.args.text.now - length rest = omega (arith, ap length whole) in
    ap (bytes_from place) whole
    ∙ plain_read place first rest c.if-first-eq-BACKSLASH.false
    ∙ ap (λ n. with_first first (bytes_from (place + n) rest)) one
