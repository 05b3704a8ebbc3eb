use Rattle.std.proofs.Common.{◌≡◌, ◌∷◌, ◌+◌, ◌-◌, ◌*◌, ◌<◌, length, ap, sym, ◌∙◌, arith}
use Rattle.std.specs.Char.{digit_value}
use Rattle.mf_text.specs.Escape.{bytes_from, with_first}
use Rattle.mf_text.proofs.Unescaping.{escape_read}
use Rattle.mf_text.proofs.escapes.split_escape.Goals as goal

pub returns-clause-reads : goal.returns-clause-reads
returns-clause-reads c = λ place.
    let high = c.in_ok-high.high.now in
    let low = c.in_ok-low.low.now in
    let rest = c.in_ok-low.rest.now in
    let front = c.in_ok-high.ensures in
    let behind = c.in_ok-low.ensures in
    let whole : c.args.text.now ≡ high ∷ low ∷ rest = front.cases.0 ∙ ap (λ text. high ∷ text) behind.cases.0 in
    let high_digit = c.in_ok-high-2.ensures in
    let low_digit = c.in_ok-low-2.ensures in
    let from_high : c.from.result ≡ high = c.from.ensures in
    let from_low : c.from-2.result ≡ low = c.from-2.ensures in
    let is_high : digit_value high < 16 = rw from_high at high_digit.value.0 in
    let is_low : digit_value low < 16 = rw from_low at low_digit.value.0 in
    let high_value : digit_value high ≡ c.in_ok-high-2.high = sym (high_digit.value.1 ∙ ap digit_value from_high) in
    let low_value : digit_value low ≡ c.in_ok-low-2.low = sym (low_digit.value.1 ∙ ap digit_value from_low) in
    let three : 3 ≡ length (92 ∷ c.args.text.now) - length rest = omega (arith, ap length whole) in
    ap (λ text. bytes_from place (92 ∷ text)) whole
    ∙ escape_read place high low rest is_high is_low
    ∙ ap (λ n. with_first (n * 16 + digit_value low) (bytes_from (place + 3) rest)) high_value
    ∙ ap (λ n. with_first (c.in_ok-high-2.high * 16 + n) (bytes_from (place + 3) rest)) low_value
    ∙ ap (λ n. with_first (c.in_ok-high-2.high * 16 + c.in_ok-low-2.low) (bytes_from (place + n) rest)) three
