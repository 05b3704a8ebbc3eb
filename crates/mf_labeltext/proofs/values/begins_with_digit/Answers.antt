use Rattle.std.proofs.Common.{ap, sym, ◌∙◌}
use Rattle.std.specs.Option.{option_copied}
use Rattle.mf_labeltext.proofs.Digits.{elem_of_digit, digit_at_most}
use Rattle.mf_labeltext.proofs.values.begins_with_digit.Goals as goal

pub returns-in-Some : goal.returns-in-Some
returns-in-Some c =
    λ digit. elem_of_digit c.args.text.now c.in-Some.byte.now
    (rw (sym c.as_bytes.ensures.value) (sym c.first.ensures.value ∙ ap option_copied c.in-Some.is))
    (digit_at_most c.is_ascii_digit.result c.in-Some.byte.now c.is_ascii_digit.ensures.cases digit)
