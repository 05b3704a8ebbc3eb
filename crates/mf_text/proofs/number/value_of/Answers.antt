use Rattle.std.proofs.Common.{◌≡◌, ◌≤◌, MatchOption, subst, sym}
use Rattle.std.specs.Str.Parse.{digits_value}
use Rattle.mf_text.proofs.Numerals.{all_digits, digits_read}
use Rattle.mf_text.proofs.number.value_of.Goals as goal

pub returns : goal.returns
returns c =
    let digits = c.args.digits.now in
    subst (λ read. MatchOption read (4294967296 ≤ digits_value c.args.base digits) (λ value. value ≡ digits_value c.args.base digits)) (sym c.ok.ensures.value)
    (digits_read c.args.base digits c.from_str_radix.result c.requires.upper c.requires.some (all_digits c.args.base digits c.requires.digits) c.from_str_radix.ensures.value)
