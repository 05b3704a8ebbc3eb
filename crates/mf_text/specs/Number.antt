-- What a text of digits stands for, and the first fault of a text that isn't one: this model's own numbers, as docs/MANUAL.md has them.
use Rattle.std.specs.Option.{option_map_or}
use Rattle.std.specs.Prelude.{ℕ, List, [], Result, Ok, Err, nat_le, ◌&&◌, not, if◌then◌else◌}
use Rattle.std.specs.List.{position}
use Rattle.std.specs.Char.{is_digit}
use Rattle.std.specs.Str.Parse.{digits_value}
use Rattle.mf_text.specs.declared.number.NumberFault.{NumberFault}
use Rattle.mf_text.specs.declared.number.NumberFault.TheVariants.{Empty, NotDigit, OutOfRange}

-- The number that the bytes write in a base, from the least to the greatest. A byte that is no digit counts before anything of the value.
unfoldable pub number_in : ℕ → ℕ → ℕ → List ℕ → Result ℕ NumberFault
number_in base least greatest [] = Err Empty
number_in base least greatest text =
    let value = digits_value base text in
    option_map_or (λ place. Err (NotDigit place)) (position (λ byte. not (is_digit byte base)) text)
    (if nat_le least value && nat_le value greatest then Ok value else Err OutOfRange)
