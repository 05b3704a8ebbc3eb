-- Texts that stand for bytes, with escapes. The escapes are this model's own.
use Rattle.std.specs.Prelude.{ℕ, ◌+◌, ◌*◌, ◌/◌, ◌%◌, List, [], ◌∷◌, Result, Ok, Err, Bool, nat_le, ◌==◌, ◌&&◌, not, if◌then◌else◌}
use Rattle.std.specs.List.{flat_map}
use Rattle.std.specs.Char.{is_digit, digit_value, digit_char}
use Rattle.std.specs.Str.{byte}

-- the printable bytes of ASCII from `!` to `~` stand for themselves, but for the backslash
abbrev pub is_literal : ℕ → Bool
is_literal b = nat_le (byte "!") b && nat_le b (byte "~") && not (b == byte "\\")

-- the escaped text of one byte: itself, or a backslash and two hexadecimal digits in lower case
abbrev pub escaped_byte : ℕ → List ℕ
escaped_byte b = if is_literal b then b ∷ [] else byte "\\" ∷ digit_char (b / 16) ∷ digit_char (b % 16) ∷ []

unfoldable pub escaped : List ℕ → List ℕ
escaped bytes = flat_map escaped_byte bytes

-- the byte in front of those that the rest stands for
abbrev pub with_first : ℕ → Result (List ℕ) ℕ → Result (List ℕ) ℕ
with_first b (Ok bytes) = Ok (b ∷ bytes)
with_first b (Err place) = Err place

-- The bytes that a text stands for, or the place of the first backslash without two hexadecimal digits after it, of either
-- case. The text begins at a place of a longer one.
unfoldable pub bytes_from : ℕ → List ℕ → Result (List ℕ) ℕ
bytes_from place [] = Ok []
bytes_from place (c ∷ d ∷ e ∷ rest) =
    if c == byte "\\"
    then (if is_digit d 16 && is_digit e 16 then with_first (digit_value d * 16 + digit_value e) (bytes_from (place + 3) rest) else Err place)
    else with_first c (bytes_from (place + 1) (d ∷ e ∷ rest))
bytes_from place (c ∷ rest) = if c == byte "\\" then Err place else with_first c (bytes_from (place + 1) rest)

abbrev pub bytes_of : List ℕ → Result (List ℕ) ℕ
bytes_of text = bytes_from 0 text
