-- Reading texts with escapes byte by byte.
use Rattle.std.proofs.Common.{append-nil, ◌≡◌, ◌≢◌, ℕ, ◌+◌, ◌*◌, ◌/◌, ◌%◌, ◌<◌, true, false, cond, List, [], ◌∷◌, ◌++◌, Result, Ok, Err, refl, ap, ◌∙◌, arith, append_assoc}
use Rattle.std.proofs.lemmas.Bool.Decides.{nat_tests}
use Rattle.std.proofs.lemmas.Bool.{lt-ltb}
use Rattle.std.proofs.lemmas.Str.{digit_value-digit_char}
use Rattle.std.specs.Char.{digit_value, digit_char}
use Rattle.std.specs.List.{flat_map, AllByRecursion}
use Rattle.mf_text.specs.Escape.{bytes_from, bytes_of, with_first, escaped, escaped_byte, is_literal}

-- the bytes in front of those that were read behind them
abbrev pub behind : List ℕ → Result (List ℕ) ℕ → Result (List ℕ) ℕ
behind front (Ok bytes) = Ok (front ++ bytes)
behind front (Err place) = Err place

pub behind_nothing : (read : Result (List ℕ) ℕ) → behind [] read ≡ read
behind_nothing (Ok bytes) = refl
behind_nothing (Err place) = refl

pub behind_first : (front : List ℕ) (byte : ℕ) (read : Result (List ℕ) ℕ) → behind (front ++ byte ∷ []) read ≡ behind front (with_first byte read)
behind_first front byte (Ok bytes) = ap Ok (append_assoc front (byte ∷ []) bytes)
behind_first front byte (Err place) = refl

pub plain_read : (place c : ℕ) (rest : List ℕ) → c ≢ 92 → bytes_from place (c ∷ rest) ≡ with_first c (bytes_from (place + 1) rest)
unfolding bytes_from
plain_read place c [] other = grind (arith, nat_tests)
plain_read place c (d ∷ []) other = grind (arith, nat_tests)
plain_read place c (d ∷ e ∷ rest) other = grind (arith, nat_tests)

pub escape_read : (place d e : ℕ) (rest : List ℕ) → digit_value d < 16 → digit_value e < 16
    → bytes_from place (92 ∷ d ∷ e ∷ rest) ≡ with_first (digit_value d * 16 + digit_value e) (bytes_from (place + 3) rest)
unfolding bytes_from
escape_read place d e rest high low = rw (lt-ltb (digit_value d) 16 high, lt-ltb (digit_value e) 16 low) refl

pub read_to_end : (front : List ℕ) (place : ℕ) → behind front (bytes_from place []) ≡ Ok front
unfolding bytes_from
read_to_end front place = ap Ok (append-nil front)

-- a byte that fits stands for its own two digits
nibbles : (byte : ℕ) → byte / 16 * 16 + byte % 16 ≡ byte
nibbles byte = omega arith

escaped_read : (place byte : ℕ) (rest : List ℕ) → byte < 256
    → bytes_from place (92 ∷ digit_char (byte / 16) ∷ digit_char (byte % 16) ∷ rest) ≡ with_first byte (bytes_from (place + 3) rest)
escaped_read place byte rest fits =
    let high : digit_value (digit_char (byte / 16)) ≡ byte / 16 = digit_value-digit_char (byte / 16) (omega arith) in
    let low : digit_value (digit_char (byte % 16)) ≡ byte % 16 = digit_value-digit_char (byte % 16) (omega arith) in
    escape_read place (digit_char (byte / 16)) (digit_char (byte % 16)) rest (omega (arith, high)) (omega (arith, low))
    ∙ ap (λ n. with_first (n * 16 + digit_value (digit_char (byte % 16))) (bytes_from (place + 3) rest)) high
    ∙ ap (λ n. with_first (byte / 16 * 16 + n) (bytes_from (place + 3) rest)) low
    ∙ ap (λ n. with_first n (bytes_from (place + 3) rest)) (nibbles byte)

not_backslash : (byte : ℕ) → is_literal byte ≡ true → byte ≢ 92
not_backslash byte plain = grind (arith, nat_tests)

-- the escaped text of a byte stands for it
escaped_byte_read : (place byte : ℕ) (rest : List ℕ) → byte < 256 → (next : ℕ) × (bytes_from place (escaped_byte byte ++ rest) ≡ with_first byte (bytes_from next rest))
escaped_byte_read place byte rest fits =
    elim (is_literal byte) as (λ plain. is_literal byte ≡ plain → (next : ℕ) × (bytes_from place (cond plain (byte ∷ []) (92 ∷ digit_char (byte / 16) ∷ digit_char (byte % 16) ∷ []) ++ rest) ≡ with_first byte (bytes_from next rest))) [
      | true ↦ λ plain. (place + 1, plain_read place byte rest (not_backslash byte plain))
      | false ↦ λ plain. (place + 3, escaped_read place byte rest fits)
    ] refl

all_escaped_read : (place : ℕ) (bytes : List ℕ) → AllByRecursion (λ byte. byte < 256) bytes → bytes_from place (flat_map escaped_byte bytes) ≡ Ok bytes
unfolding bytes_from
all_escaped_read place [] fit = refl
all_escaped_read place (byte ∷ bytes) fit =
    let first = escaped_byte_read place byte (flat_map escaped_byte bytes) fit.0 in
    first.1 ∙ ap (with_first byte) (all_escaped_read first.0 bytes fit.1)

pub escaped_stands : (bytes : List ℕ) → AllByRecursion (λ byte. byte < 256) bytes → bytes_of (escaped bytes) ≡ Ok bytes
unfolding escaped
escaped_stands bytes fit = all_escaped_read 0 bytes fit
