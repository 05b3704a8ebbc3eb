-- The words of a rule that stand for numbers and for sets of letters: ranges of ids, the letters of a mode, and those of types.
--
-- The letters of modes and types are those of ugidfw(8). That letters may be repeated, that `n` beside others adds nothing, and that
-- leading zeros are accepted, is this model's own choice.
use Rattle.std.specs.Prelude.{ℕ, List, [], ◌∷◌, Option, Some, None, nat_le, ◌==◌, if◌then◌else◌, ◌<◌, find, option_map, zip, codes}
use Rattle.std.specs.Int.RustNames.{bit_or}
use Rattle.std.specs.Option.{option_map_or, option_zip}
use Rattle.std.specs.Str.{byte}
use Rattle.mf_labeltext.specs.Reading.{◌>>=◌, cut, number}
use Rattle.mf_rule.specs.declared.rule.TheConstants.{LAST_ID, ADMINISTER, READ, STAT, WRITE, EXECUTE, REGULAR, DIRECTORY, BLOCK, CHARACTER, LINK, SOCKET, FIFO, ANY_TYPE}

-- a uid or gid
abbrev pub id : List ℕ → Option ℕ
id w = number 0 LAST_ID w

-- the least and the greatest id with a colon between them, or one id that is both
unfoldable pub id_range_in : List ℕ → Option (ℕ × ℕ)
id_range_in w = do
  ends ← option_map_or (λ halves. option_zip (id halves.0) (id halves.1)) (cut (byte ":") w) (option_zip (id w) (id w))
  if nat_le ends.0 ends.1 then Some ends else None

-- each letter of a mode and its bit, where `n` is for none
abbrev pub mode_letters : List (ℕ × ℕ)
mode_letters = zip (codes "narswx") (0 ∷ ADMINISTER ∷ READ ∷ STAT ∷ WRITE ∷ EXECUTE ∷ [])

-- each letter of types and its bit, where `a` is for all of them
abbrev pub type_letters : List (ℕ × ℕ)
type_letters = zip (codes "ardbclsp") (ANY_TYPE ∷ REGULAR ∷ DIRECTORY ∷ BLOCK ∷ CHARACTER ∷ LINK ∷ SOCKET ∷ FIFO ∷ [])

-- a letter of one byte
abbrev pub IsAsciiLetter : ℕ × ℕ → Type 0
IsAsciiLetter row = row.0 < 128

-- the bits so far, and those that the letters add by the table
unfoldable pub with_letters : List (ℕ × ℕ) → ℕ → List ℕ → Option ℕ
with_letters table bits [] = Some bits
with_letters table bits (c ∷ cs) =
    option_map (λ row. row.1) (find (λ row. row.0 == c) table) >>= λ bit. with_letters table (bit_or bits bit) cs

-- one letter or more
unfoldable pub letters_in : List (ℕ × ℕ) → List ℕ → Option ℕ
letters_in table [] = None
letters_in table (c ∷ cs) = with_letters table 0 (c ∷ cs)

unfoldable pub mode_in : List ℕ → Option ℕ
mode_in w = letters_in mode_letters w

unfoldable pub types_in : List ℕ → Option ℕ
types_in w = letters_in type_letters w
