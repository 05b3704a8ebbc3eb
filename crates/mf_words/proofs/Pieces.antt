-- The words of a line are within its length, and have what holds of its bytes.
use Rattle.std.proofs.Common.{◌≡◌, ℕ, suc, ◌≤◌, Bool, true, false, if◌then◌else◌, List, [], ◌∷◌, length, refl, arith, lit≤}
use Rattle.std.specs.List.{AllByRecursion, onto_first}
use Rattle.mf_words.specs.Words.{is_blank, goes_on, words_in}

-- what holds of each byte of a word
abbrev pub InWord : (ℕ → Type 0) → ℕ → Type 0
InWord P b = P b × (is_blank b ≡ false)

-- a word of at most so many bytes
pub record IsWordOf (P : ℕ → Type 0) (most : ℕ) (w : List ℕ) : Type 0 where
  pub some : 1 ≤ length w
  pub each : AllByRecursion (InWord P) w
  pub few : length w ≤ most

longer_words : (P : ℕ → Type 0) (most more : ℕ) (ws : List (List ℕ)) → most ≤ more → AllByRecursion (IsWordOf P most) ws → AllByRecursion (IsWordOf P more) ws
longer_words P most more [] le are = tt
longer_words P most more (w ∷ ws) le are = (record { some = are.0.some; each = are.0.each; few = omega (arith, are.0.few, le) }, longer_words P most more ws le are.1)

one_byte : (P : ℕ → Type 0) (most b : ℕ) → InWord P b → IsWordOf P (suc most) (b ∷ [])
one_byte P most b holds = record { some = lit≤ tt; each = (holds, tt); few = omega arith }

onto_word : (P : ℕ → Type 0) (most b : ℕ) (ws : List (List ℕ)) → InWord P b → AllByRecursion (IsWordOf P most) ws → AllByRecursion (IsWordOf P (suc most)) (onto_first b ws)
onto_word P most b [] holds are = (one_byte P most b holds, tt)
onto_word P most b (w ∷ ws) holds are =
    (record { some = omega arith; each = (holds, are.0.each); few = omega (arith, are.0.few) }, longer_words P most (suc most) ws (omega arith) are.1)

pub words_pieces : (P : ℕ → Type 0) (line : List ℕ) → AllByRecursion P line → AllByRecursion (IsWordOf P (length line)) (words_in line)
words_pieces P [] each = tt
words_pieces P (b ∷ bs) each = one (is_blank b) (goes_on bs) refl (words_pieces P bs each.1) where
  one : (blank on : Bool) → is_blank b ≡ blank → AllByRecursion (IsWordOf P (length bs)) (words_in bs)
      → AllByRecursion (IsWordOf P (suc (length bs))) (if blank then words_in bs else (if on then onto_first b (words_in bs) else (b ∷ []) ∷ words_in bs))
  one true on is rest = longer_words P (length bs) (suc (length bs)) (words_in bs) (omega arith) rest
  one false true is rest = onto_word P (length bs) b (words_in bs) (each.0, is) rest
  one false false is rest = (one_byte P (length bs) b (each.0, is), longer_words P (length bs) (suc (length bs)) (words_in bs) (omega arith) rest)
