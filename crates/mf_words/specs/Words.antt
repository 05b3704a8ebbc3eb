-- The lines and words of a text, as docs/MANUAL.md (THE SCRIPT) has them.
use Rattle.std.specs.List.{onto_first}
use Rattle.std.specs.Str.{byte}
use Rattle.std.specs.Prelude.{ℕ, Bool, false, not, ◌||◌, ◌==◌, if◌then◌else◌, List, [], ◌∷◌}

abbrev pub is_blank : ℕ → Bool
is_blank b = b == byte " " || b == byte "\t"

-- each line without its newline, which the last one may lack
abbrev pub lines_in : List ℕ → List (List ℕ)
lines_in [] = []
lines_in (b ∷ bs) = if b == byte "\n" then [] ∷ lines_in bs else onto_first b (lines_in bs)

-- the first byte is one of a word
abbrev pub goes_on : List ℕ → Bool
goes_on [] = false
goes_on (b ∷ bs) = not (is_blank b)

-- the words of a line, which blanks part
abbrev pub words_in : List ℕ → List (List ℕ)
words_in [] = []
words_in (b ∷ bs) = if is_blank b then words_in bs else (if goes_on bs then onto_first b (words_in bs) else (b ∷ []) ∷ words_in bs)

abbrev pub is_comment : List ℕ → Bool
is_comment [] = false
is_comment (b ∷ bs) = b == byte "#"

abbrev pub Words : Type 0
Words = List (List ℕ)
