-- Where the first line and the first word end.
use Rattle.std.specs.Prelude.{ℕ, suc, ◌==◌, if◌then◌else◌, List, [], ◌∷◌}
use Rattle.std.specs.Str.{byte}
use Rattle.mf_words.specs.Words.{is_blank}

-- where the first line ends
abbrev pub line_end : List ℕ → ℕ
line_end [] = 0
line_end (b ∷ bs) = if b == byte "\n" then 0 else suc (line_end bs)

-- where the first word ends
abbrev pub word_end : List ℕ → ℕ
word_end [] = 0
word_end (b ∷ bs) = if is_blank b then 0 else suc (word_end bs)
