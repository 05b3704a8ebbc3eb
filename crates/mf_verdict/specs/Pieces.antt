-- The lines of a text, and which of them are of a history and which of its sources.
use Rattle.std.specs.Prelude.{◌≡◌, ◌≢◌, ℕ, ◌-◌, ◌<◌, Bool, not, ◌==◌, if◌then◌else◌, List, [], ◌∷◌, length, take, drop, codes}
use Rattle.std.specs.List.{onto_first, starts_with, take_while}
use Rattle.std.specs.Str.{byte}

-- each line with its newline, which the last one may lack
abbrev pub pieces : List ℕ → List (List ℕ)
pieces [] = []
pieces (b ∷ bs) = if b == byte "\n" then (b ∷ []) ∷ pieces bs else onto_first b (pieces bs)

-- it begins as a line of the sources
abbrev pub is_source : List ℕ → Bool
is_source line = starts_with ◌==◌ line (codes "source ")

-- the lines before the first that begins so
abbrev pub history_part : List ℕ → List (List ℕ)
history_part text = take_while (λ line. not (is_source line)) (pieces text)

-- that line and those behind it
abbrev pub sources_part : List ℕ → List (List ℕ)
sources_part text = drop (length (history_part text)) (pieces text)

-- the first line that isn't the same in both, or that one of them alone has; lines count from 1
abbrev pub IsFirstDifference : List (List ℕ) → List (List ℕ) → ℕ → Type 0
IsFirstDifference lines others n = (0 < n) × (take (n - 1) lines ≡ take (n - 1) others) × (take n lines ≢ take n others)
