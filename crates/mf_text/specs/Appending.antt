-- Texts that are appended to.
use Rattle.std.specs.Prelude.{◌≡◌, ℕ, List, length, take}

-- The text begins with what was there before: others were appended to it, and it was left as it was.
abbrev pub Extends : List ℕ → List ℕ → Type 0
Extends before text = take (length before) text ≡ before
