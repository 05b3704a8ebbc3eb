-- What the readers of lines answer; inner contracts alone cite this.
use Rattle.std.specs.Prelude.{◌≡◌, ◌⊎◌, ℕ, List, [], ◌∷◌, ◌++◌}
use Rattle.std.specs.Str.{byte}
use Rattle.mf_hist.specs.Found.{Lacks}

-- the line is the text up to the first newline, and with it
pub record IsWholeLine (text line after : List ℕ) : Type 0 where
  pub front : List ℕ
  pub lacks : Lacks (byte "\n") front
  pub with_newline : line ≡ front ++ byte "\n" ∷ []
  pub parts : text ≡ line ++ after

-- the text has no newline
pub record IsLastLine (text line after : List ℕ) : Type 0 where
  pub lacks : Lacks (byte "\n") text
  pub all : line ≡ text
  pub none : after ≡ []

-- the first line of a text, which may be its last and lack its newline, and the text behind it
abbrev pub IsFirstLine : List ℕ → List ℕ → List ℕ → Type 0
IsFirstLine text line after = IsWholeLine text line after ⊎ IsLastLine text line after
