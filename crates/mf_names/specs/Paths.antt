-- The text that a path is kept as: each component behind a slash, and nothing for the root directory. This is the model's own.
use Rattle.std.specs.Prelude.{◌≡◌, ℕ, ◌≤◌, ◌==◌, Bool, false, List, [], ◌∷◌, length, Option, Some, None, All}
use Rattle.std.specs.List.{slice_split}
use Rattle.std.specs.Str.{byte}
use Rattle.mf_names.specs.declared.limits.TheConstants.{PATH_LIMIT}
use denote.Ref.{Bor}

abbrev pub is_slash : ℕ → Bool
is_slash b = b == byte "/"

-- a text that can be a component
abbrev pub HasNoSlash : List ℕ → Type 0
HasNoSlash text = All (λ b. is_slash b ≡ false) text

-- what stands behind the first slash of a path, where there is one
abbrev pub components_behind : Option (Bor (List ℕ)) → List (List ℕ)
components_behind None = []
components_behind (Some text) = slice_split is_slash text.now

-- the components of a path with this text
abbrev pub components_in : List ℕ → List (List ℕ)
components_in [] = []
components_in (b ∷ text) = slice_split is_slash text

-- no text, or a slash and more
abbrev pub BeginsWithSlash : List ℕ → Type 0
BeginsWithSlash [] = Unit {0}
BeginsWithSlash (b ∷ text) = b ≡ byte "/"

-- the text of a path
pub record IsPathText (text : List ℕ) : Type 0 where
  pub begins : BeginsWithSlash text
  pub few : length (components_in text) ≤ PATH_LIMIT
