-- What stands in front of an element of a label.
use Rattle.std.specs.Prelude.{ℕ, List, [], ◌∷◌, ◌==◌, if◌then◌else◌}
use Rattle.std.specs.Str.{byte}

-- what stands in front of an element behind so many others
abbrev pub comma_behind : ℕ → List ℕ
comma_behind elements = if elements == 0 then [] else byte "," ∷ []
