-- That no module stands twice.
use Rattle.std.specs.Prelude.{ℕ, ◌+◌, ◌≤◌, Bool, true, not, ◌&&◌, List, [], ◌∷◌}
use Rattle.mf_errno.specs.Same.{same_module}
use Rattle.mf_errno.specs.declared.module.Module.{Module}
use Rattle.mf_policy.specs.Registration.{Entry, is_of}
use Rattle.mf_list.specs.Lists.{in_catalogue}
use Rattle.mf_list.specs.Held.{how_many}

-- no module is listed twice
abbrev pub IsListedOnce : List Entry → Type 0
IsListedOnce entries = (m : Module) → how_many (is_of m) entries ≤ 1

-- no module is twice in the catalogue
abbrev pub AreDistinct : List Module → Type 0
AreDistinct modules = (m : Module) → how_many (same_module m) modules ≤ 1

-- whether no module stands there twice
abbrev pub are_distinct : List Module → Bool
are_distinct [] = true
are_distinct (m ∷ ms) = not (in_catalogue m ms) && are_distinct ms

-- how often the module is listed and in the catalogue
abbrev pub times_held : Module → List Entry → List Module → ℕ
times_held m listed catalogue = how_many (is_of m) listed + how_many (same_module m) catalogue

-- each module is held at most once, by the lists or by the catalogue
abbrev pub IsHeldOnce : List Entry → List Module → Type 0
IsHeldOnce listed catalogue = (m : Module) → times_held m listed catalogue ≤ 1
