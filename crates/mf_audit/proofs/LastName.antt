-- The last component of a path, behind those before it.
use Rattle.std.proofs.Common.{◌≡◌, ℕ, List, [], ◌∷◌, ◌++◌, refl, ap, ◌∙◌}
use Rattle.mf_plan.specs.Path.{last_name}

last_is : (before : List (List ℕ)) (last : List ℕ) → last_name (before ++ last ∷ []) ≡ last
last_is [] last = refl
last_is (name ∷ []) last = refl
last_is (name ∷ below ∷ rest) last = last_is (below ∷ rest) last

pub last_of : (path before : List (List ℕ)) (last : List ℕ) → path ≡ before ++ last ∷ [] → last_name path ≡ last
last_of path before last is = ap last_name is ∙ last_is before last
