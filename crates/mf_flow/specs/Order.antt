-- The order of elements in which the sources of a party are listed, and sets of elements in that order: this model's own.
use Rattle.std.specs.Prelude.{ℕ, Bool, true, List, [], ◌∷◌}
use Rattle.std.specs.Ordering.{is_eq, nat_cmp}
use Rattle.std.specs.declared.cmp.Ordering.{Ordering}
use Rattle.std.specs.Cmp.Lexicographic.{slice_cmp}
use Rattle.std.specs.Set.{sorted_merge}
use Rattle.mf_elem.specs.declared.elem.Elem.{Elem}
use Rattle.mf_elem.specs.declared.elem.Elem.TheVariants.{Low, High, Equal, Grade}
use Rattle.mf_elem.specs.Comps.{rising}

-- low comes first, then the grades by grade and by their rising compartments, then high; equal, which is no source, comes last
abbrev pub place_of : Elem → List ℕ
place_of Low = 0 ∷ []
place_of (Grade grade comps) = 1 ∷ grade ∷ rising comps
place_of High = 2 ∷ []
place_of Equal = 3 ∷ []

-- number by number, a proper beginning first
abbrev pub elem_cmp : Elem → Elem → Ordering
elem_cmp a b = slice_cmp nat_cmp (place_of a) (place_of b)

-- whether two elements are one
abbrev pub is_same_element : Elem → Elem → Bool
is_same_element a b = is_eq (elem_cmp a b)

-- the elements of either set, each once, in order
abbrev pub union : List Elem → List Elem → List Elem
union set other = sorted_merge elem_cmp true set other
