-- Paths that are the same, and one more file in a directory of the files before it.
use Rattle.std.proofs.Common.{◌≡◌, ℕ, Bool, true, false, ◌&&◌, List, [], ◌∷◌, ◌++◌, refl, ap, sym, ◌∙◌, append_assoc}
use Rattle.std.specs.Bool.{Decides}
use Rattle.std.proofs.lemmas.Slice.Eq.{bytes_eq-Decides}
use Rattle.std.proofs.lemmas.List.{append-nil}
use Rattle.std.specs.Cmp.Lexicographic.{pointwise}
use Rattle.std.specs.Str.{bytes_eq}
use Rattle.mf_calls.specs.declared.script.FileLine.{FileLine}
use Rattle.mf_calls.specs.Paths.{directory_of, has_directory}
use Rattle.mf_calls.specs.WellFormed.{AreInDirectories}

pub same_path : (p : List (List ℕ)) → pointwise bytes_eq p p ≡ true
same_path [] = refl
same_path (w ∷ ws) = let here : bytes_eq w w ≡ true = (bytes_eq-Decides w w).1 refl in rw here (same_path ws)

same_is : (p q : List (List ℕ)) → pointwise bytes_eq p q ≡ true → p ≡ q
same_is [] [] e = refl
same_is [] (w ∷ ws) e = cc
same_is (v ∷ vs) [] e = cc
same_is (v ∷ vs) (w ∷ ws) e = by_test (bytes_eq v w) (bytes_eq-Decides v w).0 (same_is vs ws) e where
  by_test : (t : Bool) → (t ≡ true → v ≡ w) → (pointwise bytes_eq vs ws ≡ true → vs ≡ ws) → (t && pointwise bytes_eq vs ws) ≡ true → v ∷ vs ≡ w ∷ ws
  by_test true here rest e = ap (λ (v : List ℕ). v ∷ vs) (here refl) ∙ ap (λ (vs : List (List ℕ)). w ∷ vs) (rest e)
  by_test false here rest e = cc

pub same_path_decides : (p q : List (List ℕ)) → Decides (pointwise bytes_eq p q) (p ≡ q)
same_path_decides p q = (same_is p q, λ e. ap (pointwise bytes_eq p) (sym e) ∙ same_path p)

pub last_in_directory : (earlier files : List FileLine) (f : FileLine) → AreInDirectories earlier files → has_directory (earlier ++ files) (directory_of f.path) ≡ true
    → AreInDirectories earlier (files ++ f ∷ [])
last_in_directory earlier [] f are e = (ap (λ files. has_directory files (directory_of f.path)) (sym (append-nil earlier)) ∙ e, tt)
last_in_directory earlier (g ∷ files) f are e =
    (are.0, last_in_directory (earlier ++ g ∷ []) files f are.1 (ap (λ files. has_directory files (directory_of f.path)) (append_assoc earlier (g ∷ []) files) ∙ e))
