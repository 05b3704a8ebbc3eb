-- The full name of a child, piece by piece.
use Rattle.std.proofs.Common.{◌≡◌, ◌≢◌, ℕ, Bool, true, false, List, [], ◌∷◌, ◌++◌, eq-eqb, refl, ap, sym, ◌∙◌, append_assoc}
use Rattle.std.specs.Prelude.{codes}
use Rattle.std.specs.Str.{bytes_eq}
use Rattle.std.proofs.lemmas.Slice.Eq.{bytes_eq-Decides}
use Rattle.mf_plan.specs.Names.{child_name}

-- what comes first in both is the same
front_same : (front a b : List ℕ) → bytes_eq (front ++ a) (front ++ b) ≡ bytes_eq a b
front_same [] a b = refl
front_same (x ∷ front) a b = rw (eq-eqb x x refl) (front_same front a b)

cancel : (front a b : List ℕ) → front ++ a ≡ front ++ b → a ≡ b
cancel [] a b same = same
cancel (x ∷ front) a b same = cancel front a b (tails x (front ++ a) (front ++ b) same)
  where
    tails : (y : ℕ) (c d : List ℕ) → y ∷ c ≡ y ∷ d → c ≡ d
    tails y c d e = cc

not_true : (b : Bool) → (b ≡ true → ⊥) → false ≡ b
not_true true no_true = absurd (no_true refl)
not_true false no_true = refl

module _ (name task child : List ℕ) where
  is_child : bytes_eq name (child_name task child) ≡ true → name ≡ task ++ (codes "." ++ child)
  is_child is = (bytes_eq-Decides name (child_name task child)).0 is ∙ append_assoc task (codes ".") child

  -- it doesn't begin with the task's name
  pub no_front : (s p : List ℕ) → s ≡ name → p ≡ task → ((rest : List ℕ) → s ≢ p ++ rest) → false ≡ bytes_eq name (child_name task child)
  no_front s p whole front never =
      not_true (bytes_eq name (child_name task child))
      (λ is. never (codes "." ++ child) (whole ∙ is_child is ∙ ap (λ (x : List ℕ). x ++ (codes "." ++ child)) (sym front)))

  begins : (s p rest : List ℕ) → s ≡ name → p ≡ task → s ≡ p ++ rest → name ≡ task ++ rest
  begins s p rest whole front is = sym whole ∙ is ∙ ap (λ (x : List ℕ). x ++ rest) front

  -- it goes on without a dot
  pub no_dot : (s p rest : List ℕ) → s ≡ name → p ≡ task → s ≡ p ++ rest → ((own : List ℕ) → rest ≢ codes "." ++ own)
      → false ≡ bytes_eq name (child_name task child)
  no_dot s p rest whole front is never =
      not_true (bytes_eq name (child_name task child))
      (λ all. never child (cancel task rest (codes "." ++ child) (sym (begins s p rest whole front is) ∙ is_child all)))

  -- the task's name, a dot, and the rest
  pub child_rest : (s p rest own : List ℕ) → s ≡ name → p ≡ task → s ≡ p ++ rest → rest ≡ codes "." ++ own
      → bytes_eq own child ≡ bytes_eq name (child_name task child)
  child_rest s p rest own whole front is dot =
      sym (front_same (task ++ codes ".") own child)
      ∙ ap (λ (x : List ℕ). bytes_eq x (child_name task child))
      (append_assoc task (codes ".") own ∙ ap (λ (x : List ℕ). task ++ x) (sym dot) ∙ sym (begins s p rest whole front is))
