-- Places in a list.
use Rattle.std.proofs.Common.{◌≡◌, ℕ, Bool, true, false, cond, suc, ◌+◌, ltb, List, [], ◌∷◌, length, Some, None, is_some, refl, arith, ◌∙◌}
use Rattle.std.specs.List.{list_any, position, position_or_len}
use Rattle.std.proofs.lemmas.Bool.{le-ltb, lt-ltb, ltb-false, ltb-true}

step : (n k : ℕ) (b : Bool) → ltb n k ≡ b → ltb (1 + n) (suc k) ≡ b
step n k true h = lt-ltb (1 + n) (suc k) (omega (arith, ltb-true n k h))
step n k false h = le-ltb (1 + n) (suc k) (omega (arith, ltb-false n k h))

module _ {X : Type 0} (p : X → Bool) where
  within : (xs : List X) → ltb (position_or_len p xs) (length xs) ≡ list_any p xs
  within [] = refl
  within (x ∷ xs) = one (p x) refl (within xs)
    where
      one : (b : Bool) → p x ≡ b → ltb (position_or_len p xs) (length xs) ≡ list_any p xs → ltb (position_or_len p (x ∷ xs)) (length (x ∷ xs)) ≡ list_any p (x ∷ xs)
      one true is rest = rw is (lt-ltb 0 (suc (length xs)) (omega arith))
      one false is rest = rw is (step (position_or_len p xs) (length xs) (list_any p xs) rest)

  -- some place passes exactly where an element does
  pub some_place : (xs : List X) → is_some (position p xs) ≡ list_any p xs
  some_place xs = one (ltb (position_or_len p xs) (length xs)) ∙ within xs
    where
      one : (b : Bool) → is_some (cond b (Some (position_or_len p xs)) None) ≡ b
      one true = refl
      one false = refl
