-- Lists of policies, seen as the lists of their modules.
use Rattle.std.proofs.Common.{◌≡◌, ℕ, Bool, not, ltb, cond, Some, None, List, [], ◌∷◌, map, length, refl, ap, ◌∙◌, ◌+◌, zero, suc}
use Rattle.std.specs.List.{remove, position, position_or_len, prefix_len}

pub map-remove : {X Y : Type 0} (f : X → Y) (xs : List X) (i : ℕ) → map f (remove xs i) ≡ remove (map f xs) i
map-remove f [] zero = refl
map-remove f [] (suc i) = refl
map-remove f (x ∷ xs) zero = refl
map-remove f (x ∷ xs) (suc i) = ap (λ (ys : List _). f x ∷ ys) (map-remove f xs i)

map-length : {X Y : Type 0} (f : X → Y) (xs : List X) → length (map f xs) ≡ length xs
map-length f [] = refl
map-length f (x ∷ xs) = ap suc (map-length f xs)

map-prefix : {X Y : Type 0} (f : X → Y) (p : Y → Bool) (xs : List X) → prefix_len p (map f xs) ≡ prefix_len (λ x. p (f x)) xs
map-prefix f p [] = refl
map-prefix f p (x ∷ xs) = ap (λ (n : ℕ). cond (p (f x)) (1 + n) 0) (map-prefix f p xs)

pub map-position : {X Y : Type 0} (f : X → Y) (p : Y → Bool) (xs : List X) → position p (map f xs) ≡ position (λ x. p (f x)) xs
map-position f p xs =
    ap (λ (n : ℕ). cond (ltb n (length (map f xs))) (Some n) None) (map-prefix f (λ y. not (p y)) xs)
    ∙ ap (λ (n : ℕ). cond (ltb (position_or_len (λ x. p (f x)) xs) n) (Some (position_or_len (λ x. p (f x)) xs)) None) (map-length f xs)
