-- Words with a space before each, and what holds of each byte of a text.
use Rattle.std.proofs.Common.{◌≡◌, ℕ, Bool, true, false, ◌&&◌, List, [], ◌∷◌, ◌++◌, refl}
use Rattle.std.specs.List.{list_all}

-- each word behind a space
abbrev pub behind : List (List ℕ) → List ℕ
behind [] = []
behind (w ∷ ws) = 32 ∷ (w ++ behind ws)

pub both : (a b : Bool) → (a && b) ≡ true → (a ≡ true) × (b ≡ true)
both true b e = (refl, e)
both false b e = absurd (cc)

pub join : (a b : Bool) → a ≡ true → b ≡ true → (a && b) ≡ true
join a b x y = rw x y

pub all_append : (p : ℕ → Bool) (a b : List ℕ) → list_all p a ≡ true → list_all p b ≡ true → list_all p (a ++ b) ≡ true
all_append p [] b pa pb = pb
all_append p (x ∷ a) b pa pb = let each = both (p x) (list_all p a) pa in join (p x) (list_all p (a ++ b)) each.0 (all_append p a b each.1 pb)

pub all_map : (p q : ℕ → Bool) (w : List ℕ) → ((b : ℕ) → p b ≡ true → q b ≡ true) → list_all p w ≡ true → list_all q w ≡ true
all_map p q [] step all = refl
all_map p q (b ∷ w) step all = let each = both (p b) (list_all p w) all in join (q b) (list_all q w) (step b each.0) (all_map p q w step each.1)
