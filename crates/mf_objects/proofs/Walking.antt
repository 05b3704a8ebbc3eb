-- Live entities, one after another, by rising ids: where the next one is found.
use Rattle.std.proofs.Common.{◌≡◌, ℕ, ◌<◌, ◌≤◌, ◌+◌, zero, suc, true, false, nat_le, List, [], ◌∷◌, ◌++◌, length, take, get_or, slice_get, Some, None, refl, ap, arith}
use Rattle.std.specs.Prelude.{find}
use Rattle.std.proofs.lemmas.Bool.Decides.{nat_tests}
use Rattle.mf_objects.specs.Live.{LiveEntity}
use Rattle.mf_objects.specs.Lives.{is_from}
use Rattle.mf_objects.specs.Population.{IsRising}

pub from_less : (n m : ℕ) → n ≤ m → nat_le n m ≡ true
from_less n m l = grind (arith, nat_tests)

not_from : (n m : ℕ) → m < n → nat_le n m ≡ false
not_from n m l = grind (arith, nat_tests)

-- the first from a number on that is at most the first id
pub first_is : (n least next : ℕ) (es : List LiveEntity) → n ≤ least → IsRising least next es → find (is_from n) es ≡ slice_get es 0
first_is n least next [] l rising = refl
first_is n least next (x ∷ es) l rising =
    let test : is_from n x ≡ true = from_less n x.id.0 (omega (arith, rising.0)) in
    rw test refl

later_id : (es : List LiveEntity) (n least next : ℕ) (d : LiveEntity) → n < length es → IsRising least next es → least ≤ (get_or es n d).id.0
later_id [] n least next d within rising = absurd (omega arith)
later_id (x ∷ es) zero least next d within rising = rising.0
later_id (x ∷ es) (suc n) least next d within rising = omega (arith, rising.0, later_id es n (x.id.0 + 1) next d (omega arith) rising.1)

-- behind one entity the next is found
pub next_found : (es : List LiveEntity) (n least next : ℕ) (d : LiveEntity) → n < length es → IsRising least next es
    → find (is_from ((get_or es n d).id.0 + 1)) es ≡ slice_get es (n + 1)
next_found [] n least next d within rising = absurd (omega arith)
next_found (x ∷ es) zero least next d within rising =
    let miss : is_from (x.id.0 + 1) x ≡ false = not_from (x.id.0 + 1) x.id.0 (omega arith) in
    rw miss (first_is (x.id.0 + 1) (x.id.0 + 1) next es (omega arith) rising.1)
next_found (x ∷ es) (suc n) least next d within rising =
    let later : x.id.0 + 1 ≤ (get_or es n d).id.0 = later_id es n (x.id.0 + 1) next d (omega arith) rising.1 in
    let miss : is_from ((get_or es n d).id.0 + 1) x ≡ false = not_from ((get_or es n d).id.0 + 1) x.id.0 (omega arith) in
    let place : suc n + 1 ≡ suc (n + 1) = omega arith in
    rw (miss, place) (next_found es n (x.id.0 + 1) next d (omega arith) rising.1)

-- what is at a place is what is read there by default
pub got : {A : Type 0} (xs : List A) (n : ℕ) (x d : A) → slice_get xs n ≡ Some x → get_or xs n d ≡ x
got [] n x d found = cc
got (y ∷ xs) zero x d found = cc
got (y ∷ xs) (suc n) x d found = got xs n x d found

-- within its length, a list has something at each place
pub there : {A : Type 0} (xs : List A) (n : ℕ) → n < length xs → slice_get xs n ≡ None → ⊥
there [] n within none = absurd (omega arith)
there (y ∷ xs) zero within none = cc
there (y ∷ xs) (suc n) within none = there xs n (omega arith) none

-- one more than so many is these and the next
pub taken_more : {A : Type 0} (xs : List A) (n : ℕ) (x : A) → slice_get xs n ≡ Some x → take (n + 1) xs ≡ take n xs ++ x ∷ []
taken_more [] n x found = cc
taken_more (y ∷ xs) zero x found =
    let same : y ≡ x = cc in
    rw same refl
taken_more (y ∷ xs) (suc n) x found =
    let place : suc n + 1 ≡ suc (n + 1) = omega arith in
    rw place (ap (λ (ys : List _). y ∷ ys) (taken_more xs n x found))
