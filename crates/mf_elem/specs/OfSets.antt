-- The one value of each set of compartments.
use Rattle.std.specs.Prelude.{ℕ, ◌+◌, ◌*◌, ◌^◌, Bool, if◌then◌else◌, List, [], ◌∷◌}
use Rattle.std.specs.Ordering.{nat_cmp}
use Rattle.std.specs.FinSet as set
use Rattle.std.specs.FinSet.{FinSet}
use Rattle.mf_elem.specs.declared.comps.Comps.{Comps}
use Prim.Native.Nat.{suc, zero}

-- the number whose bits below k are those that pass
unfoldable pub number_with : (ℕ → Bool) → ℕ → ℕ
number_with f zero = 0
number_with f (suc i) = number_with f i + (if f i then 2 ^ i else 0)

-- a word of a set
abbrev pub word_of : FinSet nat_cmp → ℕ → ℕ
word_of s k = number_with (λ i. set.contains s (64 * k + i + 1)) 64

-- the four words of a set
abbrev pub words_of : FinSet nat_cmp → List ℕ
words_of s = word_of s 0 ∷ word_of s 1 ∷ word_of s 2 ∷ word_of s 3 ∷ []

-- the one value that stands for a set of numbers from 1 to LAST_COMPARTMENT
unfoldable pub comps_of : FinSet nat_cmp → Comps
comps_of s = record { words = words_of s }
