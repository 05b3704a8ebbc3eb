-- Sets of elements by their numbers: which elements a set has, in the order in which they are listed.
use Rattle.std.specs.Prelude.{◌≡◌, ◌≢◌, ℕ, ◌/◌, ◌%◌, ◌<◌, ◌≤◌, Bool, false, ◌||◌, ◌==◌, Option, Some, None, List, [], ◌∷◌, filter, length, map, slice_index, slice_index_or, slice_set}
use Rattle.std.specs.Int.{bit_at}
use Rattle.std.specs.List.{AllByRecursion}
use Rattle.std.specs.declared.cmp.Ordering.TheVariants.{Less, Equal}
use Rattle.mf_elem.specs.declared.elem.Elem.{Elem}
use Rattle.mf_flow.specs.declared.known.Numbered.{Numbered}
use Rattle.mf_flow.specs.Order.{elem_cmp}

-- whether words have the bit of a number, counted through them
abbrev pub has_bit : List ℕ → ℕ → Bool
has_bit words n = bit_at (slice_index words (n / 64)) (n % 64) == 1

-- the elements whose numbers pass, in order
abbrev pub listed : (ℕ → Bool) → List Numbered → List Elem
listed test known = map (λ k. k.element) (filter (λ k. test k.number) known)

-- the one comes before the other, and has another number
abbrev pub AreApart : Numbered → Numbered → Type 0
AreApart a b = (elem_cmp a.element b.element ≡ Less) × (a.number ≢ b.number)

-- the elements are in order, and each has a number of its own, below how many there are
pub record AreNumbered (known : List Numbered) : Type 0 where
  pub apart : (i j : ℕ) (d : Numbered) → i < j → j < length known → AreApart (slice_index_or known i d) (slice_index_or known j d)
  pub below : (i : ℕ) (d : Numbered) → i < length known → (slice_index_or known i d).number < length known

-- those at lesser places come before the element, and the others don't
pub record IsPlaceOf (element : Elem) (known : List Numbered) (place : ℕ) : Type 0 where
  pub within : place ≤ length known
  pub less : (k : ℕ) (d : Numbered) → k < place → elem_cmp (slice_index_or known k d).element element ≡ Less
  pub not_less : (k : ℕ) (d : Numbered) → place ≤ k → k < length known → elem_cmp (slice_index_or known k d).element element ≢ Less

-- another element stands there, if any
abbrev pub IsOtherAt : Elem → List Numbered → ℕ → Type 0
IsOtherAt element known place = (d : Numbered) → place < length known → elem_cmp (slice_index_or known place d).element element ≢ Equal

-- the element has the number, and what the old numbers list is as it was
pub record IsNumberIn (element : Elem) (number : ℕ) (old new : List Numbered) : Type 0 where
  pub more : length old ≤ length new
  pub kept : (test : ℕ → Bool) → ((n : ℕ) → length old ≤ n → test n ≡ false) → listed test new ≡ listed test old
  pub alone : listed (λ n. n == number) new ≡ element ∷ []
  pub within : number < length new

-- Sets of all entities, by their words

-- the lists of all
abbrev pub rows_of : List Numbered → List (List ℕ) → List (List Elem)
rows_of known sets = map (λ words. listed (has_bit words) known) sets

-- a set has no number that wasn't given
abbrev pub IsWithin : ℕ → List ℕ → Type 0
IsWithin given words = (n : ℕ) → given ≤ n → has_bit words n ≡ false

pub record AreSets (known : List Numbered) (sets : List (List ℕ)) : Type 0 where
  pub numbered : AreNumbered known
  pub within : AllByRecursion (IsWithin (length known)) sets

-- the words of an entity's set, which is empty where there is none
abbrev pub words_at : List (List ℕ) → Option ℕ → List ℕ
words_at sets None = 0 ∷ []
words_at sets (Some number) = slice_index_or sets number (0 ∷ [])

-- the set at a place has got these numbers too
pub record IsJoinedBy (given : List ℕ) (place : ℕ) (old new : List (List ℕ)) : Type 0 where
  pub words : List ℕ
  pub is : new ≡ slice_set old place words
  pub both : (n : ℕ) → has_bit words n ≡ (has_bit (slice_index_or old place (0 ∷ [])) n || has_bit given n)

-- what the old numbers list is as it was
pub record KeepsLists (old new : List Numbered) : Type 0 where
  pub numbered : AreNumbered new
  pub more : length old ≤ length new
  pub kept : (test : ℕ → Bool) → ((n : ℕ) → length old ≤ n → test n ≡ false) → listed test new ≡ listed test old

-- the row of an entity, which is empty where there is none
abbrev pub row_numbered : List (List Elem) → Option ℕ → List Elem
row_numbered rows None = []
row_numbered rows (Some number) = slice_index_or rows number []
