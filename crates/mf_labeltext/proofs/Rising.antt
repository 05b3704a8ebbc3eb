-- The rising compartments of a set make the set again.
use Rattle.std.proofs.Common.{◌≡◌, ℕ, ◌≤◌, suc, zero, Bool, true, false, cond, List, [], ◌∷◌, ◌++◌, filter, refl, sym, subst, arith}
use Rattle.std.specs.List.{AllByRecursion}
use Rattle.std.specs.FinSet as set
use Rattle.mf_elem.specs.Comps.{is_there, rising, compartments_of}
use Rattle.mf_elem.proofs.Among.{numbers_to}
use Rattle.mf_elem.specs.OfSets.{comps_of}
use Rattle.mf_elem.specs.Bounds.{AreWords}
use Rattle.mf_elem.specs.declared.comps.Comps.{Comps}
use Rattle.mf_elem.proofs.CompsLaws.{comps_again, rising_to}

-- ---- the set again
pub rising_again : (comps : Comps) → AreWords comps.words → comps ≡ comps_of (set.from_list (rising comps))
rising_again comps are = comps_again comps.words are (compartments_of comps) refl

-- ---- all of them are compartments
abbrev pub IsCompartment : ℕ → Type 0
IsCompartment n = (1 ≤ n) × (n ≤ 256)

all_append : (xs ys : List ℕ) → AllByRecursion IsCompartment xs → AllByRecursion IsCompartment ys → AllByRecursion IsCompartment (xs ++ ys)
all_append [] ys one other = other
all_append (x ∷ xs) ys one other = (one.0, all_append xs ys one.1 other)

all_numbers : (n : ℕ) → n ≤ 256 → AllByRecursion IsCompartment (numbers_to n)
all_numbers zero most = tt
all_numbers (suc n) most = all_append (numbers_to n) (suc n ∷ []) (all_numbers n (omega arith)) ((omega arith, most), tt)

all_filter : (test : ℕ → Bool) (xs : List ℕ) → AllByRecursion IsCompartment xs → AllByRecursion IsCompartment (filter test xs)
all_filter test [] all = tt
all_filter test (x ∷ xs) all =
    elim (test x) as (λ b. AllByRecursion IsCompartment (cond b (x ∷ filter test xs) (filter test xs))) [
      | true ↦ (all.0, all_filter test xs all.1)
      | false ↦ all_filter test xs all.1
    ]

pub rising_are : (comps : Comps) → AllByRecursion IsCompartment (rising comps)
rising_are comps = subst (AllByRecursion IsCompartment) (sym (rising_to comps)) (all_filter (is_there comps.words) (numbers_to 256) (all_numbers 256 (omega arith)))
