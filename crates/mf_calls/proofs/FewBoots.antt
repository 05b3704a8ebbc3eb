-- How many modules a script boots at most, and how many label slots these take.
use Rattle.std.proofs.Common.{◌≡◌, ◌≢◌, ℕ, zero, suc, ◌+◌, ◌<◌, ◌≤◌, get_or, slice_get, take, Bool, true, false, cond, ◌||◌, List, [], ◌∷◌, length, Some, refl, ap, sym, ◌∙◌, arith}
use Rattle.std.specs.Prelude.{AllPairs, fold}
use Rattle.mf_errno.specs.declared.module.Module.{Module}
use Rattle.mf_errno.specs.declared.module.Module.TheVariants.{Biba}
use Rattle.mf_errno.specs.Names.{all_modules}
use Rattle.mf_errno.specs.Same.{same_module}
use Rattle.mf_errno.proofs.Modules.{same_module-is}
use Rattle.mf_policy.specs.Modules.{wants_slot}
use Rattle.mf_policy.specs.Registration.{given_after}
use Rattle.mf_calls.specs.WellFormed.{AreBoots}
use Rattle.mf_calls.specs.Boots.{is_booted}

-- how much the modules weigh together
total : (Module → ℕ) → List Module → ℕ
total weight [] = 0
total weight (m ∷ ms) = weight m + total weight ms

-- how much those of these modules weigh that are booted, and those that are this one
booted_weight : (Module → ℕ) → List Module → List Module → ℕ
booted_weight weight boots [] = 0
booted_weight weight boots (k ∷ ks) = cond (is_booted boots k) (weight k) 0 + booted_weight weight boots ks

own_weight : (Module → ℕ) → Module → List Module → ℕ
own_weight weight m [] = 0
own_weight weight m (k ∷ ks) = cond (same_module k m) (weight k) 0 + own_weight weight m ks

-- a module that differs from each of these is none of them
unbooted : (m : Module) (boots : List Module) → ((j : ℕ) → j < length boots → m ≢ get_or boots j m) → is_booted boots m ≡ false
unbooted m [] differ = refl
unbooted m (x ∷ boots) differ = by_test (same_module m x) refl (unbooted m boots (λ j within. differ (suc j) (omega (arith, within)))) where
  by_test : (t : Bool) → same_module m x ≡ t → is_booted boots m ≡ false → (t || is_booted boots m) ≡ false
  by_test true same rest = absurd (differ 0 (omega arith) (same_module-is m x same))
  by_test false same rest = rest

module _ (weight : Module → ℕ) where
  -- each module is once among all
  once_among : (m : Module) → own_weight weight m all_modules ≡ weight m
  unfolding own_weight
  once_among Biba = omega arith
  once_among other = omega arith

  -- a further booted module adds its own
  one_more : (m : Module) (boots ks : List Module) → is_booted boots m ≡ false
      → booted_weight weight (m ∷ boots) ks ≡ own_weight weight m ks + booted_weight weight boots ks
  unfolding booted_weight own_weight
  one_more m boots [] first = refl
  one_more m boots (k ∷ ks) first = by_test (same_module k m) refl (one_more m boots ks first) where
    by_test : (t : Bool) → same_module k m ≡ t → booted_weight weight (m ∷ boots) ks ≡ own_weight weight m ks + booted_weight weight boots ks
        → cond (t || is_booted boots k) (weight k) 0 + booted_weight weight (m ∷ boots) ks
        ≡ cond t (weight k) 0 + own_weight weight m ks + (cond (is_booted boots k) (weight k) 0 + booted_weight weight boots ks)
    by_test true same rest =
        let none : is_booted boots k ≡ false = ap (is_booted boots) (same_module-is k m same) ∙ first in
        rw none (omega (arith, rest))
    by_test false same rest = omega (arith, rest)

  none_booted : (ks : List Module) → booted_weight weight [] ks ≡ 0
  unfolding booted_weight
  none_booted [] = refl
  none_booted (k ∷ ks) = omega (arith, none_booted ks)

  -- of modules that differ, each counts once
  counted : (boots : List Module) → AllPairs (λ m n. m ≢ n) boots → total weight boots ≡ booted_weight weight boots all_modules
  unfolding total
  counted [] differ = sym (none_booted all_modules)
  counted (m ∷ boots) differ =
      let first = unbooted m boots (λ j within. differ 0 (suc j) m (omega arith) (omega (arith, within))) in
      let rest = counted boots (λ i j d less within. differ (suc i) (suc j) d (omega (arith, less)) (omega (arith, within))) in
      omega (arith, rest, one_more m boots all_modules first, once_among m)

  at_most_all : (boots ks : List Module) → booted_weight weight boots ks ≤ total weight ks
  unfolding booted_weight total
  at_most_all boots [] = omega arith
  at_most_all boots (k ∷ ks) = one (is_booted boots k) (at_most_all boots ks) where
    one : (b : Bool) → booted_weight weight boots ks ≤ total weight ks → cond b (weight k) 0 + booted_weight weight boots ks ≤ weight k + total weight ks
    one true rest = omega (arith, rest)
    one false rest = omega (arith, rest)

-- modules that differ weigh no more than all
no_more : (weight : Module → ℕ) (boots : List Module) → AreBoots boots → total weight boots ≤ total weight all_modules
no_more weight boots are = omega (arith, counted weight boots are, at_most_all weight boots all_modules)

by_ones : (ms : List Module) → length ms ≡ total (λ _. 1) ms
unfolding total
by_ones [] = refl
by_ones (m ∷ ms) = omega (arith, by_ones ms)

pub few_boots : (boots : List Module) → AreBoots boots → length boots ≤ length all_modules
few_boots boots are = omega (arith, by_ones boots, by_ones all_modules, no_more (λ _. 1) boots are)

-- how many of the modules want a label slot
slots_wanted : List Module → ℕ
slots_wanted modules = total (λ m. cond (wants_slot m) 1 0) modules

few_slots : (boots : List Module) → AreBoots boots → slots_wanted boots ≤ 4
unfolding slots_wanted total
few_slots boots are = no_more (λ m. cond (wants_slot m) 1 0) boots are

-- Slot numbers

one_slot : (wanted : Bool) (given : ℕ) → cond wanted (given + 1) given ≡ given + cond wanted 1 0
one_slot true given = refl
one_slot false given = omega arith

given_for : (given : ℕ) (modules : List Module) → fold given_after given modules ≡ given + slots_wanted modules
unfolding slots_wanted total
given_for given [] = omega arith
given_for given (m ∷ modules) = omega (arith, given_for (given_after given m) modules, one_slot (wants_slot m) given)

wanted_by_first : (n : ℕ) (modules : List Module) → slots_wanted (take n modules) ≤ slots_wanted modules
unfolding slots_wanted total
wanted_by_first zero modules = omega arith
wanted_by_first (suc n) [] = omega arith
wanted_by_first (suc n) (m ∷ modules) = omega (arith, wanted_by_first n modules)

-- the slot of one of the modules counts besides those of the modules before it
with_next : (n : ℕ) (modules : List Module) (m : Module) → slice_get modules n ≡ Some m → slots_wanted (take n modules) + cond (wants_slot m) 1 0 ≤ slots_wanted modules
unfolding slots_wanted total
with_next n [] m at = absurd cc
with_next zero (x ∷ modules) m at =
    let same : x ≡ m = cc in
    let weight : cond (wants_slot x) 1 0 ≡ cond {A = ℕ} (wants_slot m) 1 0 = ap {B = ℕ} (λ m. cond (wants_slot m) 1 0) same in omega (arith, weight)
with_next (suc n) (x ∷ modules) m at = omega (arith, with_next n modules m at)

-- where a booted module wants a slot, a slot number is left
pub slot_left : (boots : List Module) (n : ℕ) (m : Module) → AreBoots boots → slice_get boots n ≡ Some m → wants_slot m ≡ true → fold given_after 0 (take n boots) ≤ 3
slot_left boots n m are at wants =
    let one : cond {A = ℕ} (wants_slot m) 1 0 ≡ 1 = ap {B = ℕ} (λ b. cond b 1 0) wants in
    omega (arith, given_for 0 (take n boots), with_next n boots m at, few_slots boots are, one)

-- there are as many slot numbers as booted modules may want
pub few_given : (boots : List Module) (n : ℕ) → AreBoots boots → fold given_after 0 (take n boots) ≤ 4
few_given boots n are = omega (arith, given_for 0 (take n boots), wanted_by_first n boots, few_slots boots are)
