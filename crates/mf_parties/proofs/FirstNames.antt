-- Names that are sorted, and cut to the first.
use Rattle.std.proofs.Common.{◌≡◌, ℕ, ◌+◌, ◌<◌, List, [], ◌∷◌, length, take, map, Bor, subst, sym, ap, ◌∙◌, arith}
use Rattle.std.specs.Cmp.Lexicographic.{slice_cmp}
use Rattle.std.specs.List.Sorted.{IsSorted, IsPermutation}
use Rattle.std.specs.Ordering.{nat_cmp}
use Rattle.std.proofs.lemmas.List.{take-map, get_or-map, length-map}
use Rattle.std.proofs.lemmas.List.Sorted.{IsPermutation-map}
use Rattle.mf_objects.specs.declared.limits.TheConstants.{MOST_NAMES}
use Rattle.mf_objects.specs.Titles.{in_byte_order}
use Rattle.mf_objects.proofs.ByteOrder.{is_byte_order}

-- names that are sorted, as references to them, and cut to the first
pub first_sorted : (names : List (List ℕ)) (found sorted : List (Bor (List ℕ))) → map (λ (name : Bor (List ℕ)). name.now) found ≡ names → IsPermutation found sorted
    → IsSorted (λ (x y : Bor (List ℕ)). slice_cmp nat_cmp x.now y.now) sorted
    → map (λ (name : Bor (List ℕ)). name.now) (take MOST_NAMES sorted) ≡ take MOST_NAMES (in_byte_order names)
first_sorted names found sorted are same order =
    let now : Bor (List ℕ) → List ℕ = λ name. name.now in
    let bytes : List (List ℕ) = map now sorted in
    let moved : IsPermutation names bytes = subst (λ (ns : List (List ℕ)). IsPermutation ns bytes) are (IsPermutation-map now found sorted same) in
    let rises : IsSorted (slice_cmp nat_cmp) bytes = sorted_map sorted order in
    sym (take-map now MOST_NAMES sorted) ∙ ap (take MOST_NAMES) (is_byte_order names bytes moved rises)
  where
    sorted_map : (xs : List (Bor (List ℕ))) → IsSorted (λ (x y : Bor (List ℕ)). slice_cmp nat_cmp x.now y.now) xs → IsSorted (slice_cmp nat_cmp) (map (λ (name : Bor (List ℕ)). name.now) xs)
    sorted_map [] order k d low high = absurd (omega arith)
    sorted_map (x ∷ xs) order k d low high =
        let all : List (Bor (List ℕ)) = x ∷ xs in
        let now : Bor (List ℕ) → List ℕ = λ name. name.now in
        let within : k + 1 < length all = omega (arith, high, length-map all now) in
        rw (get_or-map now all (k + 1) x d within, get_or-map now all k x d (omega arith)) (order k x low within)
