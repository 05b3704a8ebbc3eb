-- Words that are components of a path, by their parts: all of them are, and they are few, or the path is refused.
use Rattle.std.proofs.Common.{◌≡◌, ℕ, suc, ◌+◌, ◌≤◌, ◌<◌, Bool, true, false, ◌&&◌, nat_le, nat_lt, List, [], ◌∷◌, ◌++◌, length, Ok, refl, ap, sym, subst, ◌∙◌, arith, lit≤, length-append, append_assoc}
use Rattle.std.proofs.lemmas.Bool.Decides.{nat_tests}
use Rattle.std.proofs.lemmas.List.{append-nil}
use Rattle.std.proofs.lemmas.List.Splits.{length-slice_split}
use Rattle.std.specs.List.{list_all}
use Rattle.std.specs.Str.{byte}
use Rattle.mf_labeltext.specs.Reading.{parts}
use Rattle.mf_names.specs.declared.limits.TheConstants.{PATH_LIMIT}
use Rattle.mf_names.specs.Paths.{is_slash, components_in, IsPathText}
use Rattle.mf_calls.specs.Names.{is_component}
use Rattle.mf_script.specs.declared.error.ScriptFault.TheVariants.{BadPath}
use Rattle.mf_script.specs.Readers.{Read, fails, and_then, unless}
use Rattle.mf_script.specs.Parts.{all_added, with_component, components_of}

-- the words are components, and few enough behind so many
abbrev are_few : ℕ → List (List ℕ) → Bool
are_few n ws = nat_le (n + length ws) PATH_LIMIT && list_all is_component ws

abbrev path_or_fault : List (List ℕ) → Bool → Read (List (List ℕ))
path_or_fault path true = Ok path
path_or_fault path false = fails BadPath

within : (n : ℕ) → n ≤ PATH_LIMIT → nat_le n PATH_LIMIT ≡ true
within n le = grind (arith, nat_tests)

beyond : (n : ℕ) → PATH_LIMIT < n → nat_le n PATH_LIMIT ≡ false
beyond n lt = grind (arith, nat_tests)

room : (n : ℕ) → nat_lt n PATH_LIMIT ≡ true → n < PATH_LIMIT
room n e = grind (arith, nat_tests)

no_room : (n : ℕ) → nat_lt n PATH_LIMIT ≡ false → PATH_LIMIT ≤ n
no_room n e = grind (arith, nat_tests)

and_true : (b : Bool) → (b && true) ≡ b
and_true true = refl
and_true false = refl

and_false : (b : Bool) → (b && false) ≡ false
and_false true = refl
and_false false = refl

counts : (path : List (List ℕ)) (w : List ℕ) (ws : List (List ℕ)) → length (path ++ w ∷ []) + length ws ≡ length path + suc (length ws)
counts path w ws = omega (arith, length-append path (w ∷ []))

added : (path ws : List (List ℕ)) → length path ≤ PATH_LIMIT → all_added with_component path ws ≡ path_or_fault (path ++ ws) (are_few (length path) ws)
unfolding all_added with_component and_then
added path [] few = ap Ok (sym (append-nil path)) ∙ ap (λ (b : Bool). path_or_fault (path ++ []) (b && true)) (sym (within (length path + 0) (omega (arith, few))))
added path (w ∷ ws) few = by_tests (nat_lt (length path) PATH_LIMIT) (is_component w) refl (added (path ++ w ∷ []) ws) where
  by_tests : (has is : Bool) → nat_lt (length path) PATH_LIMIT ≡ has
      → (length (path ++ w ∷ []) ≤ PATH_LIMIT → all_added with_component (path ++ w ∷ []) ws ≡ path_or_fault ((path ++ w ∷ []) ++ ws) (are_few (length (path ++ w ∷ [])) ws))
      → and_then (and_then (unless BadPath (has && is)) (λ u. Ok (path ++ w ∷ []))) (λ more. all_added with_component more ws)
      ≡ path_or_fault (path ++ w ∷ ws) (nat_le (length path + suc (length ws)) PATH_LIMIT && (is && list_all is_component ws))
  by_tests false is has rest =
      ap (λ (b : Bool). path_or_fault (path ++ w ∷ ws) (b && (is && list_all is_component ws))) (sym (beyond (length path + suc (length ws)) (omega (arith, no_room (length path) has))))
  by_tests true false has rest = ap (path_or_fault (path ++ w ∷ ws)) (sym (and_false (nat_le (length path + suc (length ws)) PATH_LIMIT)))
  by_tests true true has rest =
      rest (omega (arith, length-append path (w ∷ []), room (length path) has))
      ∙ ap (λ (p : List (List ℕ)). path_or_fault p (are_few (length (path ++ w ∷ [])) ws)) (append_assoc path (w ∷ []) ws)
      ∙ ap (λ (n : ℕ). path_or_fault (path ++ w ∷ ws) (nat_le n PATH_LIMIT && list_all is_component ws)) (counts path w ws)

-- the words are components, and not too many
abbrev pub are_all : List (List ℕ) → Bool
are_all ws = nat_le (length ws) PATH_LIMIT && list_all is_component ws

from_root : (ws : List (List ℕ)) → all_added with_component [] ws ≡ path_or_fault ws (are_all ws)
from_root ws = added [] ws (lit≤ tt) ∙ ap (λ (n : ℕ). path_or_fault ws (nat_le n PATH_LIMIT && list_all is_component ws)) (none_before (length ws)) where
  none_before : (n : ℕ) → 0 + n ≡ n
  none_before n = omega arith

pub components_read : (rest : List ℕ) → are_all (parts (byte "/") rest) ≡ true → components_of rest ≡ Ok (parts (byte "/") rest)
unfolding components_of
components_read rest are = from_root (parts (byte "/") rest) ∙ ap (path_or_fault (parts (byte "/") rest)) are

pub components_refused : (rest : List ℕ) → are_all (parts (byte "/") rest) ≡ false → components_of rest ≡ fails BadPath
unfolding components_of
components_refused rest are = from_root (parts (byte "/") rest) ∙ ap (path_or_fault (parts (byte "/") rest)) are

-- The text of a path

pub text_parts : (text rest : List ℕ) → text ≡ byte "/" ∷ rest → components_in text ≡ parts (byte "/") rest
unfolding parts
text_parts text rest e = ap components_in e

few_parts : (ws : List (List ℕ)) → are_all ws ≡ true → length ws ≤ PATH_LIMIT
few_parts ws are = grind (arith, nat_tests)

pub path_text : (text rest : List ℕ) → text ≡ byte "/" ∷ rest → are_all (parts (byte "/") rest) ≡ true → IsPathText text
unfolding parts
path_text text rest e are = subst IsPathText (sym e) (record { begins = refl; few = few_parts (parts (byte "/") rest) are })

-- Part by part: what is left of a word, of which so many parts were components

pub too_many : (depth : ℕ) (all left : List (List ℕ)) (w rest : List ℕ) → left ≡ w ∷ parts (byte "/") rest → depth + length left ≡ length all + 1 → PATH_LIMIT ≤ depth
    → false ≡ are_all all
unfolding parts
too_many depth all left w rest is counted le =
    ap (λ (b : Bool). b && list_all is_component all)
    (sym (beyond (length all) (omega (arith, ap (λ (ws : List (List ℕ)). length ws) is, counted, length-slice_split is_slash rest, le))))

pub one_is_none : (all left more : List (List ℕ)) (w : List ℕ) → left ≡ w ∷ more → list_all is_component left ≡ list_all is_component all → is_component w ≡ false → false ≡ are_all all
one_is_none all left more w is so_far not =
    let none : list_all is_component all ≡ false = sym so_far ∙ ap (list_all is_component) is ∙ ap (λ (b : Bool). b && list_all is_component more) not in
    sym (ap (λ (b : Bool). nat_le (length all) PATH_LIMIT && b) none ∙ and_false (nat_le (length all) PATH_LIMIT))

pub one_more : (all left more : List (List ℕ)) (w : List ℕ) → left ≡ w ∷ more → list_all is_component left ≡ list_all is_component all → is_component w ≡ true
    → list_all is_component more ≡ list_all is_component all
one_more all left more w is so_far holds = sym (ap (list_all is_component) is ∙ ap (λ (b : Bool). b && list_all is_component more) holds) ∙ so_far

pub last_one : (depth : ℕ) (all left : List (List ℕ)) (w : List ℕ) (found : Bool) → left ≡ w ∷ [] → depth + length left ≡ length all + 1 → depth ≤ PATH_LIMIT
    → list_all is_component left ≡ list_all is_component all → found ≡ is_component w → found ≡ are_all all
last_one depth all left w found is counted le so_far eq =
    eq
    ∙ sym (and_true (is_component w))
    ∙ sym (ap (list_all is_component) is)
    ∙ so_far
    ∙ ap (λ (b : Bool). b && list_all is_component all) (sym (within (length all) (omega (arith, ap (λ (ws : List (List ℕ)). length ws) is, counted, le))))

pub one_less : (depth : ℕ) (all left more : List (List ℕ)) (w : List ℕ) → left ≡ w ∷ more → depth + length left ≡ length all + 1 → depth + 1 + length more ≡ length all + 1
one_less depth all left more w is counted = omega (arith, ap (λ (ws : List (List ℕ)). length ws) is, counted)
