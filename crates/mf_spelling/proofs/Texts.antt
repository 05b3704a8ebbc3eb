-- The texts that a line's printer puts together.
use Rattle.std.proofs.Common.{◌≡◌, ℕ, ◌≤◌, false, eqb, Result, Ok, Err, OnOk, List, [], ◌∷◌, ◌++◌, length, take, refl, sym, ap, ◌∙◌, append-nil, append_assoc, arith}
use Rattle.std.proofs.lemmas.List.{length-take, take-take}
use Rattle.std.proofs.lemmas.List.Concat.{flat_map-cons}
use Rattle.std.specs.List.{flat_map, join_with_byte}
use Rattle.std.specs.Str.{byte}
use Rattle.mf_text.specs.Appending.{Extends}
use Rattle.mf_spelling.specs.Spelling.{Pieces}
use Rattle.mf_spelling.specs.Canonical.{piece_text, words_behind}
use Rattle.mf_spelling.specs.Printed.{behind_first, first_alone}

components_joined : (name : List ℕ) (names : List (List ℕ)) → flat_map (λ name. byte "/" ∷ name) (name ∷ names) ≡ byte "/" ∷ join_with_byte (byte "/") (name ∷ names)
components_joined name [] = ap (λ more. byte "/" ∷ more) (append-nil name)
components_joined name (next ∷ names) = flat_map-cons (λ name. byte "/" ∷ name) name (next ∷ names) ∙ ap (λ more. byte "/" ∷ (name ++ more)) (components_joined next names)

-- a slash before each component
pub path_joined : (names : List (List ℕ)) → eqb (length names) 0 ≡ false → flat_map (λ name. byte "/" ∷ name) names ≡ byte "/" ∷ join_with_byte (byte "/") names
path_joined [] some = cc
path_joined (name ∷ names) some = components_joined name names

pub extends_through : (front middle text : List ℕ) → Extends front middle → Extends middle text → Extends front text
extends_through front middle text one other =
    let within : length front ≤ length middle = omega (arith, length-take (length front) middle, ap length one) in
    sym (take-take (length front) (length middle) text within) ∙ ap (take (length front)) other ∙ one

-- a space and the path
pub path_pushed : {A E : Type 0} (pushed : Result A E) (front middle text : List ℕ) (names : List (List ℕ)) → eqb (length names) 0 ≡ false → middle ≡ front ++ 32 ∷ []
    → OnOk pushed (text ≡ middle ++ flat_map (λ name. byte "/" ∷ name) names) → OnOk pushed (text ≡ front ++ 32 ∷ byte "/" ∷ join_with_byte (byte "/") names)
path_pushed (Ok x) front middle text names some space is =
    is ∙ ap (λ front. front ++ flat_map (λ name. byte "/" ∷ name) names) space ∙ append_assoc front (32 ∷ []) _ ∙ ap (λ path. front ++ 32 ∷ path) (path_joined names some)
path_pushed (Err e) front middle text names some space is = tt

-- the words of a call, parted behind the first of them

words_parted : (pieces : Pieces) → words_behind (first_alone pieces) ++ words_behind (behind_first pieces) ≡ words_behind pieces
words_parted [] = refl
words_parted (piece ∷ pieces) = ap (λ text. 32 ∷ (text ++ words_behind pieces)) (append-nil (piece_text piece))

pub words_pushed : {A E : Type 0} (pushed : Result A E) (front middle text : List ℕ) (pieces : Pieces) → middle ≡ front ++ words_behind (first_alone pieces)
    → OnOk pushed (text ≡ middle ++ words_behind (behind_first pieces)) → OnOk pushed (text ≡ front ++ words_behind pieces)
words_pushed (Ok x) front middle text pieces first is =
    is ∙ ap (λ front. front ++ words_behind (behind_first pieces)) first ∙ append_assoc front (words_behind (first_alone pieces)) _ ∙ ap (λ more. front ++ more) (words_parted pieces)
words_pushed (Err e) front middle text pieces first is = tt
