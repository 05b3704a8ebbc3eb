-- A text that is split at a separator of one byte, at the first and at the last.
use Rattle.std.proofs.Common.{◌≡◌, ℕ, suc, ◌+◌, ◌<◌, ◌==◌, Bool, true, false, not, cond, List, [], ◌∷◌, ◌++◌, length, take, drop, get_or, eq-eqb, ne_eqb, Option, Some, None, Bor, All, refl, ap, sym, ◌∙◌, subst, arith, take-append-drop}
use Rattle.std.specs.Prelude.{MatchOption}
use Rattle.std.specs.List.{slice_split, onto_first, position_or_len}
use Rattle.std.proofs.lemmas.List.{get_or_default}
use Rattle.std.proofs.lemmas.List.Splits.{slice_split_none, slice_split_first, slice_split-cons_yes, slice_split-cons_no, length-slice_split}
use Rattle.std.proofs.lemmas.Str.Pattern.{IsSplitOnceResult, split_once_first, NoCharPasses-char, drop_at_char}
use Rattle.std.specs.Str.{NoCharPasses}
use Rattle.std.specs.Str.Pattern.{RFindsChar, SplitsAroundMatch}

unsplit : (p : ℕ → Bool) (xs : List ℕ) → position_or_len p xs ≡ length xs → slice_split p xs ≡ xs ∷ []
unsplit p [] e = refl
unsplit p (x ∷ xs) e = by_test (p x) (λ e. unsplit p xs e) e where
  by_test : (t : Bool) → (position_or_len p xs ≡ length xs → slice_split p xs ≡ xs ∷ []) → cond (not t) (1 + position_or_len p xs) 0 ≡ suc (length xs)
      → cond t ([] ∷ slice_split p xs) (onto_first x (slice_split p xs)) ≡ (x ∷ xs) ∷ []
  by_test true rest e = cc
  by_test false rest e = ap (onto_first x) (rest (omega (arith, e)))

-- what `split_once` says of the parts
pub first_part : (separator : ℕ) (text : List ℕ) (halves : Option (Bor (List ℕ) × Bor (List ℕ))) → separator < 128 → IsSplitOnceResult separator text halves
    → MatchOption halves (slice_split (λ b. b == separator) text ≡ text ∷ [])
    (λ halves. slice_split (λ b. b == separator) text ≡ halves.0.now ∷ slice_split (λ b. b == separator) halves.1.now)
first_part separator text None small h = unsplit (λ b. b == separator) text (split_once_first separator text None h small)
first_part separator text (Some halves) small h =
    let found = split_once_first separator text (Some halves) h small in
    rw (found.1, found.2) (slice_split_first (λ b. b == separator) text 0 found.0)

onto_append : (x : ℕ) (parts more : List (List ℕ)) → 0 < length parts → onto_first x (parts ++ more) ≡ onto_first x parts ++ more
onto_append x [] more some = absurd (omega arith)
onto_append x (part ∷ parts) more some = refl

-- the parts before a separator and those behind it
pub parts_append : (p : ℕ → Bool) (xs : List ℕ) (y : ℕ) (ys : List ℕ) → p y ≡ true → slice_split p (xs ++ y ∷ ys) ≡ slice_split p xs ++ slice_split p ys
parts_append p [] y ys e = slice_split-cons_yes p y ys e
parts_append p (x ∷ xs) y ys e = by_test (p x) refl (parts_append p xs y ys e) where
  by_test : (t : Bool) → p x ≡ t → slice_split p (xs ++ y ∷ ys) ≡ slice_split p xs ++ slice_split p ys → slice_split p (x ∷ xs ++ y ∷ ys) ≡ slice_split p (x ∷ xs) ++ slice_split p ys
  by_test true is rest =
      slice_split-cons_yes p x (xs ++ y ∷ ys) is
      ∙ ap (λ (parts : List (List ℕ)). [] ∷ parts) rest
      ∙ ap (λ (parts : List (List ℕ)). parts ++ slice_split p ys) (sym (slice_split-cons_yes p x xs is))
  by_test false is rest =
      slice_split-cons_no p x (xs ++ y ∷ ys) is
      ∙ ap (onto_first x) rest
      ∙ onto_append x (slice_split p xs) (slice_split p ys) (omega (arith, length-slice_split p xs))
      ∙ ap (λ (parts : List (List ℕ)). parts ++ slice_split p ys) (sym (slice_split-cons_no p x xs is))

-- one part more
pub part_more : (p : ℕ → Bool) (xs : List ℕ) (y : ℕ) (ys : List ℕ) → p y ≡ true → All (λ y. p y ≡ false) ys → slice_split p (xs ++ y ∷ ys) ≡ slice_split p xs ++ ys ∷ []
part_more p xs y ys e none = parts_append p xs y ys e ∙ ap (λ (parts : List (List ℕ)). slice_split p xs ++ parts) (slice_split_none p ys none)

lacks : (separator : ℕ) (text : List ℕ) → separator < 128 → NoCharPasses (λ c. c == separator) text → All (λ b. (b == separator) ≡ false) text
lacks separator text small none k d within =
    ap (λ (b : ℕ). b == separator) (get_or_default text k d 0 within) ∙ ne_eqb (get_or text k 0) separator (NoCharPasses-char separator text k none small within)

-- what `rsplit_once` says of the parts
pub last_part : (separator : ℕ) (text : List ℕ) (halves : Option (Bor (List ℕ) × Bor (List ℕ))) → separator < 128
    → MatchOption halves (RFindsChar separator text None) (λ halves. SplitsAroundMatch (RFindsChar separator) text halves.0.now halves.1.now)
    → MatchOption halves (slice_split (λ b. b == separator) text ≡ text ∷ [])
    (λ halves. slice_split (λ b. b == separator) text ≡ slice_split (λ b. b == separator) halves.0.now ++ halves.1.now ∷ [])
last_part separator text None small h = slice_split_none (λ b. b == separator) text (lacks separator text small h)
last_part separator text (Some halves) small h =
    ap (slice_split (λ b. b == separator)) whole
    ∙ part_more (λ b. b == separator) halves.0.now separator halves.1.now (eq-eqb separator separator refl)
    (subst (λ (part : List ℕ). All (λ b. (b == separator) ≡ false) part) (sym h.4) (lacks separator (drop h.1 text) small h.2.0))
  where
    whole : text ≡ halves.0.now ++ separator ∷ halves.1.now
    whole =
        sym (take-append-drop h.0 text)
        ∙ ap (λ (rest : List ℕ). take h.0 text ++ rest) (drop_at_char separator text h.0 h.1 h.2.1 small)
        ∙ ap (λ (front : List ℕ). front ++ separator ∷ drop h.1 text) (sym h.3)
        ∙ ap (λ (back : List ℕ). halves.0.now ++ separator ∷ back) (sym h.4)
