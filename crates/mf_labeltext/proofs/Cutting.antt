-- Texts cut at a byte: at the first one, and at each.
use Rattle.std.proofs.Common.{◌≡◌, ◌≢◌, ℕ, ◌+◌, ◌<◌, suc, true, false, cond, eqb, List, [], ◌∷◌, ◌++◌, length, length-append, drop, get_or, Option, Some, None, MatchOption, Bor, refl, sym, ap, ◌∙◌, subst, arith, add-one}
use Rattle.std.proofs.lemmas.Bool.{eqb-true, eqb-false, eq-eqb, ne_eqb}
use Rattle.std.proofs.lemmas.Str.{IsUtf8-drop, IsCharBoundary-after_ascii}
use Rattle.std.specs.Str.{IsUtf8}
use Rattle.std.specs.Prelude.{option_map}
use Rattle.std.proofs.lemmas.Str.Pattern.{IsSplitOnceResult, split_parts}
use Rattle.std.proofs.lemmas.List.Splits.{join_with_byte-slice_split}
use Rattle.std.specs.List.{slice_split, onto_first, AllByRecursion, join_with_byte}
use Rattle.mf_labeltext.specs.Reading.{cut, parts}

-- the byte doesn't stand in the text
abbrev pub IsFree : ℕ → List ℕ → Type 0
IsFree byte text = AllByRecursion (λ c. c ≢ byte) text

-- the halves of a text with one byte more in front
abbrev with_first : ℕ → Option (List ℕ × List ℕ) → Option (List ℕ × List ℕ)
with_first c halves = option_map (λ halves. (c ∷ halves.0, halves.1)) halves

cut_hit : (byte c : ℕ) (cs : List ℕ) → eqb c byte ≡ true → cut byte (c ∷ cs) ≡ Some ([], cs)
unfolding cut
cut_hit byte c cs hit = rw hit refl

cut_miss : (byte c : ℕ) (cs : List ℕ) → eqb c byte ≡ false → cut byte (c ∷ cs) ≡ with_first c (cut byte cs)
unfolding cut
cut_miss byte c cs miss = rw miss refl

-- ---- what was cut, and what is cut
pub cut_free : (byte : ℕ) (front back : List ℕ) → IsFree byte front → cut byte (front ++ byte ∷ back) ≡ Some (front, back)
cut_free byte [] back free = cut_hit byte byte back (eq-eqb byte byte refl)
cut_free byte (c ∷ front) back free =
    cut_miss byte c (front ++ byte ∷ back) (ne_eqb c byte free.0) ∙ ap (with_first c) (cut_free byte front back free.1)

pub cut_free_none : (byte : ℕ) (text : List ℕ) → IsFree byte text → cut byte text ≡ None
unfolding cut
cut_free_none byte [] free = refl
cut_free_none byte (c ∷ cs) free = cut_miss byte c cs (ne_eqb c byte free.0) ∙ ap (with_first c) (cut_free_none byte cs free.1)

-- a text that is free of the byte up to the first one
pub record IsCut (byte : ℕ) (text front back : List ℕ) : Type 0 where
  pub whole : text ≡ front ++ byte ∷ back
  pub free : IsFree byte front

-- what the cut of the rest says of the cut of a text with one byte more in front
abbrev Says : ℕ → List ℕ → Option (List ℕ × List ℕ) → Type 0
Says byte text None = IsFree byte text
Says byte text (Some halves) = IsCut byte text halves.0 halves.1

says_more : (byte c : ℕ) (cs : List ℕ) → c ≢ byte → (r : Option (List ℕ × List ℕ)) → Says byte cs r → Says byte (c ∷ cs) (with_first c r)
says_more byte c cs other None says = (other, says)
says_more byte c cs other (Some halves) says = record { whole = ap (λ text. c ∷ text) says.whole; free = (other, says.free) }

pub cut_says : (byte : ℕ) (text : List ℕ) → Says byte text (cut byte text)
unfolding cut
cut_says byte [] = tt
cut_says byte (c ∷ cs) =
    elim (eqb c byte) as (λ b. eqb c byte ≡ b → Says byte (c ∷ cs) (cond b (Some ([], cs)) (with_first c (cut byte cs)))) [
      | true ↦ λ hit. record { whole = ap (λ b. b ∷ cs) (eqb-true c byte hit); free = tt }
      | false ↦ λ miss. says_more byte c cs (eqb-false c byte miss) (cut byte cs) (cut_says byte cs)
    ] refl

pub cut_is : (byte : ℕ) (text front back : List ℕ) → cut byte text ≡ Some (front, back) → IsCut byte text front back
cut_is byte text front back is = subst (Says byte text) is (cut_says byte text)

pub cut_is_none : (byte : ℕ) (text : List ℕ) → cut byte text ≡ None → IsFree byte text
cut_is_none byte text is = subst (Says byte text) is (cut_says byte text)

-- ---- the parts
free_append : (byte : ℕ) (front rest : List ℕ) → IsFree byte front → slice_split (λ c. eqb c byte) (front ++ byte ∷ rest) ≡ front ∷ slice_split (λ c. eqb c byte) rest
free_append byte [] rest free = rw (eq-eqb byte byte refl) refl
free_append byte (c ∷ front) rest free = rw (ne_eqb c byte free.0) (ap (onto_first c) (free_append byte front rest free.1))

free_alone : (byte : ℕ) (text : List ℕ) → IsFree byte text → slice_split (λ c. eqb c byte) text ≡ text ∷ []
free_alone byte [] free = refl
free_alone byte (c ∷ cs) free = rw (ne_eqb c byte free.0) (ap (onto_first c) (free_alone byte cs free.1))

pub parts_none : (byte : ℕ) (text : List ℕ) → cut byte text ≡ None → parts byte text ≡ text ∷ []
unfolding parts
parts_none byte text is = free_alone byte text (cut_is_none byte text is)

pub parts_some : (byte : ℕ) (text front back : List ℕ) → cut byte text ≡ Some (front, back) → parts byte text ≡ front ∷ parts byte back
unfolding parts
parts_some byte text front back is =
    let cut = cut_is byte text front back is in
    ap (slice_split (λ c. eqb c byte)) cut.whole ∙ free_append byte front back cut.free

pub parts_join : (byte : ℕ) (pieces : List (List ℕ)) → pieces ≢ [] → AllByRecursion (IsFree byte) pieces → parts byte (join_with_byte byte pieces) ≡ pieces
unfolding parts
parts_join byte [] some free = absurd (some refl)
parts_join byte (piece ∷ []) some free = free_alone byte piece free.0
parts_join byte (piece ∷ next ∷ pieces) some free =
    free_append byte piece (join_with_byte byte (next ∷ pieces)) free.0
    ∙ ap (λ rest. piece ∷ rest) (parts_join byte (next ∷ pieces) (λ e. cc) free.1)

onto_free : (byte c : ℕ) (pieces : List (List ℕ)) → c ≢ byte → AllByRecursion (IsFree byte) pieces → AllByRecursion (IsFree byte) (onto_first c pieces)
onto_free byte c [] other free = ((other, tt), tt)
onto_free byte c (piece ∷ pieces) other free = ((other, free.0), free.1)

split_free : (byte : ℕ) (text : List ℕ) → AllByRecursion (IsFree byte) (slice_split (λ c. eqb c byte) text)
split_free byte [] = (tt, tt)
split_free byte (c ∷ cs) =
    elim (eqb c byte) as (λ b. eqb c byte ≡ b → AllByRecursion (IsFree byte) (cond b ([] ∷ slice_split (λ c. eqb c byte) cs) (onto_first c (slice_split (λ c. eqb c byte) cs)))) [
      | true ↦ λ hit. (tt, split_free byte cs)
      | false ↦ λ miss. onto_free byte c (slice_split (λ c. eqb c byte) cs) (eqb-false c byte miss) (split_free byte cs)
    ] refl

pub parts_free : (byte : ℕ) (text : List ℕ) → AllByRecursion (IsFree byte) (parts byte text)
unfolding parts
parts_free byte text = split_free byte text

onto_some : (c : ℕ) (pieces : List (List ℕ)) → onto_first c pieces ≢ []
onto_some c [] e = cc
onto_some c (piece ∷ pieces) e = cc

split_some : (byte : ℕ) (text : List ℕ) → slice_split (λ c. eqb c byte) text ≢ []
split_some byte [] e = cc
split_some byte (c ∷ cs) e =
    (elim (eqb c byte) as (λ b. cond b ([] ∷ slice_split (λ c. eqb c byte) cs) (onto_first c (slice_split (λ c. eqb c byte) cs)) ≡ [] → ⊥) [
      | true ↦ λ e. cc
      | false ↦ λ e. onto_some c (slice_split (λ c. eqb c byte) cs) e
    ]) e

pub parts_are_some : (byte : ℕ) (text : List ℕ) → parts byte text ≢ []
unfolding parts
parts_are_some byte text = split_some byte text

pub join_parts : (byte : ℕ) (text : List ℕ) → join_with_byte byte (parts byte text) ≡ text
unfolding parts
join_parts byte text = join_with_byte-slice_split byte text

-- ---- as std splits a text at a character
free_from_places : (byte : ℕ) (text : List ℕ) → ((i : ℕ) → i < length text → get_or text i 0 ≢ byte) → IsFree byte text
free_from_places byte [] places = tt
free_from_places byte (c ∷ cs) places = (places 0 (omega arith), free_from_places byte cs (λ i h. places (suc i) (omega (arith, h))))

split_cuts : (byte : ℕ) (text : List ℕ) (split : Option (Bor (List ℕ) × Bor (List ℕ))) → MatchOption split ((i : ℕ) → i < length text → get_or text i 0 ≢ byte) (λ halves. (text ≡ halves.0.now ++ byte ∷ halves.1.now) × ((i : ℕ) → i < length halves.0.now → get_or halves.0.now i 0 ≢ byte))
    → MatchOption split (cut byte text ≡ None) (λ halves. cut byte text ≡ Some (halves.0.now, halves.1.now))
split_cuts byte text None places = cut_free_none byte text (free_from_places byte text places)
split_cuts byte text (Some halves) found = ap (cut byte) found.0 ∙ cut_free byte halves.0.now halves.1.now (free_from_places byte halves.0.now found.1)

pub split_once_cuts : (byte : ℕ) (text : List ℕ) (split : Option (Bor (List ℕ) × Bor (List ℕ))) → IsSplitOnceResult byte text split → byte < 128
    → MatchOption split (cut byte text ≡ None) (λ halves. cut byte text ≡ Some (halves.0.now, halves.1.now))
split_once_cuts byte text split is ascii = split_cuts byte text split (split_parts byte text split is ascii)

-- ---- what stands behind an ASCII byte of a text is a text
drop_behind : (front : List ℕ) (byte : ℕ) (back : List ℕ) → drop (suc (length front)) (front ++ byte ∷ back) ≡ back
drop_behind [] byte back = refl
drop_behind (c ∷ front) byte back = drop_behind front byte back

get_between : (front : List ℕ) (byte : ℕ) (back : List ℕ) → get_or (front ++ byte ∷ back) (length front) 0 ≡ byte
get_between [] byte back = refl
get_between (c ∷ front) byte back = get_between front byte back

pub text_behind : (byte : ℕ) (text front back : List ℕ) → byte < 128 → IsUtf8 text → cut byte text ≡ Some (front, back) → IsUtf8 back
text_behind byte text front back ascii is_text parted =
    let whole = (cut_is byte text front back parted).whole in
    let long : length text ≡ length front + (length back + 1) = ap length whole ∙ length-append front (byte ∷ back) ∙ ap (λ n. length front + n) (sym (add-one (length back))) in
    let found : get_or text (length front) 0 ≡ byte = ap (λ t. get_or t (length front) 0) whole ∙ get_between front byte back in
    let rest : drop (length front + 1) text ≡ back = ap (λ n. drop n text) (add-one (length front)) ∙ ap (drop (suc (length front))) whole ∙ drop_behind front byte back in
    subst IsUtf8 rest (IsUtf8-drop text (length front + 1) is_text (IsCharBoundary-after_ascii text (length front) is_text (omega (arith, long)) (omega (arith, found))))
