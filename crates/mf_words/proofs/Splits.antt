-- The first word and the first line.
use Rattle.std.proofs.Common.{◌≡◌, ◌≢◌, ℕ, suc, ◌+◌, ◌≤◌, if◌then◌else◌, arith, length, Bool, true, false, not, ◌==◌, List, [], ◌∷◌, take, drop, refl, ap, sym, ◌∙◌, cond, add-one}
use Rattle.std.specs.List.{onto_first}
use Rattle.std.specs.Str.{byte}
use Rattle.mf_words.specs.Words.{is_blank, words_in, goes_on, lines_in}
use Rattle.mf_words.specs.Ends.{word_end, line_end}

goes_on_word : (b : ℕ) (bs : List ℕ) → goes_on (b ∷ bs) ≡ true → is_blank b ≡ false
goes_on_word b bs g = flip (is_blank b) g where
  flip : (t : Bool) → not t ≡ true → t ≡ false
  flip true e = cc
  flip false e = refl

-- what the first word and the rest are, where it ends there
cut_at : List ℕ → ℕ → List (List ℕ)
cut_at bytes n = take n bytes ∷ words_in (drop n bytes)

ended : (b : ℕ) (bs : List ℕ) (t : Bool) → is_blank b ≡ t → word_end (b ∷ bs) ≡ cond t 0 (suc (word_end bs))
ended b bs t e = ap (λ t. cond t 0 (suc (word_end bs))) e

word_step : (b x : ℕ) (xs : List ℕ) (t : Bool) → is_blank x ≡ t → (t ≡ false → words_in (x ∷ xs) ≡ cut_at (x ∷ xs) (word_end (x ∷ xs)))
    → cond (not (is_blank x)) (onto_first b (words_in (x ∷ xs))) ((b ∷ []) ∷ words_in (x ∷ xs)) ≡ cut_at (b ∷ x ∷ xs) (suc (word_end (x ∷ xs)))
unfolding cut_at
word_step b x xs true e ih = ap (λ t. cond (not t) (onto_first b (words_in (x ∷ xs))) ((b ∷ []) ∷ words_in (x ∷ xs))) e ∙ sym (ap (λ n. cut_at (b ∷ x ∷ xs) (suc n)) (ended x xs true e))
word_step b x xs false e ih = ap (λ t. cond (not t) (onto_first b (words_in (x ∷ xs))) ((b ∷ []) ∷ words_in (x ∷ xs))) e ∙ ap (onto_first b) (ih refl)

words_cut : (bytes : List ℕ) → goes_on bytes ≡ true → words_in bytes ≡ cut_at bytes (word_end bytes)
unfolding cut_at
words_cut [] g = cc
words_cut (b ∷ []) g = let blank : is_blank b ≡ false = goes_on_word b [] g in rw blank refl
words_cut (b ∷ x ∷ xs) g =
    let blank : is_blank b ≡ false = goes_on_word b (x ∷ xs) g in
    ap (λ t. cond t (words_in (x ∷ xs)) (cond (not (is_blank x)) (onto_first b (words_in (x ∷ xs))) ((b ∷ []) ∷ words_in (x ∷ xs)))) blank
    ∙ (word_step b x xs (is_blank x) refl (λ e. words_cut (x ∷ xs) (ap not e)) ∙ sym (ap (cut_at (b ∷ x ∷ xs)) (ended b (x ∷ xs) false blank)))

pub words_first : (bytes : List ℕ) → goes_on bytes ≡ true → words_in bytes ≡ take (word_end bytes) bytes ∷ words_in (drop (word_end bytes) bytes)
unfolding cut_at
words_first bytes g = words_cut bytes g

-- Lines

line_cut : List ℕ → ℕ → List (List ℕ)
line_cut bytes n = take n bytes ∷ lines_in (drop (suc n) bytes)

line_ended : (b : ℕ) (bs : List ℕ) (t : Bool) → (b == 10) ≡ t → line_end (b ∷ bs) ≡ cond t 0 (suc (line_end bs))
line_ended b bs t e = ap (λ t. cond t 0 (suc (line_end bs))) e

line_step : (b x : ℕ) (xs : List ℕ) (t : Bool) → (b == 10) ≡ t → lines_in (x ∷ xs) ≡ line_cut (x ∷ xs) (line_end (x ∷ xs))
    → lines_in (b ∷ x ∷ xs) ≡ line_cut (b ∷ x ∷ xs) (line_end (b ∷ x ∷ xs))
unfolding line_cut
line_step b x xs true e ih = ap (λ t. cond t ([] ∷ lines_in (x ∷ xs)) (onto_first b (lines_in (x ∷ xs)))) e ∙ sym (ap (line_cut (b ∷ x ∷ xs)) (line_ended b (x ∷ xs) true e))
line_step b x xs false e ih = ap (λ t. cond t ([] ∷ lines_in (x ∷ xs)) (onto_first b (lines_in (x ∷ xs)))) e ∙ (ap (onto_first b) ih ∙ sym (ap (line_cut (b ∷ x ∷ xs)) (line_ended b (x ∷ xs) false e)))

line_last : (b : ℕ) (t : Bool) → (b == 10) ≡ t → lines_in (b ∷ []) ≡ line_cut (b ∷ []) (line_end (b ∷ []))
unfolding line_cut
line_last b true e = ap (λ t. cond t ([] ∷ []) ((b ∷ []) ∷ [])) e ∙ sym (ap (line_cut (b ∷ [])) (line_ended b [] true e))
line_last b false e = ap (λ t. cond t ([] ∷ []) ((b ∷ []) ∷ [])) e ∙ sym (ap (line_cut (b ∷ [])) (line_ended b [] false e))

lines_cut : (b : ℕ) (bs : List ℕ) → lines_in (b ∷ bs) ≡ line_cut (b ∷ bs) (line_end (b ∷ bs))
lines_cut b [] = line_last b (b == 10) refl
lines_cut b (x ∷ xs) = line_step b x xs (b == 10) refl (lines_cut x xs)

pub lines_first : (b : ℕ) (bs : List ℕ) → lines_in (b ∷ bs) ≡ take (line_end (b ∷ bs)) (b ∷ bs) ∷ lines_in (drop (suc (line_end (b ∷ bs))) (b ∷ bs))
unfolding line_cut
lines_first b bs = lines_cut b bs

pub split_some : (bytes word rest : List ℕ) (n : ℕ) → (bytes ≢ [] → goes_on bytes ≡ true) → n ≡ word_end bytes → word ≡ take n bytes → rest ≡ drop n bytes
    → word ≢ [] → words_in bytes ≡ word ∷ words_in rest
split_some [] word rest n g ns ws rs some = absurd (some (ws ∙ ap (λ (k : ℕ). take k []) ns))
split_some (b ∷ bs) word rest n g ns ws rs some =
    words_first (b ∷ bs) (g (λ e. cc))
    ∙ (ap (λ (k : ℕ). take k (b ∷ bs) ∷ words_in (drop k (b ∷ bs))) (sym ns) ∙ (ap (λ (w : List ℕ). w ∷ words_in (drop n (b ∷ bs))) (sym ws) ∙ ap (λ (r : List ℕ). word ∷ words_in r) (sym rs)))

-- the line in front, where there is one
pub line_some : (bytes line rest : List ℕ) (n : ℕ) → bytes ≢ [] → n ≡ line_end bytes → line ≡ take n bytes → rest ≡ drop (n + 1) bytes
    → lines_in bytes ≡ line ∷ lines_in rest
line_some [] line rest n some ns ls rs = absurd (some refl)
line_some (b ∷ bs) line rest n some ns ls rs =
    lines_first b bs
    ∙ (ap (λ (k : ℕ). take k (b ∷ bs) ∷ lines_in (drop (suc k) (b ∷ bs))) (sym ns) ∙ (ap (λ (l : List ℕ). l ∷ lines_in (drop (suc n) (b ∷ bs))) (sym ls) ∙ ap (λ (r : List ℕ). line ∷ lines_in r) (ap (λ k. drop k (b ∷ bs)) (sym (add-one n)) ∙ sym rs)))

-- there are no more lines than bytes

onto_few : (b : ℕ) (pieces : List (List ℕ)) → length (onto_first b pieces) ≤ suc (length pieces)
onto_few b [] = omega arith
onto_few b (piece ∷ pieces) = omega arith

pub few_lines : (bytes : List ℕ) → length (lines_in bytes) ≤ length bytes
few_lines [] = omega arith
few_lines (b ∷ bs) = by_test (b == byte "\n") (few_lines bs) (onto_few b (lines_in bs)) where
  by_test : (t : Bool) → length (lines_in bs) ≤ length bs → length (onto_first b (lines_in bs)) ≤ suc (length (lines_in bs))
      → length (if t then [] ∷ lines_in bs else onto_first b (lines_in bs)) ≤ suc (length bs)
  by_test true few onto = omega (arith, few)
  by_test false few onto = omega (arith, few, onto)
