-- The words of a text with a space between each two, and the lines of texts.
use Rattle.std.proofs.Common.{◌≡◌, ℕ, Bool, true, false, not, ◌&&◌, ◌==◌, List, [], ◌∷◌, ◌++◌, refl, ap, ◌∙◌, arith, append-nil}
use Rattle.std.proofs.lemmas.Bool.Decides.{nat_tests}
use Rattle.std.specs.List.{list_all, onto_first}
use Rattle.std.specs.Char.{is_ascii_graphic}
use Rattle.std.specs.Str.{byte}
use Rattle.mf_calls.specs.Names.{is_some_text}
pub use Rattle.mf_words.proofs.Behind.{behind, both, join, all_append, all_map}
use Rattle.mf_words.specs.Words.{is_blank, words_in, lines_in, goes_on}
use Rattle.mf_spelling.specs.Spelling.{is_line_byte}

abbrev pub is_word : List ℕ → Bool
is_word w = is_some_text w && list_all is_ascii_graphic w

abbrev pub AreWords : List (List ℕ) → Type 0
AreWords [] = Unit {0}
AreWords (w ∷ ws) = (is_word w ≡ true) × AreWords ws

-- Words

not_blank : (b : ℕ) → is_ascii_graphic b ≡ true → is_blank b ≡ false
not_blank b h = grind (arith, nat_tests)

step : (b : ℕ) (xs : List ℕ) (ws : List (List ℕ)) → is_blank b ≡ false → goes_on xs ≡ true → words_in xs ≡ ws → words_in (b ∷ xs) ≡ onto_first b ws
step b xs ws blank goes is = rw blank (rw goes (ap (onto_first b) is))

last_step : (b : ℕ) (xs : List ℕ) (ws : List (List ℕ)) → is_blank b ≡ false → goes_on xs ≡ false → words_in xs ≡ ws → words_in (b ∷ xs) ≡ (b ∷ []) ∷ ws
last_step b xs ws blank goes is = rw blank (rw goes (ap (λ ws. (b ∷ []) ∷ ws) is))

word_then : (b : ℕ) (w rest : List ℕ) → is_ascii_graphic b ≡ true → list_all is_ascii_graphic w ≡ true → words_in ((b ∷ w) ++ 32 ∷ rest) ≡ (b ∷ w) ∷ words_in rest
word_then b [] rest g all = last_step b (32 ∷ rest) (words_in rest) (not_blank b g) refl refl
word_then b (c ∷ w) rest g all =
    let each = both (is_ascii_graphic c) (list_all is_ascii_graphic w) all in
    step b ((c ∷ w) ++ 32 ∷ rest) ((c ∷ w) ∷ words_in rest) (not_blank b g) (ap not (not_blank c each.0)) (word_then c w rest each.0 each.1)

word_last : (b : ℕ) (w : List ℕ) → is_ascii_graphic b ≡ true → list_all is_ascii_graphic w ≡ true → words_in (b ∷ w) ≡ (b ∷ w) ∷ []
word_last b [] g all = last_step b [] [] (not_blank b g) refl refl
word_last b (c ∷ w) g all =
    let each = both (is_ascii_graphic c) (list_all is_ascii_graphic w) all in
    step b (c ∷ w) ((c ∷ w) ∷ []) (not_blank b g) (ap not (not_blank c each.0)) (word_last c w each.0 each.1)

-- the words of a text are those that it was made of
pub words_behind : (w : List ℕ) (ws : List (List ℕ)) → is_word w ≡ true → AreWords ws → words_in (w ++ behind ws) ≡ w ∷ ws
words_behind [] ws word words = absurd (cc)
words_behind (b ∷ w) [] word words =
    let each = both (is_ascii_graphic b) (list_all is_ascii_graphic w) word in
    ap words_in (append-nil (b ∷ w)) ∙ word_last b w each.0 each.1
words_behind (b ∷ w) (v ∷ ws) word words =
    let each = both (is_ascii_graphic b) (list_all is_ascii_graphic w) word in
    word_then b w (v ++ behind ws) each.0 each.1 ∙ ap (λ rest. (b ∷ w) ∷ rest) (words_behind v ws words.0 words.1)

-- Lines

graphic_plain : (b : ℕ) → is_ascii_graphic b ≡ true → is_line_byte b ≡ true
graphic_plain b h = grind (arith, nat_tests)

plain_word : (w : List ℕ) → is_word w ≡ true → list_all is_line_byte w ≡ true
plain_word w word = all_map is_ascii_graphic is_line_byte w graphic_plain (both (is_some_text w) (list_all is_ascii_graphic w) word).1

plain_behind : (ws : List (List ℕ)) → AreWords ws → list_all is_line_byte (behind ws) ≡ true
plain_behind [] words = refl
plain_behind (w ∷ ws) words = all_append is_line_byte w (behind ws) (plain_word w words.0) (plain_behind ws words.1)

pub plain_text : (w : List ℕ) (ws : List (List ℕ)) → is_word w ≡ true → AreWords ws → list_all is_line_byte (w ++ behind ws) ≡ true
plain_text w ws word words = all_append is_line_byte w (behind ws) (plain_word w word) (plain_behind ws words)

no_newline : (b : ℕ) → is_line_byte b ≡ true → (b == byte "\n") ≡ false
no_newline b h = grind (arith, nat_tests)

-- a line in front of others
pub first_line : (line rest : List ℕ) → list_all is_line_byte line ≡ true → lines_in (line ++ 10 ∷ rest) ≡ line ∷ lines_in rest
first_line [] rest plain = refl
first_line (b ∷ line) rest plain =
    let each = both (is_line_byte b) (list_all is_line_byte line) plain in
    rw (no_newline b each.0) (ap (onto_first b) (first_line line rest each.1))
