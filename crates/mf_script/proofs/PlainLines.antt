-- A text each of whose bytes may stand in a line, or ends one, has lines of bytes that may stand there.
use Rattle.std.proofs.Common.{◌≡◌, ℕ, ◌==◌, Bool, true, false, ◌||◌, cond, List, [], ◌∷◌, refl, ap, sym, ◌∙◌}
use Rattle.std.specs.List.{list_all, onto_first}
use Rattle.std.specs.Str.{byte}
use Rattle.mf_words.specs.Words.{lines_in}
use Rattle.mf_spelling.specs.Spelling.{is_line_byte}
use Rattle.mf_words.proofs.Behind.{both, join}

abbrev pub is_text_byte : ℕ → Bool
is_text_byte b = b == byte "\n" || is_line_byte b

abbrev are_plain : List (List ℕ) → Bool
are_plain lines = list_all (λ line. list_all is_line_byte line) lines

onto_plain : (b : ℕ) (lines : List (List ℕ)) → is_line_byte b ≡ true → are_plain lines ≡ true → are_plain (onto_first b lines) ≡ true
onto_plain b [] is are = join (list_all is_line_byte (b ∷ [])) true (join (is_line_byte b) true is refl) refl
onto_plain b (line ∷ lines) is are =
    let each = both (list_all is_line_byte line) (are_plain lines) are in
    join (list_all is_line_byte (b ∷ line)) (are_plain lines) (join (is_line_byte b) (list_all is_line_byte line) is each.0) each.1

pub lines_plain : (text : List ℕ) → list_all is_text_byte text ≡ true → are_plain (lines_in text) ≡ true
lines_plain [] all = refl
lines_plain (b ∷ text) all =
    let each = both (is_text_byte b) (list_all is_text_byte text) all in
    by_test (b == byte "\n") each.0 (lines_plain text each.1)
  where
    by_test : (ends : Bool) → (ends || is_line_byte b) ≡ true → are_plain (lines_in text) ≡ true → are_plain (cond ends ([] ∷ lines_in text) (onto_first b (lines_in text))) ≡ true
    by_test true is rest = rest
    by_test false is rest = onto_plain b (lines_in text) is rest

-- the next line of plain lines, and those behind it
pub next_plain : (lines : List (List ℕ)) (line : List ℕ) (more : List (List ℕ)) → lines ≡ line ∷ more → are_plain lines ≡ true → (list_all is_line_byte line ≡ true) × (are_plain more ≡ true)
next_plain lines line more is all = both (list_all is_line_byte line) (are_plain more) (sym (ap are_plain is) ∙ all)
