-- The lines of a canonical text spell the rows of its script.
use Rattle.std.proofs.Common.{◌≡◌, ℕ, true, false, cond, List, [], ◌∷◌, ◌++◌, map, refl, sym, ap, ◌∙◌, subst, append_assoc}
use Rattle.std.specs.List.{filter, list_all, AllZip}
use Rattle.mf_words.specs.Words.{Words, words_in, lines_in, is_comment}
use Rattle.mf_spelling.specs.Spelling.{Word, Pieces, SpellLine, is_line_byte, says, sayings}
use Rattle.mf_spelling.specs.Canonical.{line_text}
use Rattle.mf_spelled.proofs.WordTexts.{is_word, AreWords, behind, join, words_behind as own_words, plain_text, first_line}
use Rattle.mf_spelled.proofs.PieceTexts.{AreOfWords, are_written}

-- a row that begins with a word that begins no comment
abbrev pub IsRow : Pieces → Type 0
IsRow (Word w ∷ pieces) = (is_word w ≡ true) × (is_comment w ≡ false) × AreOfWords pieces
IsRow other = ⊥

-- a line whose words spell the row
record IsLineOf (text : List ℕ) (row : Pieces) : Type 0 where
  first : List ℕ
  more : Words
  is : text ≡ (first ++ behind more) ++ 10 ∷ []
  word : is_word first ≡ true
  words : AreWords more
  no_comment : is_comment first ≡ false
  spelled : SpellLine (first ∷ more) row

row_line : (row : Pieces) → IsRow row → IsLineOf (line_text row) row
row_line (Word w ∷ pieces) so =
    let rest = are_written pieces so.2 in
    record {
      first = w;
      more = rest.words;
      is = ap (λ text. (w ++ text) ++ 10 ∷ []) rest.text;
      word = so.0;
      words = rest.graphic;
      no_comment = so.1;
      spelled = (refl, rest.spelled);
    }
row_line other so = absurd so

-- The lines of a text spell rows.
pub record AreRows (text : List ℕ) (rows : List Pieces) : Type 0 where
  pub plain : (rest : List ℕ) → list_all (λ line. list_all is_line_byte line) (lines_in rest) ≡ true → list_all (λ line. list_all is_line_byte line) (lines_in (text ++ rest)) ≡ true
  pub spelled : (rest : List ℕ) (more : List Pieces) → AllZip SpellLine (sayings (lines_in rest)) more → AllZip SpellLine (sayings (lines_in (text ++ rest))) (rows ++ more)

pub no_rows : AreRows [] []
no_rows = record { plain = λ rest so. so; spelled = λ rest more so. so }

pub rows_append : (a b : List ℕ) (first second : List Pieces) → AreRows a first → AreRows b second → AreRows (a ++ b) (first ++ second)
rows_append a b first second one two = record {
  plain = λ rest so. subst (λ text. list_all (λ line. list_all is_line_byte line) (lines_in text) ≡ true) (sym (append_assoc a b rest)) (one.plain (b ++ rest) (two.plain rest so));
  spelled = λ rest more so.
      subst (λ text. AllZip SpellLine (sayings (lines_in text)) ((first ++ second) ++ more)) (sym (append_assoc a b rest))
      (subst (AllZip SpellLine (sayings (lines_in (a ++ (b ++ rest))))) (sym (append_assoc first second more)) (one.spelled (b ++ rest) (second ++ more) (two.spelled rest more so)));
}

-- the lines of a text that begins with such a line
line_first : (text : List ℕ) (row : Pieces) (line : IsLineOf text row) (rest : List ℕ) → lines_in (text ++ rest) ≡ (line.first ++ behind line.more) ∷ lines_in rest
line_first text row line rest =
    ap (λ text. lines_in (text ++ rest)) line.is ∙ ap lines_in (append_assoc (line.first ++ behind line.more) (10 ∷ []) rest)
    ∙ first_line (line.first ++ behind line.more) rest (plain_text line.first line.more line.word line.words)

said : (first : List ℕ) (more : Words) (lines : List Words) → is_comment first ≡ false → cond (says (first ∷ more)) ((first ∷ more) ∷ lines) lines ≡ (first ∷ more) ∷ lines
said first more lines no_comment = rw no_comment refl

saying : (text : List ℕ) (row : Pieces) (line : IsLineOf text row) (rest : List ℕ) → sayings (lines_in (text ++ rest)) ≡ (line.first ∷ line.more) ∷ sayings (lines_in rest)
saying text row line rest =
    ap sayings (line_first text row line rest)
    ∙ ap (λ ws. filter says (ws ∷ map words_in (lines_in rest))) (own_words line.first line.more line.word line.words)
    ∙ said line.first line.more (sayings (lines_in rest)) line.no_comment

line_rows : (text : List ℕ) (row : Pieces) → IsLineOf text row → AreRows text (row ∷ [])
line_rows text row line = record {
  plain = λ rest so. subst (λ lines. list_all (λ line. list_all is_line_byte line) lines ≡ true) (sym (line_first text row line rest))
      (join (list_all is_line_byte (line.first ++ behind line.more)) (list_all (λ line. list_all is_line_byte line) (lines_in rest)) (plain_text line.first line.more line.word line.words) so);
  spelled = λ rest more so. subst (λ lines. AllZip SpellLine lines (row ∷ more)) (sym (saying text row line rest)) (line.spelled, so);
}

pub one_row : (row : Pieces) → IsRow row → AreRows (line_text row) (row ∷ [])
one_row row so = line_rows (line_text row) row (row_line row so)
