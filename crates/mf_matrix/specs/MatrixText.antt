-- The text of the matrix: a line for each row, by docs/MANUAL.md (MATRIX).
use Rattle.std.specs.Prelude.{ℕ, Bool, if◌then◌else◌, List, [], ◌∷◌, ◌++◌, Option, Some, None, codes}
use Rattle.std.specs.Char.{encode_utf8}
use Rattle.std.specs.List.{flat_map}
use Rattle.mf_policy.specs.Registration.{Entry}
use Rattle.mf_plan.specs.declared.state.State.{State}
use Rattle.mf_matrix.specs.declared.letters.Letter.{Letter}
use Rattle.mf_matrix.specs.Letters.{letters_for}
use Rattle.mf_matrix.specs.Matrix.{Pair, pairs_of, parties_in, row_of}

-- a letter where it passes, and else a dash; nothing where there is no letter
abbrev pub sign_text : Option Letter → Bool → List ℕ
sign_text None passed = []
sign_text (Some letter) passed = if passed then encode_utf8 letter.sign else codes "-"

-- the letters of an object, with what passes
abbrev pub signs_text : List (Option Letter) → List Bool → List ℕ
signs_text (letter ∷ letters) (passed ∷ others) = sign_text letter passed ++ signs_text letters others
signs_text letters passed = []

-- the line of a pair, of whose letters these pass
abbrev pub line_text : Pair → List Bool → List ℕ
line_text p passed =
    codes "matrix " ++ p.subject.title ++ codes " " ++ p.object.title ++ codes " " ++ signs_text (letters_for p.object.object) passed ++ codes "\n"

abbrev pub row_text : List Entry → Pair → List ℕ
row_text listed p = line_text p (row_of listed p).passed

abbrev pub matrix_text : State → List ℕ
matrix_text s = flat_map (row_text s.specs) (pairs_of (parties_in s.objects))
