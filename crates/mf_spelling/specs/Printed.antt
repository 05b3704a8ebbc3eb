-- What the parts of a line's printer write; inner contracts alone cite this.
use Rattle.std.specs.Prelude.{◌≡◌, ℕ, Bool, if◌then◌else◌, List, [], ◌∷◌, ◌++◌, Option, Some, None, String, string_bytes, codes}
use Rattle.mf_cred.specs.declared.cred.Cred.{Cred}
use Rattle.mf_cred.specs.declared.cred.FileView.{FileView}
use Rattle.mf_calls.specs.declared.limits.TheConstants.{UID_MAX}
use Rattle.mf_calls.specs.declared.script.FileLine.{FileLine}
use Rattle.mf_spelling.specs.Spelling.{Word, Decimal, Octal, Groups, Label, Pieces, text_pieces}
use Rattle.mf_spelling.specs.Canonical.{piece_text}

-- the text behind what was there before
abbrev pub Adds : {Z : Type 0} → String Z → String Z → List ℕ → Type 0
Adds before after text = string_bytes after ≡ string_bytes before ++ text

-- the text of the first piece
abbrev pub first_word : Pieces → List ℕ
first_word [] = []
first_word (piece ∷ pieces) = piece_text piece

-- the first piece alone
abbrev pub first_alone : Pieces → Pieces
first_alone [] = []
first_alone (piece ∷ pieces) = piece ∷ []

abbrev pub behind_first : Pieces → Pieces
behind_first [] = []
behind_first (piece ∷ pieces) = pieces

-- the child that makes a call, in front of it
abbrev pub caller_text : Option (List ℕ) → List ℕ
caller_text None = []
caller_text (Some child) = codes "@" ++ child ++ codes " "

abbrev pub kind_word : Bool → List ℕ
kind_word dir = if dir then codes "dir" else codes "reg"

abbrev pub owner_pieces : FileView → Pieces
owner_pieces f = Word (codes "uid") ∷ Decimal UID_MAX f.uid ∷ Word (codes "gid") ∷ Decimal UID_MAX f.gid ∷ []

-- the pieces of a file behind its attributes
abbrev pub inside_pieces : FileLine → Pieces
inside_pieces f = Word (codes "label") ∷ Label f.label ∷ text_pieces f.text

-- the pieces of a file between its path and its label
abbrev pub attribute_pieces : FileView → Pieces
attribute_pieces f =
    Word (kind_word f.dir) ∷ owner_pieces f ++ Word (codes "mode") ∷ Octal f.mode ∷ []

-- those of a task between its name and its label
abbrev pub credential_pieces : Cred → Pieces
credential_pieces cred = Word (codes "uid") ∷ Decimal UID_MAX cred.uid ∷ Word (codes "gid") ∷ Groups cred.groups ∷ []
