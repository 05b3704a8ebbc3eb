-- The canonical text of pieces is words that spell them.
use Rattle.std.proofs.Common.{◌≡◌, ◌≢◌, ℕ, ◌<◌, ◌≤◌, ◌^◌, true, false, List, [], ◌∷◌, ◌++◌, refl, sym, ap, ◌∙◌, arith, append-nil}
use Rattle.std.specs.Str.{byte}
use Rattle.std.specs.Prelude.{All, codes}
use Rattle.std.proofs.lemmas.List.Elements.{All-head, All-tail}
use Rattle.mf_elem.specs.Bounds.{IsRequest}
use Rattle.mf_labeltext.proofs.Cutting.{IsFree, cut_free}
use Rattle.mf_rule.specs.declared.rule.Rule.{Rule}
use Rattle.mf_rule.specs.Canonical.{rule_text}
use Rattle.mf_rule.specs.RuleGrammar as rule
use Rattle.mf_rule.proofs.ReadAsSpelled.{read_is_spelled}
use Rattle.mf_rule.proofs.Formed.{canonical_text_reads}
use Rattle.mf_words.specs.Words.{Words}
use Rattle.mf_calls.specs.WellFormed.{IsPrintable}
use Rattle.mf_calls.specs.declared.limits.TheConstants.{UID_MAX, MODE_LIMIT}
use Rattle.mf_spelling.specs.Spelling.{Piece, Word, Decimal, Octal, Groups, Text, Setting, Label, Rules, Pieces, Spells, SpellLine}
use Rattle.mf_spelling.specs.Canonical.{piece_text, words_behind}
use Rattle.mf_spelled.proofs.WordTexts.{is_word, AreWords, behind}
use Rattle.mf_spelled.proofs.NumberTexts.{number_back, mode_back, groups_back, text_back, decimal_word, octal_word, groups_word, text_word}
use Rattle.mf_spelled.proofs.NameTexts.{setting_word}
use Rattle.mf_spelled.proofs.LabelTexts.{label_word, label_back}
use Rattle.mf_spelled.proofs.RuleTexts.{words_of, words_of_rule, words_behind_text}
use Rattle.mf_spelled.proofs.Lines.{onto}

-- a piece that a word can spell
abbrev pub IsOfWord : Piece → Type 0
IsOfWord (Word w) = is_word w ≡ true
IsOfWord (Decimal most n) = (most < 2 ^ 64) × (n ≤ most)
IsOfWord (Octal n) = n ≤ MODE_LIMIT
IsOfWord (Groups groups) = (groups ≢ []) × All (λ group. group ≤ UID_MAX) groups
IsOfWord (Text bytes) = (bytes ≢ []) × All (λ byte. byte < 256) bytes
IsOfWord (Setting name value) = IsPrintable name × IsPrintable value × All (λ b. b ≢ byte "=") name
IsOfWord (Label request) = IsRequest request × (request.other ≡ false)
IsOfWord (Rules r) = ⊥

-- pieces that words can spell, of which a rule is the last
abbrev pub AreOfWords : Pieces → Type 0
AreOfWords [] = Unit {0}
AreOfWords (Rules r ∷ []) = rule.IsRule r
AreOfWords (piece ∷ pieces) = IsOfWord piece × AreOfWords pieces

free : (name : List ℕ) → All (λ b. b ≢ byte "=") name → IsFree (byte "=") name
free [] each = tt
free (b ∷ name) each = (All-head (λ b. b ≢ byte "=") b name each, free name (All-tail (λ b. b ≢ byte "=") b name each))

piece_word : (piece : Piece) → IsOfWord piece → is_word (piece_text piece) ≡ true
piece_word (Word w) so = so
piece_word (Decimal most n) so = decimal_word n (omega (arith, so.0, so.1))
piece_word (Octal n) so = octal_word n so
piece_word (Groups groups) so = groups_word groups so.0 so.1
piece_word (Text bytes) so = text_word bytes so.0 so.1
piece_word (Setting name value) so = setting_word name value so.0 so.1
piece_word (Label request) so = label_word request so.0
piece_word (Rules r) so = absurd so

piece_spelled : (piece : Piece) → IsOfWord piece → Spells (piece_text piece) piece
piece_spelled (Word w) so = refl
piece_spelled (Decimal most n) so = number_back most n so.0 so.1
piece_spelled (Octal n) so = mode_back n so
piece_spelled (Groups groups) so = groups_back groups so.0 so.1
piece_spelled (Text bytes) so = text_back bytes so.1
piece_spelled (Setting name value) so = cut_free (byte "=") name value (free name so.2)
piece_spelled (Label request) so = label_back request so.0 so.1
piece_spelled (Rules r) so = absurd so

-- words that spell pieces, whose text is these words
pub record AreWritten (pieces : Pieces) : Type 0 where
  pub words : Words
  pub text : words_behind pieces ≡ behind words
  pub graphic : AreWords words
  pub spelled : SpellLine words pieces

one_before : (piece : Piece) (pieces : Pieces) → IsOfWord piece → AreWritten pieces → AreWritten (piece ∷ pieces)
one_before piece pieces so rest = record {
  words = piece_text piece ∷ rest.words;
  text = ap (λ more. 32 ∷ (piece_text piece ++ more)) rest.text;
  graphic = (piece_word piece so, rest.graphic);
  spelled = onto (piece_text piece) rest.words piece pieces (piece_spelled piece so) rest.spelled;
}

no_words : (subject more : Words) → [] ≡ codes "subject" ∷ subject ++ more → ⊥
no_words subject more e = cc

rule_spelled : (r : Rule) (ws : Words) → rule.SpellsRule ws r → SpellLine ws (Rules r ∷ [])
rule_spelled r [] spells = absurd (no_words spells.subject (codes "object" ∷ spells.object ++ (codes "mode" ∷ spells.letters ∷ [])) spells.parted)
rule_spelled r (w ∷ ws) spells = spells

rule_written : (r : Rule) → rule.IsRule r → AreWritten (Rules r ∷ [])
rule_written r is = record {
  words = words_of r;
  text = ap (λ text. 32 ∷ text) (append-nil (rule_text r)) ∙ sym (words_behind_text r);
  graphic = words_of_rule r is;
  spelled = rule_spelled r (words_of r) (read_is_spelled (words_of r) r (canonical_text_reads r is));
}

pub are_written : (pieces : Pieces) → AreOfWords pieces → AreWritten pieces
are_written [] so = record { words = []; text = refl; graphic = tt; spelled = tt }
are_written (Rules r ∷ []) so = rule_written r so
are_written (Rules r ∷ piece ∷ pieces) so = absurd so.0
are_written (Word w ∷ pieces) so = one_before (Word w) pieces so.0 (are_written pieces so.1)
are_written (Decimal most n ∷ pieces) so = one_before (Decimal most n) pieces so.0 (are_written pieces so.1)
are_written (Octal n ∷ pieces) so = one_before (Octal n) pieces so.0 (are_written pieces so.1)
are_written (Groups groups ∷ pieces) so = one_before (Groups groups) pieces so.0 (are_written pieces so.1)
are_written (Text bytes ∷ pieces) so = one_before (Text bytes) pieces so.0 (are_written pieces so.1)
are_written (Setting name value ∷ pieces) so = one_before (Setting name value) pieces so.0 (are_written pieces so.1)
are_written (Label request ∷ pieces) so = one_before (Label request) pieces so.0 (are_written pieces so.1)
