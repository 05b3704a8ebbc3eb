-- Lines that spell well-formed calls are read as them.
use Rattle.std.proofs.Common.{◌≡◌, ℕ, false, List, [], ◌∷◌, Option, Some, None, Ok, refl, sym, subst, ap, ◌∙◌, codes}
use Rattle.std.specs.Str.{bytes_eq}
use Rattle.std.specs.Option.{IfSome}
use Rattle.mf_words.specs.Words.{Words, is_comment}
use Rattle.mf_calls.specs.WellFormed.{IsFormedCall, IsFormedLine, IsName}
use Rattle.mf_calls.specs.declared.script.Call.{Call}
use Rattle.mf_calls.specs.declared.script.Line.{Line}
use Rattle.mf_script.specs.declared.error.ScriptFault.TheVariants.{UnknownWord}
use Rattle.mf_script.specs.Readers.{and_then, by_option, fails}
use Rattle.mf_script.specs.Parts.{no_more}
use Rattle.mf_script.specs.Calls.{Arguments, call_in, call_named, call_words}
use Rattle.mf_script.specs.Lines.{line_words}
use Rattle.mf_spelling.specs.Spelling.{Word, SpellLine, call_pieces, line_pieces}
use Rattle.mf_spelled.proofs.CallRows.{IsOpening, opening, row_of}
use Rattle.mf_spelled.proofs.Lines.{front}
use Rattle.mf_spelled.proofs.WordsBack.{name_back}

-- the name of the call in front, and then its arguments
by_row : (c : Call) (ws : Words) → SpellLine ws (call_pieces c) → SpellLine ws (Word (row_of c).name ∷ (row_of c).behind)
by_row c ws spelled = subst (SpellLine ws) (row_of c).are spelled

call_back : (c : Call) → IsFormedCall c → (ws : Words) → SpellLine ws (call_pieces c) → call_words ws ≡ Ok c
unfolding call_words call_named call_in and_then
call_back c formed ws spelled =
    let r = row_of c in
    let f = front ws (Word r.name) r.behind tt (by_row c ws spelled) in
    ap call_words (f.whole ∙ ap (λ w. w ∷ f.rest) f.spells)
    ∙ ap (λ (found : Option Arguments). and_then (by_option found (fails UnknownWord) (λ arguments. arguments f.rest)) (λ read. and_then (no_more read.1) (λ u. Ok read.0))) r.found
    ∙ r.back formed f.rest f.spelled

-- Lines of a task

-- what a line of a task opens with, and that it is read
pub record IsLineRead (line : Line) (w : List ℕ) (ws : Words) : Type 0 where
  pub no_end : bytes_eq w (codes "end") ≡ false
  pub no_comment : is_comment w ≡ false
  pub is : line_words w ws ≡ Ok line

with_child : (child : Option (List ℕ)) (c : Call) → IfSome child IsName → IsFormedCall c → (w : List ℕ) (ws : Words) → SpellLine (w ∷ ws) (line_pieces (record { child = child; call = c })) → IsLineRead (record { child = child; call = c }) w ws
unfolding line_words and_then call_words
with_child None c child_is call_is w ws spelled =
    let opens : IsOpening w = subst IsOpening (sym (by_row c (w ∷ ws) spelled).0) (opening c) in
    record {
      no_end = opens.no_end;
      no_comment = opens.no_comment;
      is = rw (opens.no_child, call_back c call_is (w ∷ ws) spelled) refl;
    }
with_child (Some child) c child_is call_is w ws spelled = record {
  no_end = ap (λ w. bytes_eq w (codes "end")) spelled.0;
  no_comment = ap is_comment spelled.0;
  is = ap (λ w. line_words w ws) spelled.0 ∙ rw (name_back child child_is child refl, call_back c call_is ws spelled.1) refl;
}

pub line_back : (line : Line) → IsFormedLine line → (w : List ℕ) (ws : Words) → SpellLine (w ∷ ws) (line_pieces line) → IsLineRead line w ws
line_back line is w ws spelled = with_child line.child line.call is.child is.call w ws spelled

-- a line of a task has some word
pub no_words : (child : Option (List ℕ)) (c : Call) → SpellLine [] (line_pieces (record { child = child; call = c })) → ⊥
no_words None c spelled = absurd (by_row c [] spelled)
no_words (Some child) c spelled = absurd spelled
