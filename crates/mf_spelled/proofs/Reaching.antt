-- From place to place over lines that spell rows.
use Rattle.std.proofs.Common.{◌≡◌, ℕ, ◌+◌, Bool, true, false, not, cond, List, [], ◌∷◌, ◌++◌, map, Ok, Err, refl, sym, subst, ap, ◌∙◌}
use Rattle.std.specs.Prelude.{if◌then◌else◌}
use Rattle.std.specs.List.{filter, flat_map, list_all, AllZip}
use Rattle.std.proofs.lemmas.List.{append_assoc, append-nil}
use Rattle.std.proofs.lemmas.List.Concat.{flat_map_single}
use Rattle.mf_words.specs.Words.{Words, words_in, is_comment}
use Rattle.mf_calls.specs.declared.script.Script.{Script}
use Rattle.mf_script.specs.declared.error.ScriptFault.TheVariants as fault
use Rattle.mf_script.specs.declared.rows.Place.{Place}
use Rattle.mf_script.specs.Readers.{Read, and_then}
use Rattle.mf_script.specs.Grammar.{Reading, row_in, words_line, line_read, or_at, ended, script_from}
use Rattle.mf_script.proofs.ScriptWords.{both}
use Rattle.mf_spelling.specs.Spelling.{is_line_byte, Word, Pieces, SpellLine, says, sayings}
use Rattle.mf_spelled.proofs.WordsBack.{passes}
use Rattle.mf_spelled.proofs.Lines.{front}

-- the words of lines one after another
pub fold : Script → Place → List Words → Read Reading
fold s p [] = Ok (s, p)
fold s p (ws ∷ lines) = and_then (words_line s p ws) (λ next. fold next.0 next.1 lines)

-- whatever lines spell these rows, they lead from here to there
pub record Reaches (rows : List Pieces) (s : Script) (p : Place) (s' : Script) (p' : Place) : Type 0 where
  pub of : (lines : List Words) → AllZip SpellLine lines rows → fold s p lines ≡ Ok (s', p')

pub nowhere : (s : Script) (p : Place) → Reaches [] s p s p
unfolding fold
nowhere s p = record { of = by_lines } where
  by_lines : (lines : List Words) → AllZip SpellLine lines [] → fold s p lines ≡ Ok (s, p)
  by_lines [] spelled = refl
  by_lines (ws ∷ lines) spelled = absurd spelled

pub one_row : (row : Pieces) (s : Script) (p : Place) (s' : Script) (p' : Place) → ((ws : Words) → SpellLine ws row → words_line s p ws ≡ Ok (s', p')) → Reaches (row ∷ []) s p s' p'
unfolding fold and_then
one_row row s p s' p' reads = record { of = by_lines } where
  by_lines : (lines : List Words) → AllZip SpellLine lines (row ∷ []) → fold s p lines ≡ Ok (s', p')
  by_lines [] spelled = absurd spelled
  by_lines (ws ∷ []) spelled = ap (λ (read : Read Reading). and_then read (λ next. fold next.0 next.1 [])) (reads ws spelled.0)
  by_lines (ws ∷ vs ∷ lines) spelled = absurd spelled.1

-- lines that spell rows and more
record AreParted (lines : List Words) (rows more : List Pieces) : Type 0 where
  first : List Words
  rest : List Words
  whole : lines ≡ first ++ rest
  spelled : AllZip SpellLine first rows
  further : AllZip SpellLine rest more

parted : (rows more : List Pieces) (lines : List Words) → AllZip SpellLine lines (rows ++ more) → AreParted lines rows more
parted [] more lines spelled = record { first = []; rest = lines; whole = refl; spelled = tt; further = spelled }
parted (row ∷ rows) more [] spelled = absurd spelled
parted (row ∷ rows) more (ws ∷ lines) spelled =
    let parts = parted rows more lines spelled.1 in
    record { first = ws ∷ parts.first; rest = parts.rest; whole = ap (λ lines. ws ∷ lines) parts.whole; spelled = (spelled.0, parts.spelled); further = parts.further }

same_state : (a b : Reading) → (let r : Read Reading = Ok a in r) ≡ Ok b → a ≡ b
same_state a b e = cc

fold_on : (first rest : List Words) (s : Script) (p : Place) (s' : Script) (p' : Place) → fold s p first ≡ Ok (s', p') → fold s p (first ++ rest) ≡ fold s' p' rest
unfolding fold and_then
fold_on [] rest s p s' p' e = ap (λ (next : Reading). fold next.0 next.1 rest) (same_state (s, p) (s', p') e)
fold_on (ws ∷ first) rest s p s' p' e = by_read (words_line s p ws) (λ s p. fold_on first rest s p s' p') e where
  by_read : (read : Read Reading) → ((s : Script) (p : Place) → fold s p first ≡ Ok (s', p') → fold s p (first ++ rest) ≡ fold s' p' rest)
      → and_then read (λ next. fold next.0 next.1 first) ≡ Ok (s', p') → and_then read (λ next. fold next.0 next.1 (first ++ rest)) ≡ fold s' p' rest
  by_read (Ok next) further h = further next.0 next.1 h
  by_read (Err fault) further h = cc

pub and_on : (rows more : List Pieces) (s : Script) (p : Place) (s' : Script) (p' : Place) (s'' : Script) (p'' : Place) → Reaches rows s p s' p' → Reaches more s' p' s'' p'' → Reaches (rows ++ more) s p s'' p''
and_on rows more s p s' p' s'' p'' first rest = record {
  of = λ lines spelled.
      let parts = parted rows more lines spelled in
      ap (fold s p) parts.whole ∙ fold_on parts.first parts.rest s p s' p' (first.of parts.first parts.spelled) ∙ rest.of parts.rest parts.further;
}

-- One element after another: the script and the place by the elements so far

pub each_on : {A : Type 0} (rows : A → List Pieces) (at : List A → Script) (to : List A → Place) (whole : List A)
    → ((done : List A) (x : A) (rest : List A) → done ++ x ∷ rest ≡ whole → Reaches (rows x) (at done) (to done) (at (done ++ x ∷ [])) (to (done ++ x ∷ [])))
    → (rest done : List A) → done ++ rest ≡ whole → Reaches (flat_map rows rest) (at done) (to done) (at whole) (to whole)
each_on rows at to whole step [] done e =
    subst (λ all. Reaches [] (at done) (to done) (at all) (to all)) (sym (append-nil done) ∙ e) (nowhere (at done) (to done))
each_on rows at to whole step (x ∷ rest) done e =
    and_on (rows x) (flat_map rows rest) (at done) (to done) (at (done ++ x ∷ [])) (to (done ++ x ∷ [])) (at whole) (to whole)
    (step done x rest e) (each_on rows at to whole step rest (done ++ x ∷ []) (append_assoc done (x ∷ []) rest ∙ e))

pub each_row : {A : Type 0} (row : A → Pieces) (at : List A → Script) (to : List A → Place) (whole : List A)
    → ((done : List A) (x : A) (rest : List A) → done ++ x ∷ rest ≡ whole → (ws : Words) → SpellLine ws (row x) → words_line (at done) (to done) ws ≡ Ok (at (done ++ x ∷ []), to (done ++ x ∷ [])))
    → Reaches (map row whole) (at []) (to []) (at whole) (to whole)
each_row row at to whole step =
    subst (λ rows. Reaches rows (at []) (to []) (at whole) (to whole)) (flat_map_single row whole)
    (each_on (λ x. row x ∷ []) at to whole (λ done x rest e. one_row (row x) (at done) (to done) (at (done ++ x ∷ [])) (to (done ++ x ∷ [])) (step done x rest e)) whole [] refl)

-- a line that begins with that word, which is no comment
pub by_first : (text : List ℕ) (pieces : Pieces) (s : Script) (p : Place) (next : Reading) → is_comment text ≡ false
    → ((ws : Words) → SpellLine (text ∷ ws) (Word text ∷ pieces) → row_in s p text ws ≡ Ok next) → (ws : Words) → SpellLine ws (Word text ∷ pieces) → words_line s p ws ≡ Ok next
unfolding words_line
by_first text pieces s p next no_comment reads ws spelled =
    let f = front ws (Word text) pieces tt spelled in
    ap (words_line s p) (f.whole ∙ ap (λ w. w ∷ f.rest) f.spells)
    ∙ ap (λ (comment : Bool). if comment then Ok (s, p) else row_in s p text f.rest) no_comment
    ∙ reads f.rest (refl, f.spelled)

-- The lines of a text

said : (s : Script) (p : Place) (ws : Words) (lines : List Words) → fold s p (filter says (ws ∷ lines)) ≡ and_then (words_line s p ws) (λ next. fold next.0 next.1 (filter says lines))
unfolding fold words_line and_then
said s p [] lines = refl
said s p (w ∷ ws) lines = by_test (is_comment w) refl where
  by_test : (comment : Bool) → is_comment w ≡ comment → fold s p (cond (not comment) ((w ∷ ws) ∷ filter says lines) (filter says lines))
      ≡ and_then (if comment then Ok (s, p) else row_in s p w ws) (λ next. fold next.0 next.1 (filter says lines))
  by_test true e = refl
  by_test false e = ap (λ (comment : Bool). and_then (if comment then Ok (s, p) else row_in s p w ws) (λ next. fold next.0 next.1 (filter says lines))) e

pub read_lines : (lines : List (List ℕ)) (s : Script) (p : Place) (n : ℕ) (s' : Script) (p' : Place) → list_all (λ line. list_all is_line_byte line) lines ≡ true
    → fold s p (sayings lines) ≡ Ok (s', p') → ((n : ℕ) → ended s' p' n ≡ Ok s') → script_from s p n lines ≡ Ok s'
unfolding script_from fold line_read and_then
read_lines [] s p n s' p' plain e ends = ap (λ (next : Reading). ended next.0 next.1 n) (same_state (s, p) (s', p') e) ∙ ends n
read_lines (line ∷ lines) s p n s' p' plain e ends =
    let tests = both (list_all is_line_byte line) (list_all (λ line. list_all is_line_byte line) lines) plain in
    ap (λ (read : Read Reading). or_at n read (λ next. script_from next.0 next.1 (n + 1) lines)) (passes fault.NotText (list_all is_line_byte line) (λ u. words_line s p (words_in line)) tests.0)
    ∙ by_read (words_line s p (words_in line)) (λ s p h. read_lines lines s p (n + 1) s' p' tests.1 h ends) (sym (said s p (words_in line) (map words_in lines)) ∙ e)
  where
    by_read : (read : Read Reading) → ((s : Script) (p : Place) → fold s p (sayings lines) ≡ Ok (s', p') → script_from s p (n + 1) lines ≡ Ok s')
        → and_then read (λ next. fold next.0 next.1 (sayings lines)) ≡ Ok (s', p') → or_at n read (λ next. script_from next.0 next.1 (n + 1) lines) ≡ Ok s'
    by_read (Ok next) further h = further next.0 next.1 h
    by_read (Err fault) further h = cc
