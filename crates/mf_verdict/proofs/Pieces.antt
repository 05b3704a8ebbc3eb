-- The lines of a text that was put together of whole lines and a rest.
use Rattle.std.proofs.Common.{◌≡◌, ◌≢◌, ℕ, suc, ◌≤◌, Bool, true, false, not, cond, ◌==◌, if◌then◌else◌, List, [], ◌∷◌, ◌++◌, length, drop, refl, ap, sym, ◌∙◌, subst, arith, append_assoc, append-nil, length-append, ne_eqb, inl, inr}
use Rattle.std.proofs.lemmas.List.{drop_at}
use Rattle.std.proofs.lemmas.List.Sums.{take_while-cons}
use Rattle.std.specs.List.{concat, onto_first, take_while}
use Rattle.std.specs.Str.{byte}
use Rattle.mf_verdict.specs.Pieces.{pieces, is_source, history_part, sources_part}
use Rattle.mf_hist.specs.Found.{Lacks}
use Rattle.mf_verdict.specs.Lines.{IsWholeLine, IsLastLine, IsFirstLine}

-- The lines give the text back, and there are no more of them than bytes

concat_onto : (b : ℕ) (lines : List (List ℕ)) → concat (onto_first b lines) ≡ b ∷ concat lines
concat_onto b [] = refl
concat_onto b (line ∷ lines) = refl

pub concat_pieces : (text : List ℕ) → concat (pieces text) ≡ text
concat_pieces [] = refl
concat_pieces (b ∷ bs) = by_test (b == byte "\n") (concat_pieces bs) where
  by_test : (t : Bool) → concat (pieces bs) ≡ bs → concat (if t then (b ∷ []) ∷ pieces bs else onto_first b (pieces bs)) ≡ b ∷ bs
  by_test true more = ap (λ (t : List ℕ). b ∷ t) more
  by_test false more = concat_onto b (pieces bs) ∙ ap (λ (t : List ℕ). b ∷ t) more

onto_few : (b : ℕ) (lines : List (List ℕ)) → length (onto_first b lines) ≤ suc (length lines)
onto_few b [] = omega arith
onto_few b (line ∷ lines) = omega arith

pub few_pieces : (text : List ℕ) → length (pieces text) ≤ length text
few_pieces [] = omega arith
few_pieces (b ∷ bs) = by_test (b == byte "\n") (few_pieces bs) (onto_few b (pieces bs)) where
  by_test : (t : Bool) → length (pieces bs) ≤ length bs → length (onto_first b (pieces bs)) ≤ suc (length (pieces bs))
      → length (if t then (b ∷ []) ∷ pieces bs else onto_first b (pieces bs)) ≤ suc (length bs)
  by_test true few onto = omega (arith, few)
  by_test false few onto = omega (arith, few, onto)

-- The first line

pub whole_first : (front rest : List ℕ) → Lacks (byte "\n") front → pieces ((front ++ byte "\n" ∷ []) ++ rest) ≡ (front ++ byte "\n" ∷ []) ∷ pieces rest
whole_first [] rest lacks = refl
whole_first (b ∷ front) rest lacks = rw (ne_eqb b (byte "\n") lacks.0) (ap (onto_first b) (whole_first front rest lacks.1))

last_first : (b : ℕ) (bs : List ℕ) → Lacks (byte "\n") (b ∷ bs) → pieces (b ∷ bs) ≡ (b ∷ bs) ∷ []
last_first b [] lacks = rw (ne_eqb b (byte "\n") lacks.0) refl
last_first b (c ∷ bs) lacks = rw (ne_eqb b (byte "\n") lacks.0) (ap (onto_first b) (last_first c bs lacks.1))

-- lines of which each has its newline: they stay apart from what is put behind them
pub record AreWhole (front : List ℕ) : Type 0 where
  pub apart : (rest : List ℕ) → pieces (front ++ rest) ≡ pieces front ++ pieces rest

pub whole_none : AreWhole []
whole_none = record { apart = λ rest. refl }

pub whole_one : (front : List ℕ) → Lacks (byte "\n") front → pieces (front ++ byte "\n" ∷ []) ≡ (front ++ byte "\n" ∷ []) ∷ []
whole_one front lacks = ap pieces (sym (append-nil (front ++ byte "\n" ∷ []))) ∙ whole_first front [] lacks

pub whole_line : (front : List ℕ) → Lacks (byte "\n") front → AreWhole (front ++ byte "\n" ∷ [])
whole_line front lacks = record {
  apart = λ rest. whole_first front rest lacks ∙ ap (λ (lines : List (List ℕ)). lines ++ pieces rest) (sym (whole_one front lacks));
}

pub whole_append : (a b : List ℕ) → AreWhole a → AreWhole b → AreWhole (a ++ b)
whole_append a b wa wb = record {
  apart = λ rest.
      ap pieces (append_assoc a b rest) ∙ wa.apart (b ++ rest) ∙ ap (λ (lines : List (List ℕ)). pieces a ++ lines) (wb.apart rest)
      ∙ sym (append_assoc (pieces a) (pieces b) (pieces rest)) ∙ ap (λ (lines : List (List ℕ)). lines ++ pieces rest) (sym (wa.apart b));
}

-- What the first line of a text that isn't empty is

pub record IsFirst (text line after : List ℕ) : Type 0 where
  pub parts : text ≡ line ++ after
  pub lines : pieces text ≡ line ∷ pieces after
  pub alone : pieces line ≡ line ∷ []
  pub some : line ≢ []
  pub whole : after ≢ [] → AreWhole line

some_front : (front : List ℕ) → front ++ byte "\n" ∷ [] ≢ []
some_front [] e = cc
some_front (b ∷ front) e = cc

pub first_whole : (text line after : List ℕ) → IsWholeLine text line after → IsFirst text line after
first_whole text line after is = subst (λ (l : List ℕ). IsFirst text l after) (sym is.with_newline) (record {
  parts = is.parts ∙ ap (λ (l : List ℕ). l ++ after) is.with_newline;
  lines = ap pieces (is.parts ∙ ap (λ (l : List ℕ). l ++ after) is.with_newline) ∙ whole_first is.front after is.lacks;
  alone = whole_one is.front is.lacks;
  some = some_front is.front;
  whole = λ more. whole_line is.front is.lacks;
})

last_alone : (text : List ℕ) → text ≢ [] → Lacks (byte "\n") text → pieces text ≡ text ∷ []
last_alone [] some lacks = absurd (some refl)
last_alone (b ∷ bs) some lacks = last_first b bs lacks

first_all : (text : List ℕ) → text ≢ [] → Lacks (byte "\n") text → IsFirst text text []
first_all text some lacks = record {
  parts = sym (append-nil text);
  lines = last_alone text some lacks;
  alone = last_alone text some lacks;
  some = some;
  whole = λ more. absurd (more refl);
}

pub first_last : (text line after : List ℕ) → text ≢ [] → IsLastLine text line after → IsFirst text line after
first_last text line after some is =
    subst (λ (a : List ℕ). IsFirst text line a) (sym is.none) (subst (λ (l : List ℕ). IsFirst text l []) (sym is.all) (first_all text some is.lacks))

pub first_of_some : (text line after : List ℕ) → text ≢ [] → IsFirstLine text line after → IsFirst text line after
first_of_some text line after some (inl is) = first_whole text line after is
first_of_some text line after some (inr is) = first_last text line after some is

-- the text behind the first line is shorter
pub first_shorter : (text line after : List ℕ) → IsFirst text line after → suc (length after) ≤ length text
first_shorter text [] after is = absurd (is.some refl)
first_shorter text (b ∷ line) after is = omega (arith, simp length-append at (ap length is.parts))

-- Lines that begin otherwise than the sources do

abbrev pub before_source : List (List ℕ) → List (List ℕ)
before_source lines = take_while (λ line. not (is_source line)) lines

pub before_other : (line : List ℕ) (lines : List (List ℕ)) → is_source line ≡ false → before_source (line ∷ lines) ≡ line ∷ before_source lines
before_other line lines other = take_while-cons (λ l. not (is_source l)) line lines ∙ ap (λ t. cond (not t) (line ∷ before_source lines) []) other

pub before_first : (line : List ℕ) (lines : List (List ℕ)) → is_source line ≡ true → before_source (line ∷ lines) ≡ []
before_first line lines source = take_while-cons (λ l. not (is_source l)) line lines ∙ ap (λ t. cond (not t) (line ∷ before_source lines) []) source

-- Walks along the lines of a text: what is passed, and what is left

pub record ArePassed (text front rest : List ℕ) : Type 0 where
  pub parts : text ≡ front ++ rest
  pub lines : pieces text ≡ pieces front ++ pieces rest
  pub history : history_part text ≡ pieces front ++ before_source (pieces rest)
  pub whole : rest ≢ [] → AreWhole front

pub passed_none : (text : List ℕ) → ArePassed text [] text
passed_none text = record { parts = refl; lines = refl; history = refl; whole = λ some. whole_none }

module _ (text front rest line after : List ℕ) (passed : ArePassed text front rest) (some : rest ≢ []) (first : IsFirst rest line after) where
  -- the lines of what is passed with one line more
  one_more : pieces (front ++ line) ≡ pieces front ++ line ∷ []
  one_more = (passed.whole some).apart line ∙ ap (λ (lines : List (List ℕ)). pieces front ++ lines) first.alone

  pushed : (more : List (List ℕ)) → pieces front ++ line ∷ more ≡ pieces (front ++ line) ++ more
  pushed more = sym (append_assoc (pieces front) (line ∷ []) more) ∙ ap (λ (lines : List (List ℕ)). lines ++ more) (sym one_more)

  pub passed_more : is_source line ≡ false → ArePassed text (front ++ line) after
  passed_more other = record {
    parts = passed.parts ∙ ap (λ (r : List ℕ). front ++ r) first.parts ∙ sym (append_assoc front line after);
    lines = passed.lines ∙ ap (λ (lines : List (List ℕ)). pieces front ++ lines) first.lines ∙ pushed (pieces after);
    history = passed.history ∙ ap (λ (lines : List (List ℕ)). pieces front ++ before_source lines) first.lines
        ∙ ap (λ (lines : List (List ℕ)). pieces front ++ lines) (before_other line (pieces after) other) ∙ pushed (before_source (pieces after));
    whole = λ more. whole_append front line (passed.whole some) (first.whole more);
  }

  pub source_next : is_source line ≡ true → history_part text ≡ pieces front
  source_next source =
      passed.history ∙ ap (λ (lines : List (List ℕ)). pieces front ++ before_source lines) first.lines
      ∙ ap (λ (lines : List (List ℕ)). pieces front ++ lines) (before_first line (pieces after) source) ∙ append-nil (pieces front)

-- where what is passed are the lines of the history, the others are those of the sources
pub rest_is : (text front rest : List ℕ) → pieces text ≡ pieces front ++ pieces rest → history_part text ≡ pieces front → sources_part text ≡ pieces rest
rest_is text front rest lines history =
    ap (λ (part : List (List ℕ)). drop (length part) (pieces text)) history ∙ ap (drop (length (pieces front))) lines ∙ drop_at (pieces front) (pieces rest) (length (pieces front)) refl

-- at the end of the text all lines are of the history
pub passed_all : (text front rest : List ℕ) → ArePassed text front rest → rest ≡ [] → (history_part text ≡ pieces text) × (text ≡ front)
passed_all text front rest passed none =
    let whole : text ≡ front = passed.parts ∙ ap (λ (r : List ℕ). front ++ r) none ∙ append-nil front in
    (passed.history ∙ ap (λ (r : List ℕ). pieces front ++ before_source (pieces r)) none ∙ append-nil (pieces front) ∙ ap pieces (sym whole), whole)
